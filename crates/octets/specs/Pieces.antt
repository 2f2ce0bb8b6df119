-- Work on a string piece by piece: pieces of equal length, the last maybe shorter, each with its number.
use Rattle.std.specs.Prelude.{List, [], ◌++◌, ℕ, zero, suc, ◌+◌, ◌-◌, ◌/◌, length, take, drop}

-- what f makes of the first m pieces of x, of D bytes each, numbered from u
unfoldable pub pieces : ℕ → (ℕ → List ℕ → List ℕ) → ℕ → ℕ → List ℕ → List ℕ
pieces D f u zero x = []
pieces D f u (suc m) x = f u (take D x) ++ pieces D f (suc u) m (drop D x)

-- how many pieces of D bytes n bytes make: n / D, rounded up
abbrev pub piece_count : ℕ → ℕ → ℕ
piece_count D n = (n + (D - 1)) / D

-- what f makes of all pieces of x, numbered from u
unfoldable pub in_pieces : ℕ → (ℕ → List ℕ → List ℕ) → ℕ → List ℕ → List ℕ
in_pieces D f u x = pieces D f u (piece_count D (length x)) x
