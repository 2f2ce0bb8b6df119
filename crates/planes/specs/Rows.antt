-- Parts of 128 words, read and stored: a row is four neighbouring words, and row 4 i + r has bit i of the bytes of the state's row r.
use Rattle.std.specs.Prelude.{List, [], ◌∷◌, ℕ, ◌+◌, ◌*◌, ◌%◌, get_or, set}
use Rattle.std.specs.Int.Bits.{bit_xor}
use Rattle.aes.specs.Planes.{exchanged}

-- row g
abbrev pub row_of : ℕ → List ℕ → List ℕ
row_of g q = get_or q (4 * g) 0 ∷ get_or q (4 * g + 1) 0 ∷ get_or q (4 * g + 2) 0 ∷ get_or q (4 * g + 3) 0 ∷ []

-- q with the words of x as row g
abbrev pub put_row : ℕ → List ℕ → List ℕ → List ℕ
put_row g x q = set (set (set (set q (4 * g) (get_or x 0 0)) (4 * g + 1) (get_or x 1 0)) (4 * g + 2) (get_or x 2 0)) (4 * g + 3) (get_or x 3 0)

-- the sum of two rows, x turned to the left by m words and y by n
abbrev pub turned_sum : ℕ → ℕ → List ℕ → List ℕ → List ℕ
turned_sum m n x y =
    bit_xor (get_or x (m % 4) 0) (get_or y (n % 4) 0) ∷ bit_xor (get_or x ((m + 1) % 4) 0) (get_or y ((n + 1) % 4) 0)
    ∷ bit_xor (get_or x ((m + 2) % 4) 0) (get_or y ((n + 2) % 4) 0) ∷ bit_xor (get_or x ((m + 3) % 4) 0) (get_or y ((n + 3) % 4) 0) ∷ []

-- q with the words of r for the eight bits of the byte at p
abbrev pub put_cell : ℕ → List ℕ → List ℕ → List ℕ
put_cell p r q =
    set (set (set (set (set (set (set (set q p (get_or r 0 0)) (p + 16) (get_or r 1 0)) (p + 32) (get_or r 2 0)) (p + 48) (get_or r 3 0))
    (p + 64) (get_or r 4 0)) (p + 80) (get_or r 5 0)) (p + 96) (get_or r 6 0)) (p + 112) (get_or r 7 0)

-- two rows with bits exchanged: the first of them, or the second
abbrev pub exchanged_row : ℕ → ℕ → ℕ → List ℕ → List ℕ → List ℕ
exchanged_row h s m x y =
    exchanged h s m (get_or x 0 0) (get_or y 0 0) ∷ exchanged h s m (get_or x 1 0) (get_or y 1 0) ∷ exchanged h s m (get_or x 2 0) (get_or y 2 0)
    ∷ exchanged h s m (get_or x 3 0) (get_or y 3 0) ∷ []
