-- The words of a column of the state on bit planes: a plane has four of them, one for each row.
use Rattle.std.specs.Prelude.{◌≡◌, ◌≢◌, List, [], ◌∷◌, ℕ, ◌+◌, ◌<◌, length, get_or, set}
use Rattle.std.specs.Int.Bits.{bit_xor}
use Rattle.aes.specs.Columns.{elems, at4}

-- ---- the rows of a plane in a column, the first of which is word k

-- these four words of q
abbrev pub rows_at : ℕ → List ℕ → List ℕ
rows_at k q = get_or q k 0 ∷ get_or q (k + 4) 0 ∷ get_or q (k + 8) 0 ∷ get_or q (k + 12) 0 ∷ []

-- q with the rows x there
abbrev pub put_rows : ℕ → List ℕ → List ℕ → List ℕ
put_rows k x q = set (set (set (set q k (get_or x 0 0)) (k + 4) (get_or x 1 0)) (k + 8) (get_or x 2 0)) (k + 12) (get_or x 3 0)

-- b has the rows at i, and r is q with the rows f b at k
pub record ReadPut (i k : ℕ) (f : List ℕ → List ℕ) (q b r : List ℕ) : Type 0 where
  pub size : length r ≡ 128
  pub read : b ≡ rows_at i q
  pub put : r ≡ put_rows k (f b) q

-- ---- sums of rows

-- the exclusive or of two, row by row
abbrev pub sum_of : List ℕ → List ℕ → List ℕ
sum_of x y = bit_xor (get_or x 0 0) (get_or y 0 0) ∷ bit_xor (get_or x 1 0) (get_or y 1 0) ∷ bit_xor (get_or x 2 0) (get_or y 2 0) ∷ bit_xor (get_or x 3 0) (get_or y 3 0) ∷ []

-- the sum of each row and the row below it
abbrev pub next_sums : List ℕ → List ℕ
next_sums a = bit_xor (get_or a 0 0) (get_or a 1 0) ∷ bit_xor (get_or a 1 0) (get_or a 2 0) ∷ bit_xor (get_or a 2 0) (get_or a 3 0) ∷ bit_xor (get_or a 3 0) (get_or a 0 0) ∷ []

-- the sum of each row and the row two below it
abbrev pub cross_sums : List ℕ → List ℕ
cross_sums a = bit_xor (get_or a 0 0) (get_or a 2 0) ∷ bit_xor (get_or a 1 0) (get_or a 3 0) ∷ bit_xor (get_or a 0 0) (get_or a 2 0) ∷ bit_xor (get_or a 1 0) (get_or a 3 0) ∷ []

-- the sum of h with the three rows below each row
abbrev pub mixed_of : List ℕ → List ℕ → List ℕ
mixed_of h a =
    bit_xor (get_or h 0 0) (bit_xor (get_or a 1 0) (bit_xor (get_or a 2 0) (get_or a 3 0))) ∷ bit_xor (get_or h 1 0) (bit_xor (get_or a 2 0) (bit_xor (get_or a 3 0) (get_or a 0 0)))
    ∷ bit_xor (get_or h 2 0) (bit_xor (get_or a 3 0) (bit_xor (get_or a 0 0) (get_or a 1 0))) ∷ bit_xor (get_or h 3 0) (bit_xor (get_or a 0 0) (bit_xor (get_or a 1 0) (get_or a 2 0))) ∷ []

-- ---- a column

-- r is q with f done to the 32 words of column c
pub record Column (f : List ℕ → List ℕ) (c : ℕ) (q r : List ℕ) : Type 0 where
  pub size : length r ≡ 128
  pub here : elems at4 c 0 32 r ≡ f (elems at4 c 0 32 q)
  pub there : (d : ℕ) → d < 4 → d ≢ c → elems at4 d 0 32 r ≡ elems at4 d 0 32 q
