-- A column of the state on bit planes: 32 words, word 4 i + r of which has bit i of row r; MIXCOLUMNS and the first step of
-- INVMIXCOLUMNS on it.
use Rattle.std.specs.Prelude.{List, [], ◌∷◌, ℕ, zero, suc, ◌+◌, ◌*◌, get_or}
use Rattle.bitslice.specs.Words.{xor_words, doubled_words}

-- ---- words in groups: word i of group k has index a k i

-- n words of group k, from the one at i
abbrev pub elems : (ℕ → ℕ → ℕ) → ℕ → ℕ → ℕ → List ℕ → List ℕ
elems a k i zero q = []
elems a k i (suc n) q = get_or q (a k i) 0 ∷ elems a k (suc i) n q

-- the words of a column: group k of 4
abbrev pub at4 : ℕ → ℕ → ℕ
at4 k zero = k
at4 k (suc i) = k + 4 * suc i

-- ---- a column by its rows

-- row 0: its word in each of the eight planes
abbrev pub row0 : List ℕ → List ℕ
row0 x =
    get_or x 0 0 ∷ get_or x 4 0 ∷ get_or x 8 0 ∷ get_or x 12 0 ∷ get_or x 16 0 ∷ get_or x 20 0 ∷ get_or x 24 0 ∷ get_or x 28 0 ∷ []

-- row 1: its word in each of the eight planes
abbrev pub row1 : List ℕ → List ℕ
row1 x =
    get_or x 1 0 ∷ get_or x 5 0 ∷ get_or x 9 0 ∷ get_or x 13 0 ∷ get_or x 17 0 ∷ get_or x 21 0 ∷ get_or x 25 0 ∷ get_or x 29 0 ∷ []

-- row 2: its word in each of the eight planes
abbrev pub row2 : List ℕ → List ℕ
row2 x =
    get_or x 2 0 ∷ get_or x 6 0 ∷ get_or x 10 0 ∷ get_or x 14 0 ∷ get_or x 18 0 ∷ get_or x 22 0 ∷ get_or x 26 0 ∷ get_or x 30 0 ∷ []

-- row 3: its word in each of the eight planes
abbrev pub row3 : List ℕ → List ℕ
row3 x =
    get_or x 3 0 ∷ get_or x 7 0 ∷ get_or x 11 0 ∷ get_or x 15 0 ∷ get_or x 19 0 ∷ get_or x 23 0 ∷ get_or x 27 0 ∷ get_or x 31 0 ∷ []

-- four rows of eight words, as a column
abbrev weave : List ℕ → List ℕ → List ℕ → List ℕ → List ℕ
weave (a ∷ a') (b ∷ b') (c ∷ c') (d ∷ d') = a ∷ b ∷ c ∷ d ∷ weave a' b' c' d'
weave (a ∷ a') (b ∷ b') (c ∷ c') [] = []
weave (a ∷ a') (b ∷ b') [] d' = []
weave (a ∷ a') [] c' d' = []
weave [] b' c' d' = []

-- a row of MIXCOLUMNS: 2 (a + b) + b + c + d, where b, c and d are the rows below a
abbrev pub mix_row : List ℕ → List ℕ → List ℕ → List ℕ → List ℕ
mix_row a b c d = xor_words (doubled_words (xor_words a b)) (xor_words b (xor_words c d))

-- MIXCOLUMNS (5.1.3)
unfoldable pub mix_of : List ℕ → List ℕ
mix_of x =
    weave (mix_row (row0 x) (row1 x) (row2 x) (row3 x)) (mix_row (row1 x) (row2 x) (row3 x) (row0 x)) (mix_row (row2 x) (row3 x) (row0 x) (row1 x))
    (mix_row (row3 x) (row0 x) (row1 x) (row2 x))

-- x + 4 (a + c)
abbrev pub premix_row : List ℕ → List ℕ → List ℕ → List ℕ
premix_row x a c = xor_words x (doubled_words (doubled_words (xor_words a c)))

-- what INVMIXCOLUMNS does before MIXCOLUMNS
unfoldable pub premix_of : List ℕ → List ℕ
premix_of x =
    weave (premix_row (row0 x) (row0 x) (row2 x)) (premix_row (row1 x) (row1 x) (row3 x)) (premix_row (row2 x) (row0 x) (row2 x))
    (premix_row (row3 x) (row1 x) (row3 x))
