-- 32 blocks in 128 words of 32 bits, in two orders: a word for each column of each block, or bit planes with a lane for each block.
use Rattle.std.specs.Prelude.{◌≡◌, List, [], ◌∷◌, ◌++◌, map, ℕ, zero, suc, ◌+◌, ◌*◌, ◌/◌, ◌%◌, ◌^◌, ◌<◌, get_or, take, drop}
use Rattle.std.specs.Int.Bits.{bit_xor, bit_and}
use Rattle.octets.specs.Octets.{◌⊕◌}
use Rattle.gf256.specs.Field.{xtime}
use Rattle.bitslice.specs.Words.{lane_byte}
use Rattle.aes.specs.Aes.{round_key}

-- ---- blocks: word 4 b + c is column c of block b

-- the four bytes of a word, the lowest first
unfoldable pub column : ℕ → List ℕ
column x = x % 256 ∷ x / 256 % 256 ∷ x / 256 / 256 % 256 ∷ x / 256 / 256 / 256 % 256 ∷ []

-- block b
unfoldable pub block : ℕ → List ℕ → List ℕ
block b q = column (get_or q (4 * b) 0) ++ (column (get_or q (4 * b + 1) 0) ++ (column (get_or q (4 * b + 2) 0) ++ column (get_or q (4 * b + 3) 0)))

-- ---- bit planes: bit j of word 16 i + 4 r + c is bit i of the byte in row r and column c of the state in lane j

-- the words of the eight bits of the byte at p = 4 r + c
abbrev pub cell : ℕ → List ℕ → List ℕ
cell p q =
    get_or q p 0 ∷ get_or q (p + 16) 0 ∷ get_or q (p + 32) 0 ∷ get_or q (p + 48) 0 ∷ get_or q (p + 64) 0 ∷ get_or q (p + 80) 0 ∷ get_or q (p + 96) 0
    ∷ get_or q (p + 112) 0 ∷ []

-- the bytes in the order of the state, column after column
abbrev pub places : List ℕ
places = 0 ∷ 4 ∷ 8 ∷ 12 ∷ 1 ∷ 5 ∷ 9 ∷ 13 ∷ 2 ∷ 6 ∷ 10 ∷ 14 ∷ 3 ∷ 7 ∷ 11 ∷ 15 ∷ []

-- the state in lane j
unfoldable pub state : ℕ → List ℕ → List ℕ
state j q = map (λ p. lane_byte j (cell p q)) places

-- r is q with f done to the state in each lane
abbrev pub Each : (List ℕ → List ℕ) → List ℕ → List ℕ → Type 0
Each f q r = (j : ℕ) → j < 32 → state j r ≡ f (state j q)

-- INVMIXCOLUMNS is this and then MIXCOLUMNS: each byte with 4 times its sum with the byte two rows below
unfoldable pub premix : List ℕ → List ℕ
premix (a ∷ b ∷ c ∷ d ∷ x) =
    (a ⊕ xtime (xtime (a ⊕ c))) ∷ (b ⊕ xtime (xtime (b ⊕ d))) ∷ (c ⊕ xtime (xtime (a ⊕ c))) ∷ (d ⊕ xtime (xtime (b ⊕ d))) ∷ premix x
premix (a ∷ b ∷ c ∷ []) = a ∷ b ∷ c ∷ []
premix (a ∷ b ∷ []) = a ∷ b ∷ []
premix (a ∷ []) = a ∷ []
premix [] = []

-- r is the sum of q and k, word by word
abbrev pub Sum : List ℕ → List ℕ → List ℕ → Type 0
Sum q k r = (v : ℕ) → v < 128 → get_or r v 0 ≡ bit_xor (get_or q v 0) (get_or k v 0)

-- the first m round keys of w, each in all lanes
unfoldable pub Sliced : ℕ → List ℕ → List ℕ → Type 0
Sliced m w ks = (i j : ℕ) → i < m → j < 32 → state j (take 128 (drop (i * 128) ks)) ≡ round_key w i

-- ---- from the one order to the other

-- the lane of block b
abbrev pub lane_of : ℕ → ℕ
lane_of b = 8 * (b % 4) + b / 4

-- the blocks of the one are the lanes of the other
pub record Transposed (q r : List ℕ) : Type 0 where
  pub to_lanes : (b : ℕ) → b < 32 → state (lane_of b) r ≡ block b q
  pub to_blocks : (b : ℕ) → b < 32 → block b r ≡ state (lane_of b) q

-- one of two words, where the bits of a at m shifted up by s and the bits of b at m have changed places
abbrev pub exchanged : ℕ → ℕ → ℕ → ℕ → ℕ → ℕ
exchanged zero s m a b = bit_xor a (bit_and (bit_xor (a / 2 ^ s) b) m * 2 ^ s % 2 ^ 32)
exchanged (suc k) s m a b = bit_xor b (bit_and (bit_xor (a / 2 ^ s) b) m)

-- r has the rows of the two halves of q by turns, with bits exchanged; a row is four words
abbrev pub Exchanged : ℕ → ℕ → List ℕ → List ℕ → Type 0
Exchanged s m q r = (v : ℕ) → v < 128 → get_or r v 0 ≡ exchanged (v / 4 % 2) s m (get_or q (4 * (v / 8) + v % 4) 0) (get_or q (4 * (v / 8) + v % 4 + 64) 0)
