-- Bytes in words, bit by bit: a byte string in eight words, word i of which has bit i of each byte, and the layers of AES on such words.
use Rattle.std.specs.Prelude.{List, [], ◌∷◌, map, ℕ, ◌+◌, ◌*◌, ◌/◌, ◌%◌, ◌^◌, get_or}
use Rattle.std.specs.Int.Bits.{bit_xor}

-- a 1 in each of the 32 bits
abbrev pub ones : ℕ
ones = 4294967295

-- bit j of a word
unfoldable pub lane : ℕ → ℕ → ℕ
lane j w = w / 2 ^ j % 2

-- the number with the bits l, the lowest first
abbrev pub value : List ℕ → ℕ
value [] = 0
value (b ∷ l) = b + 2 * value l

-- the byte in bit j of eight words
unfoldable pub lane_byte : ℕ → List ℕ → ℕ
lane_byte j q = value (map (lane j) q)

-- a sum, word by word
unfoldable pub xor_words : List ℕ → List ℕ → List ℕ
xor_words [] ks = []
xor_words (x ∷ xs) [] = []
xor_words (x ∷ xs) (k ∷ ks) = bit_xor x k ∷ xor_words xs ks

-- XTIMES (4.2) of each byte
abbrev pub doubled_words : List ℕ → List ℕ
doubled_words p =
    get_or p 7 0 ∷ bit_xor (get_or p 0 0) (get_or p 7 0) ∷ get_or p 1 0 ∷ bit_xor (get_or p 2 0) (get_or p 7 0) ∷ bit_xor (get_or p 3 0) (get_or p 7 0)
    ∷ get_or p 4 0 ∷ get_or p 5 0 ∷ get_or p 6 0 ∷ []
