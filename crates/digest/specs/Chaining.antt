-- What SHA-1 and SHA-256 share (FIPS 180-4): padding, blocks of 64 bytes or 16 words, and chaining words that a compression function
-- takes from block to block. A word is a number below 2 ^ 32, a byte one below 256.
use Rattle.std.specs.Prelude.{◌≡◌, List, [], ◌∷◌, ◌++◌, ℕ, zero, suc, ◌+◌, ◌-◌, ◌*◌, ◌/◌, ◌%◌, ◌^◌, ◌≤◌, ◌<◌, length, take, drop}
use Rattle.std.specs.Int.Bits.{bit_and, bit_xor}
use Rattle.octets.specs.Octets.{zeros, big_endian, be32_at, be32}
use Rattle.digest.specs.Digest.{Digest}

-- ---- words (2.2.2, 4.1.1, 4.1.2)

-- each element is a word
abbrev pub Words : List ℕ → Type 0
Words [] = Unit {0}
Words (x ∷ xs) = (x < 2 ^ 32) × Words xs

-- addition modulo 2 ^ 32
infixl 68 ◌⊞◌
abbrev pub ◌⊞◌ : ℕ → ℕ → ℕ
a ⊞ b = (a + b) % 2 ^ 32

-- Ch(x, y, z) = (x AND y) XOR (NOT x AND z); NOT x is 2 ^ 32 - 1 - x
abbrev pub ch : ℕ → ℕ → ℕ → ℕ
ch x y z = bit_xor (bit_and x y) (bit_and ((2 ^ 32 - 1) - x) z)

-- Maj(x, y, z) = (x AND y) XOR (x AND z) XOR (y AND z)
abbrev pub maj : ℕ → ℕ → ℕ → ℕ
maj x y z = bit_xor (bit_xor (bit_and x y) (bit_and x z)) (bit_and y z)

-- the bytes of the words, the highest first
unfoldable pub digest : List ℕ → List ℕ
digest [] = []
digest (x ∷ xs) = be32 x ++ digest xs

-- ---- preprocessing (5.1.1, 5.2.1)

-- what follows a message of n bytes: a bit 1, the least zeros to a whole block, the length in bits as 8 bytes
unfoldable pub padding : ℕ → List ℕ
padding n = 128 ∷ (zeros ((119 - n % 64) % 64) ++ big_endian 8 (8 * n))

-- the first n words of a block of bytes
unfoldable pub words : List ℕ → ℕ → List ℕ
words m zero = []
words m (suc n) = words m n ++ (be32_at m (4 * n) ∷ [])

-- ---- a block (6.1.2, 6.2.2)

-- step 1: the first 16 + n words of the message schedule of the block m, where next w t is W_t and w has the words before it
unfoldable pub schedule : (List ℕ → ℕ → ℕ) → List ℕ → ℕ → List ℕ
schedule next m zero = m
schedule next m (suc n) = let w = schedule next m n in w ++ (next w (16 + n) ∷ [])

-- ---- a message (6.1, 6.2)

-- a compression function, with the chaining words that it starts from
pub record Compression : Type 0 where
  pub count : ℕ  -- of chaining words
  pub initial : List ℕ  -- H^(0)
  pub compress : List ℕ → List ℕ → List ℕ  -- the chaining words after a block, from those before it and the block's 16 words

-- what the laws need of it
pub record LawfulCompression (C : Compression) : Type 0 where
  pub at_least : 5 ≤ C.count
  pub at_most : C.count ≤ 8
  pub length_initial : length C.initial ≡ C.count
  pub length_compress : (s m : List ℕ) → length (C.compress s m) ≡ C.count
  pub words_compress : (s m : List ℕ) → Words (C.compress s m)

module _ (C : Compression) where
  -- the chaining words after the block m of 64 bytes
  unfoldable pub compress_block : List ℕ → List ℕ → List ℕ
  compress_block s m = C.compress s (words m 16)

  -- the chaining words after the first n blocks of m
  unfoldable pub blocks : List ℕ → List ℕ → ℕ → List ℕ
  blocks s m zero = s
  blocks s m (suc n) = compress_block (blocks s m n) (take 64 (drop (64 * n) m))

  -- the digest of the message m
  unfoldable pub hash : List ℕ → List ℕ
  hash m = let p = m ++ padding (length m) in digest (blocks C.initial p (length p / 64))

  -- the last chaining words of a message whose first n bytes, whole blocks, led to s, and whose rest is m
  unfoldable pub finish : List ℕ → ℕ → List ℕ → List ℕ
  finish s n m = let p = m ++ padding (n + length m) in blocks s p (length p / 64)

  -- the hash function, as a digest
  abbrev pub chained : Digest
  chained = record { size = 4 * C.count; block = 64; hash = hash }
