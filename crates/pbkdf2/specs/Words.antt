-- PBKDF2 on chaining words, as the inner functions compute it: two compressions for a value of HMAC.
use Rattle.std.specs.Prelude.{◌≡◌, List, [], ◌∷◌, ◌++◌, ℕ, ◌+◌, ◌-◌, ◌*◌, length, take}
use Rattle.octets.specs.Octets.{zeros, be32}
use Rattle.digest.specs.Chaining.{Compression, digest, finish, chained}
use Rattle.sha_1.specs.Sha1 as sha1
use Rattle.lanes.specs.Lanes.{lane, four_digests}
use Rattle.pbkdf2.specs.Pbkdf2.{folded, laid}

-- the padding of a message of one whole block and n words, as the words that fill its last block
unfoldable pub padding_words : ℕ → List ℕ
padding_words n = 0x80000000 ∷ (zeros (14 - n) ++ ((512 + 32 * n) ∷ []))

-- that last block, where the words are u
unfoldable pub last_block : List ℕ → List ℕ
last_block u = u ++ padding_words (length u)

module _ (C : Compression) where
  -- HMAC of the words u, from the chaining words after the inner and the outer key block
  unfoldable pub prf_words : List ℕ → List ℕ → List ℕ → List ℕ
  prf_words i o u = C.compress o (last_block (C.compress i (last_block u)))

  -- U_1 of T_n
  unfoldable pub first_words : List ℕ → List ℕ → List ℕ → ℕ → List ℕ
  first_words i o s n = C.compress o (last_block (finish C i 64 (s ++ be32 n)))

  -- T_n, as words
  unfoldable pub block_words : List ℕ → List ℕ → List ℕ → ℕ → ℕ → List ℕ
  block_words i o s c n = folded (prf_words i o) (first_words i o s n) (c - 1)

  -- T_n
  abbrev pub block_bytes : List ℕ → List ℕ → List ℕ → ℕ → ℕ → List ℕ
  block_bytes i o s c n = digest (block_words i o s c n)

  -- x holds T_1 || .. || T_n, cropped where it ends
  abbrev pub Holds : List ℕ → List ℕ → List ℕ → ℕ → ℕ → List ℕ → Type 0
  Holds i o s c n x = take ((chained C).size * n) x ≡ take (length x) (laid (block_bytes i o s c) n)

-- in each lane of u the exclusive or of n + 1 values, of which u has the first, and these sums as bytes
abbrev pub four_sums : (List ℕ → List ℕ) → ℕ → List (List ℕ) → List ℕ
four_sums f n u = four_digests (folded f (lane 0 u) n) (folded f (lane 1 u) n) (folded f (lane 2 u) n) (folded f (lane 3 u) n)

-- T_n of SHA-1
abbrev pub sha1_words : List ℕ → List ℕ → List ℕ → ℕ → ℕ → List ℕ
sha1_words = block_words sha1.compression

-- T_n || .. || T_(n+3) of SHA-1
abbrev pub four_blocks : List ℕ → List ℕ → List ℕ → ℕ → ℕ → List ℕ
four_blocks i o s c n =
    four_digests (sha1_words i o s c n) (sha1_words i o s c (n + 1)) (sha1_words i o s c (n + 2)) (sha1_words i o s c (n + 3))
