-- HMAC from chaining words, as the code computes it (RFC 2104, section 4: the states after the two key blocks are computed once).
use Rattle.std.specs.Prelude.{List, ℕ}
use Rattle.digest.specs.Chaining.{Compression, digest, compress_block, finish, chained}
use Rattle.hmac.specs.Hmac.{xor_pad}

module _ (C : Compression) where
  -- the chaining words after the block of the key k and the pad byte p
  unfoldable pub keyed : ℕ → List ℕ → List ℕ
  keyed p k = compress_block C C.initial (xor_pad (chained C) p k)

  -- the digest of a key block and m, from the chaining words s after the block
  unfoldable pub finish_keyed : List ℕ → List ℕ → List ℕ
  finish_keyed s m = digest (finish C s 64 m)
