-- Laws of HMAC over any lawful digest, and from the chaining words of any lawful compression function.
use mathlib.Core.Path.{◌≡◌, sym, ap, ap₂, ◌∙◌}
use mathlib.Core.List.{List, ◌++◌}
use Prim.Native.Nat.{ℕ, ◌≤◌, ◌<◌}
use native.Mathlib.Decide.{dec_le}
use native.Mathlib.Omega.{arith}
use borrow.Author.Tests.{lt-ltb, le-ltb}
use lib.ListN.{length}
use Rattle.octets.specs.Octets.{Str, padded}
use Rattle.octets.proofs.OctetsLaws.{length-padded, length-xors}
use Rattle.digest.specs.Digest.{Digest, LawfulDigest}
use Rattle.digest.specs.Chaining.{Words, Compression, LawfulCompression, words, compress_block, hash, chained}
use Rattle.digest.proofs.ChainingLaws.{hash-after, lawful-digest}
use Rattle.hmac.specs.Hmac.{key_block, xor_pad, hmac}
use Rattle.hmac.specs.Keyed.{keyed, finish_keyed}

-- ---- any digest

module _ (H : Digest) (k : List ℕ) where
  pub key_block_long : H.block < length k → key_block H k ≡ padded H.block (H.hash k)
  unfolding key_block
  key_block_long h = rw (lt-ltb H.block (length k) h)

  pub key_block_short : length k ≤ H.block → key_block H k ≡ padded H.block k
  unfolding key_block
  key_block_short h = rw (le-ltb H.block (length k) h)

-- ---- any lawful digest

module _ (H : Digest) (L : LawfulDigest H) (k : List ℕ) where
  length-key_block_by : Dec (length k ≤ H.block) → length (key_block H k) ≡ H.block
  length-key_block_by (yes h) = ap length (key_block_short H k h) ∙ length-padded H.block k h
  length-key_block_by (no n) =
      ap length (key_block_long H k (omega arith)) ∙ length-padded H.block (H.hash k) (omega (arith, (L.str_hash k).len, L.fits))

  length-key_block : length (key_block H k) ≡ H.block
  length-key_block = length-key_block_by (dec_le (length k) H.block)

  length-xor_pad : (p : ℕ) → length (xor_pad H p k) ≡ H.block
  unfolding xor_pad
  length-xor_pad p = length-xors (key_block H k) _ ∙ length-key_block

  pub str_hmac : (m : List ℕ) → Str H.size (hmac H k m)
  unfolding hmac
  str_hmac m = L.str_hash (xor_pad H 0x5c k ++ H.hash (xor_pad H 0x36 k ++ m))

-- ---- any lawful compression function

module _ (C : Compression) (L : LawfulCompression C) where
  pub length-keyed : (p : ℕ) (k : List ℕ) → length (keyed C p k) ≡ C.count
  unfolding keyed compress_block
  length-keyed p k = L.length_compress C.initial (words (xor_pad (chained C) p k) 16)

  pub words-keyed : (p : ℕ) (k : List ℕ) → Words (keyed C p k)
  unfolding keyed compress_block
  words-keyed p k = L.words_compress C.initial (words (xor_pad (chained C) p k) 16)

  -- the digest of a key block and m
  keyed-hash : (p : ℕ) (k m : List ℕ) → finish_keyed C (keyed C p k) m ≡ hash C (xor_pad (chained C) p k ++ m)
  unfolding keyed finish_keyed
  keyed-hash p k m = sym (hash-after C (xor_pad (chained C) p k) m (length-xor_pad (chained C) (lawful-digest C L) k p))

  pub hmac-keyed : (k m i o : List ℕ) → i ≡ keyed C 0x36 k → o ≡ keyed C 0x5c k → finish_keyed C o (finish_keyed C i m) ≡ hmac (chained C) k m
  unfolding hmac
  hmac-keyed k m i o ei eo =
      ap₂ (λ (x y : List ℕ). finish_keyed C y (finish_keyed C x m)) ei eo ∙ ap (finish_keyed C (keyed C 0x5c k)) (keyed-hash 0x36 k m)
      ∙ keyed-hash 0x5c k (hash C (xor_pad (chained C) 0x36 k ++ m))
