-- The built hashes are lawful, and their words in arrays of eight words.
use mathlib.Core.Path.{◌≡◌, ap, ◌∙◌}
use mathlib.Core.List.{List}
use Prim.Native.Nat.{ℕ, ◌≤◌}
use native.Mathlib.Omega.{arith}
use lib.ListN.{length, take}
use lib.Seq.{take_all}
use Rattle.digest.specs.Digest.{LawfulDigest}
use Rattle.digest.specs.Chaining.{LawfulCompression, digest}
use Rattle.digest.proofs.ChainingLaws.{lawful-digest, take-digest}
use Rattle.sha_1.proofs.Sha1Laws as sha1-laws
use Rattle.sha256.proofs.Sha256Laws as sha256-laws
use Rattle.hash.specs.declared.Hash.{Hash}
use Rattle.hash.specs.declared.Hash.TheVariants.{Sha1, Sha256}
use Rattle.hash.specs.Hash.{compression_of, digest_of, chain}

pub lawful-compression : (h : Hash) → LawfulCompression (compression_of h)
lawful-compression Sha1 = sha1-laws.lawful
lawful-compression Sha256 = sha256-laws.lawful

pub lawful : (h : Hash) → LawfulDigest (digest_of h)
lawful h = lawful-digest (compression_of h) (lawful-compression h)

-- ---- arrays of eight words

-- SHA-256's words are all of them
pub all_words : (s : List ℕ) → length s ≡ 8 → chain Sha256 s ≡ s
all_words s l = take_all 8 s (omega arith)

count_fits : (h : Hash) → (compression_of h).count ≤ 8
count_fits h = (lawful-compression h).at_most

-- the bytes of the hash's words
pub digest-chain : (h : Hash) (s b : List ℕ) → length s ≡ 8 → b ≡ digest s → take (digest_of h).size b ≡ digest (chain h s)
digest-chain h s b l e = ap (take (digest_of h).size) e ∙ take-digest (compression_of h).count s (omega (arith, count_fits h))
