-- The table of the built profiles is lawful: its rows pass the tests, its suites obey the laws of a suite; merging undoes splitting with each hash, and
-- deriving gives RFC 8018's bytes.
use mathlib.Core.Path.{◌≡◌, refl}
use mathlib.Core.List.{List}
use mathlib.Core.Bool.{true}
use Prim.Native.Nat.{ℕ, ◌-◌, ◌*◌, ◌≤◌}
use native.Mathlib.Omega.{arith}
use Rattle.octets.specs.Octets.{Str, zeros, same}
use Rattle.digest.specs.Digest.{Digest, LawfulDigest}
use Rattle.hash.specs.declared.Hash.{Hash}
use Rattle.hash.specs.Hash.{digest_of}
use Rattle.hash.proofs.HashLaws as hash
use Rattle.pbkdf2.specs.Rfc8018.{Rfc8018}
use Rattle.pbkdf2.proofs.Pbkdf2Laws.{str_pbkdf2}
use Rattle.pbkdf2.proofs.Rfc8018Laws.{rfc_8018}
use Rattle.xts.proofs.XtsLaws.{str_xts_encrypt, str_xts_decrypt, xts_decrypt-xts_encrypt}
use Rattle.splitter.specs.Diffuse.{diffuse}
use Rattle.splitter.proofs.DiffuseLaws.{str_diffuse, diffused-merge-split}
use Rattle.suite.specs.Suite.{LawfulSuite}
use Rattle.suite.specs.Split.{split, merge}
use Rattle.rules.specs.Checks.{every}
use Rattle.rules.specs.Profiles.{holds_text, fits, number_of, known}
use Rattle.rules.specs.Lawful.{row_ok, finds, distinct, are_rows_ok, LawfulTable}
use Rattle.profiles.specs.Rows.{name_of, hash_of, aes_xts_row, rows}
use Rattle.profiles.specs.Suites.{aes_xts, suite_of, built}

-- the tests, over the whole table
pub rows_ok : are_rows_ok rows ≡ true
unfolding are_rows_ok every row_ok finds distinct known number_of fits holds_text zeros same name_of hash_of aes_xts_row rows
rows_ok = refl

-- aes and xts-plain64 with any lawful digest
aes_xts-lawful : (H : Digest) → LawfulDigest H → (L : ℕ) → LawfulSuite (aes_xts H) L
unfolding aes_xts
aes_xts-lawful H ok L =
    record {
      str_derive = λ password salt count n. str_pbkdf2 H ok password salt count n;
      str_diffuse = str_diffuse H ok;
      str_encipher = λ key hk u n x hn hm hx. str_xts_encrypt L key hk u n x hm hx;
      str_decipher = λ key hk u n x hn hm hx. str_xts_decrypt L key hk u n x hm hx;
      decipher_encipher = λ key hk u n x hn hm hx. xts_decrypt-xts_encrypt L key hk u n x hm hx;
    }

-- the suite of each number
lawful : (k L : ℕ) → LawfulSuite (suite_of k) L
unfolding suite_of
lawful k L = aes_xts-lawful (digest_of (hash_of k)) (hash.lawful (hash_of k)) L

pub built-lawful : LawfulTable built
built-lawful = record { rows_ok = rows_ok; suites = λ k h. lawful k _; alignment_least = omega arith; alignment_most = omega arith }

-- merging undoes splitting with each hash
merge-split-hash : (h : Hash) (L n : ℕ) → 1 ≤ n → (random key : List ℕ) → Str ((n - 1) * L) random → Str L key
    → merge (diffuse (digest_of h)) L n (split (diffuse (digest_of h)) L n random key) ≡ key
merge-split-hash h = diffused-merge-split (digest_of h) (hash.lawful h)

-- deriving gives RFC 8018's bytes with each hash
pub derives_hash : (h : Hash) → Rfc8018 (digest_of h)
derives_hash h = rfc_8018 (digest_of h) (hash.lawful h)
