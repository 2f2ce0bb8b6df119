-- The suite of each built profile (01, "Ciphers and hashes"; 02, Wish 1: "HMAC, PBKDF2 and the splitter take the hash from the header"),
-- the alignment of a payload start (02, Wish 4), and the table that the calls use.
use Rattle.std.specs.Prelude.{ℕ}
use Rattle.digest.specs.Digest.{Digest}
use Rattle.hash.specs.Hash.{digest_of}
use Rattle.pbkdf2.specs.Pbkdf2.{pbkdf2, values_made}
use Rattle.xts.specs.Xts.{xts_encrypt, xts_decrypt}
use Rattle.splitter.specs.Diffuse.{diffuse}
use Rattle.suite.specs.Suite.{Suite}
use Rattle.rules.specs.Profiles.{Table}
use Rattle.profiles.specs.Rows.{hash_of, rows}

-- aes, xts-plain64 and a digest: PBKDF2 with HMAC over the digest, AES-XTS, and the splitter's H over the digest
unfoldable pub aes_xts : Digest → Suite
aes_xts H = record { derive = pbkdf2 H; made = values_made H.size; encipher = xts_encrypt; decipher = xts_decrypt; diffuse = diffuse H }

-- the suite of the profile with number k
unfoldable pub suite_of : ℕ → Suite
suite_of k = aes_xts (digest_of (hash_of k))

-- 02, Wish 4: "the payload on a multiple of 2,048 sectors", a mebibyte
abbrev pub alignment : ℕ
alignment = 2048

-- the table of profiles that the calls use
abbrev pub built : Table
built = record { rows = rows; suite_of = suite_of; alignment = alignment }
