-- The built profiles (01, "Header and layout": "A profile fixes names and length"; 02, Wish 1): the rows of the table, and the hash of each.
use Rattle.std.specs.Prelude.{List, [], ◌∷◌, ◌||◌, cond, ℕ, eqb}
use Rattle.hash.specs.declared.Hash.{Hash}
use Rattle.hash.specs.declared.Hash.TheVariants.{Sha1, Sha256}
use Rattle.rules.specs.Profiles.{Profile}

-- "aes"
abbrev aes_name : List ℕ
aes_name = 0x61 ∷ 0x65 ∷ 0x73 ∷ []

-- "xts-plain64"
abbrev xts_plain64_name : List ℕ
xts_plain64_name = 0x78 ∷ 0x74 ∷ 0x73 ∷ 0x2D ∷ 0x70 ∷ 0x6C ∷ 0x61 ∷ 0x69 ∷ 0x6E ∷ 0x36 ∷ 0x34 ∷ []

-- "sha1" and "sha256"
unfoldable pub name_of : Hash → List ℕ
name_of Sha1 = 0x73 ∷ 0x68 ∷ 0x61 ∷ 0x31 ∷ []
name_of Sha256 = 0x73 ∷ 0x68 ∷ 0x61 ∷ 0x32 ∷ 0x35 ∷ 0x36 ∷ []

-- the hash of the profile with number k: of profiles 3 and 4 SHA-256, of the others SHA-1
unfoldable pub hash_of : ℕ → Hash
hash_of k = cond (eqb k 3 || eqb k 4) Sha256 Sha1

-- a profile with aes, xts-plain64 and its own hash; "a smallest count of 1,000, for slots and checksum"
unfoldable pub aes_xts_row : ℕ → ℕ → Profile
aes_xts_row number key_bytes =
    record {
      number = number;
      cipher = aes_name;
      mode = xts_plain64_name;
      hash = name_of (hash_of number);
      key_bytes = key_bytes;
      min_slot_count = 1000;
      min_checksum_count = 1000;
    }

-- "1: aes, xts-plain64, sha1, 32 key bytes. 2: the same with 64";
-- 02, Wish 1: "profile 3 (aes, xts-plain64, sha256, 32 key bytes) and profile 4 (the same, 64), smallest count 1,000"
unfoldable pub rows : List Profile
rows = aes_xts_row 1 32 ∷ aes_xts_row 2 64 ∷ aes_xts_row 3 32 ∷ aes_xts_row 4 64 ∷ []
