-- The code's table of profiles beside the rules': a row of the one says what a row of the other says.
use Rattle.std.specs.Prelude.{◌≡◌, List, [], ◌∷◌, Bool, true, false, ◌&&◌, ◌||◌, ℕ, eqb, Option, None, Some}
use Rattle.octets.specs.Octets.{padded}
use Rattle.rules.specs.Profiles as rules
use Rattle.profiles.specs.Rows.{hash_of, rows}
use Rattle.profiles.specs.declared.Profile.{Profile}

-- a row of the code's table, whose names are padded as in a header, says what the profile says
pub record IsProfile (r : Profile) (p : rules.Profile) : Type 0 where
  pub number_is : r.number ≡ p.number
  pub cipher_is : r.cipher ≡ padded 32 p.cipher
  pub mode_is : r.mode ≡ padded 32 p.mode
  pub hash_is : r.hash ≡ padded 32 p.hash
  pub digest_is : r.digest ≡ hash_of p.number
  pub key_is : r.key_bytes ≡ p.key_bytes
  pub slot_count_is : r.min_slot_count ≡ p.min_slot_count
  pub checksum_count_is : r.min_checksum_count ≡ p.min_checksum_count

-- the table has a row with number k, and r says what it says
pub record IsRow (k : ℕ) (r : Profile) : Type 0 where
  pub known_is : rules.known rows k ≡ true
  pub profile_is : IsProfile r (rules.profile_at rows k)

-- the number of the profile that was found, or 0
abbrev pub number_found : Option Profile → ℕ
number_found None = 0
number_found (Some r) = r.number

-- two text fields hold one text: they agree up to their first zero byte, and with it
unfoldable pub same_text : List ℕ → List ℕ → Bool
same_text [] y = false
same_text (a ∷ x) [] = false
same_text (a ∷ x) (b ∷ y) = eqb a b && (eqb a 0 || same_text x y)

-- a header with these three text fields and key bytes has the row's names and key bytes
unfoldable pub has_row : List ℕ → List ℕ → List ℕ → ℕ → Profile → Bool
has_row cipher mode hash L p =
    same_text cipher p.cipher && (same_text mode p.mode && (same_text hash p.hash && eqb L p.key_bytes))
