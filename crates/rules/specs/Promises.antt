-- What the contracts of the public calls say: number, image and lent buffers afterwards are those of the rules, on every argument, and
-- so is how many values of HMAC the call made (02, Wish 6).
use Rattle.std.specs.Prelude.{◌≡◌, List, ◌∷◌, ℕ}
use Rattle.rules.specs.Profiles.{Table}
use Rattle.rules.specs.Calls.{Call, Answer, buffer_after}
use Rattle.rules.specs.Step.{step}
use Rattle.rules.specs.Lists.{list_after}
use Rattle.rules.specs.Format.{FormatInput, format}
use Rattle.rules.specs.Costs.{cost_on, format_cost}

-- write: the number is the step's, and the image is left as the step leaves it
pub record Does (table : Table) (image : List ℕ) (c : Call) (code : ℕ) (after : List ℕ) (values : ℕ) : Type 0 where
  pub code_is : code ≡ (step table image c).said.code
  pub image_is : after ≡ (step table image c).image
  pub values_are : values ≡ cost_on table image c

-- add, change and revoke: the same, and the list's buffer, before the call as given, has the call's sector writes or stays
pub record DoesListed (table : Table) (image : List ℕ) (c : Call) (code : ℕ) (after before list : List ℕ) (values : ℕ) : Type 0 where
  pub code_is : code ≡ (step table image c).said.code
  pub image_is : after ≡ (step table image c).image
  pub list_is : list ≡ list_after table image c before
  pub values_are : values ≡ cost_on table image c

-- the two openings: number, slot, L and the 64 key bytes are the step's
pub record DoesOpen (table : Table) (image : List ℕ) (c : Call) (code slot key_length : ℕ) (key : List ℕ) (values : ℕ) : Type 0 where
  pub code_is : code ≡ (step table image c).said.code
  pub slot_is : slot ≡ (step table image c).said.slot
  pub length_is : key_length ≡ (step table image c).said.key_length
  pub key_is : key ≡ (step table image c).said.key
  pub values_are : values ≡ cost_on table image c

-- read: the number is the step's, and its buffer, before the call as given, has the bytes read or stays
pub record DoesRead (table : Table) (image : List ℕ) (c : Call) (code : ℕ) (before after : List ℕ) (values : ℕ) : Type 0 where
  pub code_is : code ≡ (step table image c).said.code
  pub buffer_is : after ≡ buffer_after (step table image c).said before
  pub values_are : values ≡ cost_on table image c

-- format: number and image are those of the rules
pub record DoesFormat (table : Table) (a : FormatInput) (image : List ℕ) (code : ℕ) (after : List ℕ) (values : ℕ) : Type 0 where
  pub code_is : code ≡ (format table a image).code
  pub image_is : after ≡ (format table a image).image
  pub values_are : values ≡ format_cost table a image

-- ---- for C, where an opening lays slot, L and the 64 key bytes in a buffer

-- an opening's answer as 66 bytes
unfoldable pub opened_bytes : Answer → List ℕ
opened_bytes a = a.slot ∷ a.key_length ∷ a.key

-- the two openings for C: the number is the step's, and the buffer has its answer
pub record FillsOpened (table : Table) (image : List ℕ) (c : Call) (code : ℕ) (after : List ℕ) (values : ℕ) : Type 0 where
  pub code_is : code ≡ (step table image c).said.code
  pub bytes_are : after ≡ opened_bytes (step table image c).said
  pub values_are : values ≡ cost_on table image c
