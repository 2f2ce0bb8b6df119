-- The list of sector writes that an accepted add, change or revoke gives (02, "Wish 5. Plug pulled"), and the lent buffer after a call.
use Rattle.std.specs.Prelude.{List, [], ◌++◌, cond, ℕ, eqb}
use Rattle.rules.specs.Profiles.{Table}
use Rattle.rules.specs.Facts.{Facts, SlotInput, candidate, facts_of}
use Rattle.rules.specs.Sectors.{SectorWrite, encoded, slot_list}
use Rattle.rules.specs.Calls.{Call, add, change, revoke, open_slot, open_any, read, write}
use Rattle.rules.specs.Step.{written, enable_writes, disable_writes, step}

-- the image after slot k has been made live
abbrev pub enabled_image : Facts → ℕ → List ℕ → SlotInput → List ℕ → List ℕ
enabled_image f k key x image = written (enable_writes f k key x) image

-- the image after slot k has been made empty
abbrev pub disabled_image : Facts → ℕ → List ℕ → List ℕ → List ℕ
disabled_image f k filler image = written (disable_writes f k filler) image

-- the list of an accepted call; f are the facts of the image, which is the one before the call
-- "change gives the add's list and then the revoke's": the add's has the bytes of the image between the two
unfoldable pub list_of : Facts → Call → List ℕ → List SectorWrite
list_of f (add k key x list) image = slot_list f k (enabled_image f k key x image)
list_of f (change k passphrase to x filler list) image =
    let between = enabled_image f to (candidate f k passphrase) x image in
    slot_list f to between ++ slot_list f k (disabled_image f k filler between)
list_of f (revoke k filler list) image = slot_list f k (disabled_image f k filler image)
list_of f (open_slot k passphrase) image = []
list_of f (open_any passphrase) image = []
list_of f (read key u n buffer) image = []
list_of f (write key u n buffer) image = []

-- the lent buffer b after a call: the list's bytes, or where the call is refused b as it was
unfoldable pub list_after : Table → List ℕ → Call → List ℕ → List ℕ
list_after table image c b = cond (eqb (step table image c).said.code 0) (encoded (list_of (facts_of table image) c image)) b
