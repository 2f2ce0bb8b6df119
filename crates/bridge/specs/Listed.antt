-- What is said of the list that an add, a change or a revoke left in its buffer (02, Wish 5).
use Rattle.std.specs.Prelude.{◌≡◌, ◌⊎◌, List, true, false, ℕ, ◌*◌, ◌/◌, length}
use Rattle.rules.specs.Profiles.{Table}
use Rattle.rules.specs.Facts.{is_enabled, slot_of, facts_of}
use Rattle.rules.specs.Sectors.{entry_bytes, slot_count}
use Rattle.rules.specs.Calls.{Call, revoke}
use Rattle.rules.specs.Lists.{list_of}
use Rattle.ledger.specs.Ledger.{Ledger}
use Rattle.cuts.specs.Cuts.{carried_out, decoded}
use Rattle.cuts.specs.CutSafe.{InChange, with_list, list_length, CutImage, CutSafe}
use Rattle.bridge.specs.Trace.{Returned, Ensured, image_left, number_in}

-- an accepted call c was given the image z, and left `after` there and `list` in its buffer
pub record ListIs (table : Table) (z : List ℕ) (c : Call) (after list : List ℕ) : Type 0 where
  -- the buffer's entries, read back, are the call's list
  pub entries_are : decoded (length list / entry_bytes) list ≡ list_of (facts_of table z) c z
  -- carried out on the image that the call was given, they make the one that it left
  pub carried_is : carried_out (decoded (length list / entry_bytes) list) z ≡ after

-- a function that was given the image y returned r: it "reaches the uncut image, or is refused with 15 and the image is already that"
abbrev pub Reached : List ℕ → Returned → List ℕ → Type 0
Reached y r after = ((number_in r ≡ 0) × (image_left y r ≡ after)) ⊎ ((number_in r ≡ 15) × (image_left y r ≡ after) × (y ≡ after))

-- after a trace of calls, where the ledger is l: the list is as above, and at every cut of it the promises hold
pub record ListFollows (table : Table) (l : Ledger) (z : List ℕ) (c : Call) (after list : List ℕ) : Type 0 where
  pub list_is : ListIs table z c after list
  pub safe : CutSafe table z l c
  -- of the functions at a cut y: "Giving a cut add or revoke once more, or a cut change while its second slot is disabled"
  pub once_more : (y : List ℕ) → CutImage (facts_of table z) c z y → InChange (λ k passphrase to x filler. is_enabled (slot_of (facts_of table y) to) ≡ false) c
      → (list' : List ℕ) → length list' ≡ list_length c → (r : Returned) → Ensured y (with_list c list') r → Reached y r after
  -- "Once that slot is enabled, an accepted revoke of the first with the same filler finishes the change"
  pub finished : (y : List ℕ) → CutImage (facts_of table z) c z y → InChange (λ k passphrase to x filler.
      is_enabled (slot_of (facts_of table y) to) ≡ true → (list' : List ℕ) → length list' ≡ slot_count (facts_of table y) k * entry_bytes
      → (r : Returned) → Ensured y (revoke k filler list') r → Reached y r after) c
