-- What holds at every cut of a list of sector writes (02, "Wish 5. Plug pulled"), as a statement about a table, a ledger's image
-- and an accepted add, change or revoke on it.
use Rattle.std.specs.Prelude.{◌≡◌, ◌⊎◌, List, [], Bool, true, false, ℕ, ◌*◌, ◌≤◌, length}
use Rattle.octets.specs.Octets.{padded}
use Rattle.rules.specs.Checks.{first}
use Rattle.rules.specs.Profiles.{Table}
use Rattle.rules.specs.Facts.{Facts, SlotInput, slot_of, is_enabled, candidate, facts_of}
use Rattle.rules.specs.Sectors.{entry_bytes, slot_count}
use Rattle.rules.specs.Header.{header_checks}
use Rattle.rules.specs.Calls.{Call, add, change, revoke, open_slot, open_any, read, write, Answer, done, refused}
use Rattle.rules.specs.Step.{step}
use Rattle.rules.specs.Lists.{enabled_image, disabled_image, list_of}
use Rattle.ledger.specs.Ledger.{Ledger, live, enter}
use Rattle.ledger.specs.Demand3.{entry_of}
use Rattle.cuts.specs.Cuts.{Point, stage_at, carried_out, cut_after}

-- "an accepted one of these three": the call is an add, a change or a revoke
unfoldable pub gives_list : Call → Bool
gives_list (add k key x list) = true
gives_list (change k passphrase to x filler list) = true
gives_list (revoke k filler list) = true
gives_list (open_slot k passphrase) = false
gives_list (open_any passphrase) = false
gives_list (read key u n buffer) = false
gives_list (write key u n buffer) = false

-- what is said of changes alone: P of the change's slots, passphrase, new slot's arguments and filler
abbrev pub InChange : (ℕ → List ℕ → ℕ → SlotInput → List ℕ → Type 0) → Call → Type 0
InChange P (add k key x list) = Unit {0}
InChange P (change k passphrase to x filler list) = P k passphrase to x filler
InChange P (revoke k filler list) = Unit {0}
InChange P (open_slot k passphrase) = Unit {0}
InChange P (open_any passphrase) = Unit {0}
InChange P (read key u n buffer) = Unit {0}
InChange P (write key u n buffer) = Unit {0}

-- the call with another buffer for its list: the first call has filled the one that it was lent
abbrev pub with_list : Call → List ℕ → Call
with_list (add k key x list) b = add k key x b
with_list (change k passphrase to x filler list) b = change k passphrase to x filler b
with_list (revoke k filler list) b = revoke k filler b
with_list (open_slot k passphrase) b = open_slot k passphrase
with_list (open_any passphrase) b = open_any passphrase
with_list (read key u n buffer) b = read key u n buffer
with_list (write key u n buffer) b = write key u n buffer

-- the length of the buffer for its list, which check 20 asks for where the call is accepted
abbrev pub list_length : Call → ℕ
list_length (add k key x list) = length list
list_length (change k passphrase to x filler list) = length list
list_length (revoke k filler list) = length list
list_length (open_slot k passphrase) = 0
list_length (open_any passphrase) = 0
list_length (read key u n buffer) = 0
list_length (write key u n buffer) = 0

-- ---- the images at cuts

-- z is the image at a cut in the work on slot k that turns an image into after
abbrev pub StageImage : Facts → ℕ → List ℕ → List ℕ → List ℕ → Type 0
StageImage f k after image z = (p : Point) × (z ≡ stage_at f k after image p)

-- z is the image at a cut in the work of the call; f are the facts of the image, which is the one before the call
abbrev pub CutImage : Facts → Call → List ℕ → List ℕ → Type 0
CutImage f (add k key x list) image z = StageImage f k (enabled_image f k key x image) image z
CutImage f (change k passphrase to x filler list) image z =
    let between = enabled_image f to (candidate f k passphrase) x image in
    StageImage f to between image z ⊎ StageImage f k (disabled_image f k filler between) between z
CutImage f (revoke k filler list) image z = StageImage f k (disabled_image f k filler image) image z
CutImage f (open_slot k passphrase) image z = ⊥
CutImage f (open_any passphrase) image z = ⊥
CutImage f (read key u n buffer) image z = ⊥
CutImage f (write key u n buffer) image z = ⊥

-- ---- what holds there

-- an opening of slot k that gives the key
abbrev pub gives : Facts → ℕ → List ℕ → Answer
gives f k key = record { code = 0; slot = k; key_length = f.profile.key_bytes; key = padded 64 key; bytes = [] }

-- the call on z "reaches the uncut image, or is refused with 15 and the image is already that"
abbrev pub Reaches : Table → List ℕ → Call → List ℕ → Type 0
Reaches table z c after = (step table z c ≡ record { said = done; image = after }) ⊎ ((step table z c ≡ record { said = refused 15 c; image = z }) × (z ≡ after))

-- at a cut of the call c, given where the ledger is l; f are the facts before it, after is the image after it, z the image at the cut
pub record AtCut (table : Table) (f : Facts) (l : Ledger) (c : Call) (after z : List ℕ) : Type 0 where
  -- "the header check passes"
  pub header : first (header_checks table z) ≡ 0
  -- "every slot live before and after it opens with its passphrase", by number, and gives its key
  pub live_opens : (k : ℕ) → 1 ≤ k → k ≤ 8 → (key : List ℕ) (x : SlotInput) → entry_of l k ≡ live key x → entry_of (enter table l c).ledger k ≡ live key x
      → (step table z (open_slot k x.passphrase)).said ≡ gives f k key
  -- "and in a change the old or the new one opens", with the key that the change carries over
  pub old_or_new : InChange (λ k passphrase to x filler.
      ((step table z (open_slot k passphrase)).said ≡ gives f k (candidate f k passphrase))
      ⊎ ((step table z (open_slot to x.passphrase)).said ≡ gives f to (candidate f k passphrase))) c
  -- "Giving a cut add or revoke once more, or a cut change while its second slot is disabled", with any buffer of the same length
  pub once_more : InChange (λ k passphrase to x filler. is_enabled (slot_of (facts_of table z) to) ≡ false) c
      → (list : List ℕ) → length list ≡ list_length c → Reaches table z (with_list c list) after
  -- "Once that slot is enabled, an accepted revoke of the first with the same filler finishes the change"; where it is not accepted, all is done
  pub finished : InChange (λ k passphrase to x filler.
      is_enabled (slot_of (facts_of table z) to) ≡ true → (list : List ℕ) → length list ≡ slot_count (facts_of table z) k * entry_bytes
      → Reaches table z (revoke k filler list) after) c

-- of the call c, given to an image where the ledger is l
pub record CutSafe (table : Table) (image : List ℕ) (l : Ledger) (c : Call) : Type 0 where
  -- "Carried out in full, it turns the image before the call into the one after"
  pub full : carried_out (list_of (facts_of table image) c image) image ≡ (step table image c).image
  -- "At every cut point", the writes of an area being done in any order
  pub at_cut : (z : List ℕ) → CutImage (facts_of table image) c image z → AtCut table (facts_of table image) l c (step table image c).image z
  -- the cuts of the list, where its first j writes are done, are among these
  pub in_order : (j : ℕ) → CutImage (facts_of table image) c image (cut_after j (list_of (facts_of table image) c image) image)
