-- After every list of calls the two screens are the ledger's.
use mathlib.Core.Path.{◌≡◌, refl, sym, ap, subst, ◌∙◌}
use mathlib.Core.List.{List, [], ◌∷◌, map}
use Prim.Native.Nat.{ℕ, suc, ◌^◌, ◌≤◌, ◌<◌}
use native.Mathlib.Omega.{arith}
use Rattle.rules.specs.Profiles.{Table, aligned}
use Rattle.rules.specs.Lawful.{LawfulTable}
use Rattle.rules.specs.Layout.{area_start}
use Rattle.rules.specs.Facts.{Facts, SlotFacts, is_enabled}
use Rattle.rules.specs.Calls.{Call}
use Rattle.rules.specs.Format.{FormatInput, key_bytes_of, format}
use Rattle.rules.specs.Promises.{DoesFormat}
use Rattle.rules.proofs.ChecksLaws.{first_pass}
use Rattle.rules.proofs.AlignedLaws.{aligned-lawful}
use Rattle.profiles.specs.Suites.{alignment, built}
use Rattle.profiles.proofs.Lawful.{built-lawful}
use Rattle.screens.specs.Screens.{Screen, screen, slot_screen, detail_screen, Details, enabled_bit, details_of, no_details, Shows}
use Rattle.screens.proofs.ScreenLaws.{accepted-screen, screen-aligned}
use Rattle.ledger.specs.Drive.{map_from, content_facts, drive_facts}
use Rattle.ledger.specs.Ledger.{Ledger, SlotEntry, empty, live, state_of, count_of, content_of, ledger_drive, ledger_image, ledger_facts, start_ledger}
use Rattle.ledger.specs.Demand3.{FormatTyped, AllTyped}
use Rattle.ledger.proofs.LedgerLaws.{GoodLedger, content_in, facts_are, header-accepted}
use Rattle.ledger.proofs.EnterLaws.{run-follows}
use Rattle.ledger.proofs.StartLaws.{start-good}
use Rattle.ledger.proofs.General.{demand_3}
use Rattle.bridge.specs.Trace.{Returned, Trace}
use Rattle.bridge.specs.Screened.{live_bit, ledger_details, ledger_slots, ledger_slot_details, ScreensFollow, ShownFollow}
use Rattle.bridge.proofs.Bridge.{follows-aligned}

-- ---- a screen of a ledger's image, entry by entry

-- the slot at index i, from 0
abbrev slot_facts_at : Table → FormatInput → ℕ → SlotEntry → SlotFacts
slot_facts_at table a i s = content_facts a.stripes (key_bytes_of table a) i (content_in table a s)

module _ {A : Type 0} (entry : SlotFacts → A) (zero : A) (table : Table) (l : Ledger) (shown : ℕ → SlotEntry → A)
    (same : (i : ℕ) (s : SlotEntry) → entry (slot_facts_at table l.input i s) ≡ shown i s) where
  entries_are : (i : ℕ) (xs : List SlotEntry)
      → map entry (map_from (content_facts l.input.stripes (key_bytes_of table l.input)) i (map (content_in table l.input) xs)) ≡ map_from shown i xs
  unfolding map_from
  entries_are i [] = refl
  entries_are i (x ∷ xs) = λ j. same i x j ∷ entries_are (suc i) xs j

  screen-is : GoodLedger table l → screen entry zero table (ledger_image table l) ≡ record { code = 0; entries = map_from shown 0 l.slot_entries }
  unfolding ledger_facts drive_facts ledger_drive
  screen-is g =
      accepted-screen entry zero table (ledger_image table l) (first_pass _ (header-accepted table l g))
      ∙ ap (λ (f : Facts). record { code = 0; entries = map entry f.slot_facts }) (facts_are table l g)
      ∙ ap (λ (es : List A). record { code = 0; entries = es }) (entries_are 0 l.slot_entries)

-- ---- each entry is the ledger's

module _ (table : Table) (a : FormatInput) where
  bit_is : (i : ℕ) (s : SlotEntry) → enabled_bit (slot_facts_at table a i s) ≡ live_bit s
  unfolding enabled_bit is_enabled content_facts content_of state_of live_bit
  bit_is i (empty area) = refl
  bit_is i (live key x) = refl

  details_is : (i : ℕ) (s : SlotEntry) → details_of (slot_facts_at table a i s) ≡ ledger_details a.stripes (key_bytes_of table a) i s
  unfolding details_of content_facts content_of ledger_details
  details_is i s = ap {B = Details} (λ b. record { enabled = b; count = count_of s; start = area_start a.stripes (key_bytes_of table a) i; stripes = a.stripes }) (bit_is i s)

-- an entry that does not depend on the index
bits_are : (i : ℕ) (xs : List SlotEntry) → map_from (λ j. live_bit) i xs ≡ map live_bit xs
unfolding map_from
bits_are i [] = refl
bits_are i (x ∷ xs) = ap (λ r. live_bit x ∷ r) (bits_are (suc i) xs)

-- ---- the screens of a good ledger's image

module _ (table : Table) (l : Ledger) (g : GoodLedger table l) where
  slots-good : slot_screen table (ledger_image table l) ≡ ledger_slots l
  unfolding ledger_slots
  slots-good =
      screen-is enabled_bit 0 table l (λ i. live_bit) (bit_is table l.input) g ∙ ap (λ (es : List ℕ). record { code = 0; entries = es }) (bits_are 0 l.slot_entries)

  details_good : detail_screen table (ledger_image table l) ≡ ledger_slot_details table l
  unfolding ledger_slot_details
  details_good = screen-is details_of no_details table l (ledger_details l.input.stripes (key_bytes_of table l.input)) (details_is table l.input) g

-- ---- the theorem, for any lawful table and for the built one

pub screens_follow : (table : Table) → LawfulTable table → (a : FormatInput) → FormatTyped a → (image : List ℕ) → (format table a image).code ≡ 0
    → (cs : List Call) → AllTyped cs → ScreensFollow table a image cs
screens_follow table lawful a typed image yes' cs t =
    let ends = (demand_3 table lawful a typed image yes' cs t).image_is in
    let g = (run-follows table (start_ledger table a image) cs (start-good table lawful a typed image yes') t).1 in
    record {
      slots_are = ap (slot_screen table) ends ∙ slots-good table _ g;
      details_are = ap (detail_screen table) ends ∙ details_good table _ g;
    }

-- of what the functions return and leave, on a drive with any alignment
pub shown-aligned : (A : ℕ) → 1 ≤ A → A < 2 ^ 32 → (a : FormatInput) → FormatTyped a → (image after : List ℕ) (v : ℕ) → DoesFormat (aligned built A) a image 0 after v
    → (cs : List Call) → AllTyped cs → (rs : List Returned) → Trace after cs rs → ShownFollow (aligned built A) a image after cs rs
shown-aligned A l m a typed image after v f cs t rs trace =
    let table = aligned built A in
    let ok = aligned-lawful built A built-lawful l m in
    let s = screens_follow table ok a typed image (sym f.code_is) cs t in
    let left = (follows-aligned A l m a typed image after v f cs t rs trace).image_is ∙ sym (demand_3 table ok a typed image (sym f.code_is) cs t).image_is in
    let slots = ap (slot_screen built) left ∙ sym (screen-aligned enabled_bit 0 built A _) ∙ s.slots_are in
    let details = ap (detail_screen built) left ∙ sym (screen-aligned details_of no_details built A _) ∙ s.details_are in
    record {
      slots_show = λ code enabled h. subst (λ (x : Screen ℕ). Shows x code enabled) slots h;
      details_show = λ code entries h. subst (λ (x : Screen Details). Shows x code entries) details h;
    }

-- and on one that format's function made
pub shown_follow : (a : FormatInput) → FormatTyped a → (image after : List ℕ) (v : ℕ) → DoesFormat built a image 0 after v → (cs : List Call) → AllTyped cs
    → (rs : List Returned) → Trace after cs rs → ShownFollow built a image after cs rs
shown_follow = shown-aligned alignment (omega arith) (omega arith)
