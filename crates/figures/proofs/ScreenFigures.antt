-- The figures of the two screens: of a fresh drive, after one add, after refusal 2.
use mathlib.Core.Path.{◌≡◌, refl, sym, ap, ◌∙◌}
use mathlib.Core.List.{List, [], ◌∷◌, map}
use mathlib.Core.Bool.{Bool, true, false}
use Prim.Native.Nat.{ℕ}
use lib.Dec.{eqb}
use lib.ListN.{get_or, replicate}
use borrow.Author.Tests.{eq-eqb}
use Rattle.octets.specs.Octets.{same}
use Rattle.octets.specs.Splice.{part}
use Rattle.octets.proofs.BoolLaws.{no}
use Rattle.rules.specs.Checks.{first}
use Rattle.rules.specs.Profiles.{profile_at}
use Rattle.rules.specs.Layout.{area_start, slots}
use Rattle.rules.specs.Facts.{Facts, SlotInput, SlotFacts}
use Rattle.rules.specs.Header.{magic, size_ok, header_checks}
use Rattle.rules.specs.Calls.{Call, add, Answer, refused}
use Rattle.rules.specs.Step.{run}
use Rattle.rules.specs.Format.{FormatInput, format}
use Rattle.profiles.specs.Rows.{aes_xts_row, rows}
use Rattle.profiles.specs.Suites.{built}
use Rattle.profiles.proofs.Lawful.{built-lawful}
use Rattle.screens.specs.Screens.{screen, slot_screen, detail_screen}
use Rattle.ledger.specs.Drive.{map_from}
use Rattle.ledger.specs.Ledger.{Ledger, live, count_of, ledger_facts, set_slot, ledger_after, settle_entry, enter, enter_all, start_ledger}
use Rattle.ledger.specs.Demand3.{Typed, last_ledger}
use Rattle.ledger.proofs.Built.{demand_3-built}
use Rattle.bridge.specs.Screened.{live_bit, ledger_details, ledger_slots, ledger_slot_details}
use Rattle.bridge.proofs.Screened.{screens_follow}
use Rattle.figures.specs.Figures.{Fresh, added}

-- ---- after refusal 2

module _ {A : Type 0} (entry : SlotFacts → A) (zero : A) (image : List ℕ) where
  pub after-2 : size_ok image ≡ true → same (part image 0 6) magic ≡ false → screen entry zero built image ≡ record { code = 2; entries = replicate 8 zero }
  unfolding screen header_checks first
  after-2 size bad = rw (size, bad)

-- ---- an accepted call's ledger

settled : (f : Facts) (c : Call) (l : Ledger) (r : ℕ) (b : Bool) → eqb r 0 ≡ b → (settle_entry f c l r b).said.code ≡ 0 → (settle_entry f c l r b).ledger ≡ ledger_after f c l
unfolding settle_entry refused
settled f c l r true e h = refl
settled f c l r false e h = no (sym e ∙ eq-eqb r 0 h)

-- ---- a fresh drive

module _ (a : FormatInput) (image : List ℕ) (fresh : Fresh a image) where
  pub fresh_slots : slot_screen built (format built a image).image ≡ ledger_slots (start_ledger built a image)
  unfolding run enter_all
  fresh_slots = (screens_follow built built-lawful a fresh.typed image fresh.accepted [] tt).slots_are

  -- of profile 1 with 4,000 stripes
  pub fresh_details : a.profile ≡ 1 → a.stripes ≡ 4000
      → detail_screen built (format built a image).image
      ≡ record { code = 0; entries = map (λ i. record { enabled = 0; count = 0; start = area_start 4000 32 i; stripes = 4000 }) slots }
  unfolding run enter_all start_ledger ledger_slot_details map_from ledger_details live_bit count_of profile_at rows aes_xts_row
  fresh_details p n = (screens_follow built built-lawful a fresh.typed image fresh.accepted [] tt).details_are ∙ rw (p, n)

  -- after an add that was accepted
  module _ (k : ℕ) (key : List ℕ) (x : SlotInput) (list : List ℕ) (typed : Typed (add k key x list)) (yes' : (added a image k key x list).said.code ≡ 0) where
    entered : (enter built (start_ledger built a image) (add k key x list)).said.code ≡ 0
    unfolding run enter_all
    entered =
        let d = (demand_3-built a fresh.typed image fresh.accepted (add k key x list ∷ []) (typed, tt)).answers_are in
        let nothing = (added a image k key x list).said in
        sym (ap (λ (l : List Answer). (get_or l 0 nothing).code) d) ∙ yes'

    last-is : last_ledger built a image (add k key x list ∷ []) ≡ set_slot (start_ledger built a image) k (live key x)
    unfolding enter_all enter ledger_after
    last-is = settled (ledger_facts built (start_ledger built a image)) (add k key x list) (start_ledger built a image) _ _ refl entered

    pub added-slots : slot_screen built (added a image k key x list).image ≡ ledger_slots (set_slot (start_ledger built a image) k (live key x))
    unfolding run
    added-slots = (screens_follow built built-lawful a fresh.typed image fresh.accepted (add k key x list ∷ []) (typed, tt)).slots_are ∙ ap ledger_slots last-is
