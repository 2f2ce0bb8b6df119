-- An entry of a screen, and arrays filled entry by entry.
use mathlib.Core.Path.{◌≡◌, refl, sym, ap, ◌∙◌}
use mathlib.Core.List.{List, [], ◌∷◌, map, map-map, map-append}
use mathlib.Core.Bool.{Bool, cond}
use Prim.Native.Nat.{ℕ, ◌+◌, ◌-◌, ◌<◌}
use native.Mathlib.Numerals.{add-one}
use native.Mathlib.Omega.{arith}
use lib.ListN.{length, get_or, take, set, replicate, get_or-map}
use lib.Seq.{take-suc, take-suc-set}
use borrow.Author.Tests.{ne_eqb}
use Rattle.rules.specs.Checks.{first}
use Rattle.rules.specs.Profiles.{Table, aligned}
use Rattle.rules.specs.Facts.{Facts, SlotFacts, no_slot, slot_of, facts_of}
use Rattle.rules.specs.Header.{header_checks}
use Rattle.profiles.specs.Suites.{built}
use Rattle.header.specs.declared.slot.Slot.{Slot}
use Rattle.header.specs.Records.{facts_in, IsSlot}
use Rattle.header.specs.States.{is_state_enabled}
use Rattle.header.proofs.AnswerLaws.{number_some}
use Rattle.header.proofs.FactsLaws.{enabled_is}
use Rattle.header.specs.Refusals.{number, checked}
use Rattle.header.specs.declared.refusal.Refusal.{Refusal}
use Rattle.screens.specs.declared.Entry.{Entry}
use Rattle.screens.specs.Entries.{details_in, bits_shown, details_shown}
use Rattle.std.specs.Prelude.{Result, Ok, Err, IsErrAnd}
use Rattle.screens.specs.Screens.{Details, enabled_bit, details_of, no_details, screen, slot_screen, detail_screen, Shows}

-- ---- an entry

-- a slot's record, in the rules' words
pub entry_is : (r : Slot) (s : SlotFacts) → IsSlot r s → (b : Bool) → b ≡ is_state_enabled r.state
    → details_in (record { enabled = b; count = r.count; start = r.start; stripes = r.stripes }) ≡ details_of s
unfolding details_of enabled_bit
entry_is r s h b e =
    λ j.
    record {
      enabled = ap (λ (x : Bool). cond x 1 0) (e ∙ enabled_is r s h) j;
      count = h.count_is j;
      start = h.start_is j;
      stripes = h.stripes_is j;
    }

-- ---- arrays that have the first i elements of a list, and the next

module _ {A : Type 0} (l : List A) (i : ℕ) (d : A) (k : i < length l) where
  pub next_element : (w : List A) (x : A) → i < length w → take i w ≡ take i l → x ≡ get_or l i d → take (i + 1) (set w i x) ≡ take (i + 1) l
  next_element w x h e p = rw (add-one, take-suc-set w i x h, take-suc l i d k, e, p)

  -- where f gives the array's elements as the list has them
  pub next-given : {B : Type 0} (f : B → A) (w : List B) (x : B) → i < length w → map f (take i w) ≡ take i l → f x ≡ get_or l i d
      → map f (take (i + 1) (set w i x)) ≡ take (i + 1) l
  next-given f w x h e p = rw (add-one, take-suc-set w i x h, map-append f (take i w) (x ∷ []), take-suc l i d k, e, p)

-- ---- the entries of the eight slots

module _ {A : Type 0} (entry : SlotFacts → A) where
  abbrev pub shown : Facts → List A
  shown f = map entry f.slot_facts

  -- that of slot k, counted from 1
  pub shown_of : (f : Facts) (k : ℕ) → get_or (shown f) (k - 1) (entry no_slot) ≡ entry (slot_of f k)
  unfolding slot_of
  shown_of f k = get_or-map entry f.slot_facts (k - 1) no_slot

  -- that at index i, counted from 0
  pub shown-at : (f : Facts) (i : ℕ) → get_or (shown f) i (entry no_slot) ≡ entry (slot_of f (i + 1))
  shown-at f i =
      let e : i ≡ i + 1 - 1 = omega arith in
      ap (λ (j : ℕ). get_or (shown f) j (entry no_slot)) e ∙ shown_of f (i + 1)

  pub eight-shown : (table : Table) (image : List ℕ) → length (shown (facts_of table image)) ≡ 8
  unfolding facts_of
  eight-shown table image = refl

-- ---- a screen, by the header check

pub accepted-screen : {A : Type 0} (entry : SlotFacts → A) (zero : A) (table : Table) (image : List ℕ) → first (header_checks table image) ≡ 0
    → screen entry zero table image ≡ record { code = 0; entries = shown entry (facts_of table image) }
unfolding screen
accepted-screen entry zero table image e = rw e

-- no screen looks at the alignment
pub screen-aligned : {A : Type 0} (entry : SlotFacts → A) (zero : A) (table : Table) (n : ℕ) (image : List ℕ)
    → screen entry zero (aligned table n) image ≡ screen entry zero table image
unfolding screen facts_of header_checks
screen-aligned entry zero table n image = refl

module _ {A : Type 0} (entry : SlotFacts → A) (zero : A) (image : List ℕ) (code : ℕ) (entries : List A) (e : code ≡ first (header_checks built image)) where
  pub shows-zeros : (code ≡ 0 → ⊥) → entries ≡ replicate 8 zero → Shows (screen entry zero built image) code entries
  unfolding screen
  shows-zeros n z = record { code_is = e; entries_are = rw (sym e, ne_eqb code 0 n) z }

  pub shows-slots : code ≡ 0 → entries ≡ shown entry (facts_in image) → Shows (screen entry zero built image) code entries
  unfolding screen
  shows-slots n z = record { code_is = e; entries_are = rw (sym e, n) z }

-- ---- a refused header: no screen's number is 0 then

module _ (image : List ℕ) (e : Refusal) (h : number e ≡ first (header_checks built image)) where
  pub slots_refused : (r : Result (List Bool) Refusal) → IsErrAnd r (λ x. x ≡ e) → Shows (slot_screen built image) (checked r) (bits_shown r)
  slots_refused (Ok bits) p = absurd p
  slots_refused (Err x) p = shows-zeros enabled_bit 0 image (number x) _ (ap number p ∙ h) (number_some x) refl

  pub details_refused : (r : Result (List Entry) Refusal) → IsErrAnd r (λ x. x ≡ e) → Shows (detail_screen built image) (checked r) (details_shown r)
  details_refused (Ok entries) p = absurd p
  details_refused (Err x) p = shows-zeros details_of no_details image (number x) _ (ap number p ∙ h) (number_some x) refl

-- ---- the first screen, from the entries of the second

bits-same : (g : SlotFacts → ℕ) (l : List SlotFacts) → ((s : SlotFacts) → g s ≡ enabled_bit s) → map g l ≡ map enabled_bit l
bits-same g [] h = refl
bits-same g (s ∷ l) h = λ j. h s j ∷ bits-same g l h j

bit-of : (s : SlotFacts) → (details_of s).enabled ≡ enabled_bit s
unfolding details_of
bit-of s = refl

pub bits_are : (entries : List Entry) (bits : List Bool) (slots : List SlotFacts) → bits ≡ map (λ e. e.enabled) entries → map details_in entries ≡ map details_of slots
    → map (λ b. cond b 1 0) bits ≡ map enabled_bit slots
bits_are entries bits slots e h =
    ap (map (λ (b : Bool). cond b 1 0)) e ∙ map-map (λ (b : Bool). cond b 1 0) (λ (e : Entry). e.enabled) entries
    ∙ sym (map-map (λ (d : Details). d.enabled) details_in entries) ∙ ap (map (λ (d : Details). d.enabled)) h
    ∙ map-map (λ (d : Details). d.enabled) details_of slots ∙ bits-same _ slots bit-of
