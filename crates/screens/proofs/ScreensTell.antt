-- Images that pass the header check give the same screen exactly when they agree in its fields (02, "Wish 2").
use mathlib.Core.Path.{◌≡◌, refl, sym, ap, ◌∙◌}
use mathlib.Core.List.{List}
use mathlib.Core.Bool.{Bool, true, false, ◌||◌, not, cond}
use Prim.Native.Nat.{ℕ, ◌+◌, ◌-◌, ◌<◌}
use native.Mathlib.Omega.{arith}
use lib.Dec.{eqb}
use lib.ListN.{length, get_or}
use lib.Seq.{ext_get_or}
use borrow.Author.Tests.{eqb-true, le-leb}
use Rattle.octets.proofs.BoolLaws.{and_split, or_split, no}
use Rattle.rules.specs.Checks.{first, every}
use Rattle.rules.specs.Profiles.{Table}
use Rattle.rules.specs.Facts.{Facts, SlotFacts, enabled, disabled, is_enabled, no_slot, slot_of, facts_of}
use Rattle.rules.specs.Header.{record_ok, slot_ok, sound_checks, header_checks}
use Rattle.rules.specs.Calls.{slot_number_ok}
use Rattle.rules.proofs.ChecksLaws.{Pass, accepted}
use Rattle.rules.proofs.ArgumentLaws.{number_is, number_in}
use Rattle.rules.proofs.EveryLaws.{every-at}
use Rattle.rules.proofs.StepLaws.{numbered-header}
use Rattle.screens.specs.Screens.{Screen, screen, Details, enabled_bit, details_of, SameIn, ScreensTell}
use Rattle.screens.proofs.ScreenLaws.{shown, shown_of, shown-at, eight-shown, accepted-screen}

-- ---- a slot's state is one of two

bit-told : (a b : Bool) → ◌≡◌ {A = ℕ} (cond a 1 0) (cond b 1 0) → a ≡ b
bit-told true true e = refl
bit-told true false e = absurd (omega arith)
bit-told false true e = absurd (omega arith)
bit-told false false e = refl

state-known : (s : SlotFacts) → slot_ok s ≡ true → (eqb s.state enabled || eqb s.state disabled) ≡ true
unfolding slot_ok record_ok
state-known s h = (and_split _ _ h).0

-- slots that are both enabled, or both not, have one state
state-told : (s t : SlotFacts) → slot_ok s ≡ true → slot_ok t ≡ true → is_enabled s ≡ is_enabled t → s.state ≡ t.state
unfolding is_enabled
state-told s t h k e =
    or_split (eqb s.state enabled) (eqb s.state disabled) (state-known s h)
    (λ p. eqb-true s.state enabled p ∙ sym (eqb-true t.state enabled (sym e ∙ p)))
    (λ p.
    let off : s.state ≡ disabled = eqb-true s.state disabled p in
    or_split (eqb t.state enabled) (eqb t.state disabled) (state-known t k)
    (λ q. no (sym (ap (λ (x : ℕ). eqb x enabled) off) ∙ e ∙ q))
    (λ q. off ∙ sym (eqb-true t.state disabled q)))

-- the header check judges each record
record_ok_lem : (table : Table) (image : List ℕ) → first (header_checks table image) ≡ 0 → (k : ℕ) → slot_number_ok k ≡ true → slot_ok (slot_of (facts_of table image) k) ≡ true
unfolding header_checks sound_checks slot_of facts_of
record_ok_lem table image e k h =
    let p : Pass (header_checks table image) = accepted (header_checks table image) (numbered-header table image) e in
    let five = and_split (not (eqb (facts_of table image).checksum_count 0)) (every slot_ok (facts_of table image).slot_facts) p.1.1.1.1.0 in
    every-at slot_ok no_slot (facts_of table image).slot_facts (k - 1) five.1 (omega (arith, (number_in k h).0, (number_in k h).1))

-- ---- two screens, entry by entry

module _ {A : Type 0} (entry : SlotFacts → A) (zero : A) (table : Table) (image other : List ℕ) (h : first (header_checks table image) ≡ 0) (k : first (header_checks table other) ≡ 0) where
  abbrev f : Facts
  f = facts_of table image

  abbrev g : Facts
  g = facts_of table other

  same-screen : SameIn entry f g → screen entry zero table image ≡ screen entry zero table other
  same-screen e =
      let at : (i : ℕ) → i < length (shown entry f) → get_or (shown entry f) i (entry no_slot) ≡ get_or (shown entry g) i (entry no_slot) =
      (λ i l. shown-at entry f i ∙ e (i + 1) (sym (number_is (i + 1) (omega arith)) ∙ le-leb (i + 1) 8 (omega (arith, eight-shown entry table image))) ∙ sym (shown-at entry g i)) in
      let same = ext_get_or (entry no_slot) (shown entry f) (shown entry g) (eight-shown entry table image ∙ sym (eight-shown entry table other)) at in
      accepted-screen entry zero table image h ∙ ap (λ (es : List A). record { code = 0; entries = es }) same ∙ sym (accepted-screen entry zero table other k)

  screen-told : screen entry zero table image ≡ screen entry zero table other → SameIn entry f g
  screen-told e i n =
      let same = ap (λ (s : Screen A). s.entries) (sym (accepted-screen entry zero table image h) ∙ e ∙ accepted-screen entry zero table other k) in
      sym (shown_of entry f i) ∙ ap (λ (es : List A). get_or es (i - 1) (entry no_slot)) same ∙ shown_of entry g i

-- ---- the theorem

pub screens_tell : (table : Table) (image other : List ℕ) → first (header_checks table image) ≡ 0 → first (header_checks table other) ≡ 0 → ScreensTell table image other
unfolding enabled_bit details_of is_enabled
screens_tell table image other h k =
    record {
      slots_same = λ e. same-screen enabled_bit 0 table image other h k (λ i n. ap (λ (b : Bool). cond b 1 0) (e i n));
      slots_told = λ e i n. bit-told _ _ (screen-told enabled_bit 0 table image other h k e i n);
      details_same =
          λ e.
          same-screen details_of _ table image other h k
          (λ i n.
          λ j.
          record {
            enabled = cond (eqb (e.state_same i n j) enabled) 1 0;
            count = e.count_same i n j;
            start = e.start_same i n j;
            stripes = e.stripes_same i n j;
          });
      details_told =
          λ e.
          let told = screen-told details_of _ table image other h k e in
          record {
            state_same = λ i n. state-told _ _ (record_ok_lem table image h i n) (record_ok_lem table other k i n) (bit-told _ _ (ap (λ (d : Details). d.enabled) (told i n)));
            count_same = λ i n. ap (λ (d : Details). d.count) (told i n);
            start_same = λ i n. ap (λ (d : Details). d.start) (told i n);
            stripes_same = λ i n. ap (λ (d : Details). d.stripes) (told i n);
          };
    }
