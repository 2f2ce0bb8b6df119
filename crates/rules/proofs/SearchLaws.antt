-- The search answers the first slot that opens, and is refused with 17 exactly where none does.
use mathlib.Core.Path.{◌≡◌, refl, sym, ap, subst, ◌∙◌}
use mathlib.Core.Logic.{◌≢◌}
use mathlib.Core.List.{List}
use mathlib.Core.Bool.{Bool, true, false}
use Prim.Native.Nat.{ℕ, zero, suc, ◌+◌, ◌≤◌, ◌<◌}
use native.Mathlib.Omega.{arith}
use lib.Dec.{eqb, leb, ltb}
use borrow.Author.Tests.{eqb-true, eqb-false, leb-true, leb-false, lt-ltb}
use Rattle.octets.proofs.BoolLaws.{and_split, and_both, no}
use Rattle.rules.specs.Checks.{first}
use Rattle.rules.specs.Profiles.{Table}
use Rattle.rules.specs.Facts.{Facts, is_enabled, slot_of, matches, candidate, facts_of}
use Rattle.rules.specs.Header.{header_checks}
use Rattle.rules.specs.Calls.{open_any, opens, seek, early_checks, late_checks, opened, answer, refused}
use Rattle.rules.specs.Step.{step}
use Rattle.rules.specs.Costs.{test_cost, work_cost}
use Rattle.rules.specs.Search.{SlotOpens, NoneOpens, FirstOpens, Seeks, Past, Searched}
use Rattle.rules.proofs.ChecksLaws.{accepted}
use Rattle.rules.proofs.StepLaws.{numbered-early, step-late, step-accepted}
use Rattle.rules.proofs.CostLaws.{seek-here, seek-on, seek-from, tested-checks, accepted-checks, accepted-answer, finds_none, finds-one}

-- ---- the law of `seek`

module _ (f : Facts) (p : List ℕ) where
  slot-opens : (k : ℕ) → 1 ≤ k → k ≤ 8 → opens f k p ≡ true → SlotOpens f p k
  unfolding opens
  slot-opens k l m e =
      let s = and_split (is_enabled (slot_of f k)) (matches f (candidate f k p)) e in
      record { least = l; most = m; enabled_is = s.0; matches_is = s.1 }

  opens-true : (k : ℕ) → SlotOpens f p k → opens f k p ≡ true
  unfolding opens
  opens-true k o = and_both (is_enabled (slot_of f k)) (matches f (candidate f k p)) o.enabled_is o.matches_is

  -- a search among the m slots from k that gives 0 passed over no slot that opens
  none_opens : (k m j : ℕ) → 1 ≤ k → seek f p k m ≡ 0 → k ≤ j → j < k + m → opens f j p ≡ false
  none_opens k zero j l e h n = absurd (omega arith)
  none_opens k (suc m) j l e h n = go (opens f k p) refl (eqb k j) refl (none_opens (suc k) m j (omega arith))
    where
      go : (b : Bool) → opens f k p ≡ b → (d : Bool) → eqb k j ≡ d → (seek f p (suc k) m ≡ 0 → suc k ≤ j → j < suc k + m → opens f j p ≡ false) → opens f j p ≡ false
      go true o d t q = absurd (omega (arith, seek-here f p k m o))
      go false o true t q = ap (λ (i : ℕ). opens f i p) (sym (eqb-true k j t)) ∙ o
      go false o false t q = let x = eqb-false k j t in q (sym (seek-on f p k m o) ∙ e) (omega arith) (omega arith)

  -- what it gives else opens
  found-opens : (k m : ℕ) → seek f p k m ≢ 0 → opens f (seek f p k m) p ≡ true
  unfolding seek
  found-opens k zero h = absurd (h refl)
  found-opens k (suc m) h = go (opens f k p) refl (found-opens (suc k) m)
    where
      go : (b : Bool) → opens f k p ≡ b → (seek f p (suc k) m ≢ 0 → opens f (seek f p (suc k) m) p ≡ true) → opens f (seek f p k (suc m)) p ≡ true
      go true o q = ap (λ (i : ℕ). opens f i p) (seek-here f p k m o) ∙ o
      go false o q = ap (λ (i : ℕ). opens f i p) (seek-on f p k m o) ∙ q (λ e. h (seek-on f p k m o ∙ e))

  -- is among them
  found-most : (k m : ℕ) → 1 ≤ k → seek f p k m < k + m
  unfolding seek
  found-most k zero l = omega arith
  found-most k (suc m) l = go (opens f k p) refl (found-most (suc k) m (omega arith))
    where
      go : (b : Bool) → opens f k p ≡ b → seek f p (suc k) m < suc k + m → seek f p k (suc m) < k + suc m
      go true o q = omega (arith, seek-here f p k m o)
      go false o q = omega (arith, seek-on f p k m o)

  -- and has none before it that opens
  before-found : (k m j : ℕ) → k ≤ j → j < seek f p k m → opens f j p ≡ false
  unfolding seek
  before-found k zero j l h = absurd (omega arith)
  before-found k (suc m) j l h = go (opens f k p) refl (eqb k j) refl (before-found (suc k) m j)
    where
      go : (b : Bool) → opens f k p ≡ b → (d : Bool) → eqb k j ≡ d → (suc k ≤ j → j < seek f p (suc k) m → opens f j p ≡ false) → opens f j p ≡ false
      go true o d t q = absurd (omega (arith, seek-here f p k m o))
      go false o true t q = ap (λ (i : ℕ). opens f i p) (sym (eqb-true k j t)) ∙ o
      go false o false t q = let x = eqb-false k j t in q (omega arith) (omega (arith, seek-on f p k m o))

  found_none : seek f p 1 8 ≡ 0 → NoneOpens f p
  found_none e k o = no (sym (none_opens 1 8 k (omega arith) e o.least (omega (arith, o.most))) ∙ opens-true k o)

  not-before : (j : ℕ) → SlotOpens f p j → (b : Bool) → leb (seek f p 1 8) j ≡ b → seek f p 1 8 ≤ j
  not-before j o true e = leb-true (seek f p 1 8) j e
  not-before j o false e = no (sym (before-found 1 8 j o.least (leb-false (seek f p 1 8) j e)) ∙ opens-true j o)

  found_first : seek f p 1 8 ≢ 0 → FirstOpens f p (seek f p 1 8)
  found_first n =
      record {
        opens_itself = slot-opens (seek f p 1 8) (seek-from f p 1 8 n) (omega (arith, found-most 1 8 (omega arith))) (found-opens 1 8 n);
        none_before = λ j o. not-before j o (leb (seek f p 1 8) j) refl;
      }

  none_found : NoneOpens f p → seek f p 1 8 ≡ 0
  none_found h = go (eqb (seek f p 1 8) 0) refl
    where
      go : (b : Bool) → eqb (seek f p 1 8) 0 ≡ b → seek f p 1 8 ≡ 0
      go true e = eqb-true (seek f p 1 8) 0 e
      go false e = absurd (h (seek f p 1 8) (found_first (eqb-false (seek f p 1 8) 0 e)).opens_itself)

  first_found : (k : ℕ) → FirstOpens f p k → seek f p 1 8 ≡ k
  first_found k o =
      let n : seek f p 1 8 ≢ 0 = λ e. found_none e k o.opens_itself in
      let a = (found_first n).none_before k o.opens_itself in
      let b = o.none_before (seek f p 1 8) (found_first n).opens_itself in
      omega arith

  pub seeks : Seeks f p
  seeks = record { none_found = none_found; found_none = found_none; first_found = first_found; found_first = found_first }

-- ---- what a search answers

module _ (table : Table) (image p : List ℕ) where
  -- the image's facts
  abbrev f : Facts
  f = facts_of table image

  -- the checks before 17
  early-passes : Past table image p → first (early_checks f (open_any p)) ≡ 0
  unfolding early_checks first
  early-passes q = rw q.passphrase_passes

  passed : first (header_checks table image) ≡ 0 → first (early_checks f (open_any p)) ≡ 0 → Past table image p
  unfolding early_checks
  passed h e = record { header_passes = h; passphrase_passes = (accepted (early_checks f (open_any p)) (numbered-early f (open_any p)) e).0 }

  -- and 17
  late-17 : seek f p 1 8 ≡ 0 → 17 ≡ first (late_checks f (open_any p))
  unfolding late_checks first
  late-17 e = rw e

  late-0 : seek f p 1 8 ≢ 0 → first (late_checks f (open_any p)) ≡ 0
  unfolding late_checks first
  late-0 n = let h : 0 < seek f p 1 8 = omega arith in rw (lt-ltb 0 (seek f p 1 8) h)

  none_refused : Past table image p → NoneOpens f p → (step table image (open_any p)).said.code ≡ 17
  unfolding refused
  none_refused q h =
      let s = step-late table image (open_any p) q.header_passes (early-passes q) 17 (omega arith) (late-17 (none_found f p h)) (test_cost f (open_any p)) refl in
      ap (λ a. a.said.code) s.0

  first_opened : (k : ℕ) → Past table image p → FirstOpens f p k → (step table image (open_any p)).said ≡ opened f k p
  unfolding answer
  first_opened k q o =
      let e = first_found f p k o in
      let n : seek f p 1 8 ≢ 0 = λ z. omega (arith, o.opens_itself.least) in
      let s = step-accepted table image (open_any p) q.header_passes (early-passes q) (late-0 n) (test_cost f (open_any p) + work_cost f (open_any p)) refl in
      ap (λ a. a.said) s.0 ∙ ap (λ (i : ℕ). opened f i p) e

  refused_none : (step table image (open_any p)).said.code ≡ 17 → Past table image p × NoneOpens f p
  refused_none h =
      let t = tested-checks table image (open_any p) h in
      (passed t.0 t.1, found_none f p (finds_none table image p t.2))

  opened_first : (step table image (open_any p)).said.code ≡ 0 → Past table image p × FirstOpens f p (step table image (open_any p)).said.slot
  unfolding answer opened
  opened_first h =
      let t = accepted-checks table image (open_any p) h in
      let s : (step table image (open_any p)).said.slot ≡ seek f p 1 8 = ap (λ a. a.slot) (accepted-answer table image (open_any p) h) in
      (passed t.0 t.1, subst (FirstOpens f p) (sym s) (found_first f p (finds-one table image p t.2)))

  pub searched : Searched table image p (step table image (open_any p)).said
  searched =
      record {
        none_refused = none_refused;
        refused_none = refused_none;
        none_enabled = λ q h. none_refused q (λ k o. no (sym (h k o.least o.most) ∙ o.enabled_is));
        first_opened = first_opened;
        opened_first = opened_first;
      }
