-- Laws of costs (02, "Wish 6. How long an opening takes"): what a call's number says of its cost, and what a search and an opening cost.
use mathlib.Core.Path.{◌≡◌, refl, sym, ap, ◌∙◌}
use mathlib.Core.Logic.{◌≢◌}
use mathlib.Core.List.{List, [], ◌∷◌}
use mathlib.Core.Bool.{Bool, true, false, ◌||◌, not}
use Prim.Native.Nat.{ℕ, zero, suc, ◌+◌, ◌-◌, ◌≤◌, ◌<◌}
use native.Mathlib.Omega.{arith}
use lib.Dec.{eqb, ltb}
use borrow.Author.Tests.{eqb-true, eqb-false, ne_eqb, ltb-true, ltb-false, not-true}
use Rattle.octets.proofs.BoolLaws.{and_split, or_split}
use Rattle.rules.specs.Checks.{Check, first, every}
use Rattle.rules.specs.Profiles.{Table}
use Rattle.rules.specs.Facts.{Facts, SlotInput, is_enabled, slot_of, facts_of}
use Rattle.rules.specs.Header.{header_checks, sound_checks}
use Rattle.rules.specs.Calls.{Call, add, change, revoke, open_slot, open_any, read, write, opens, seek, range_checks, early_checks, late_checks, opened, answer, refused}
use Rattle.rules.specs.Step.{settle, step}
use Rattle.rules.specs.Format.{FormatInput, suite_for, format_checks, format}
use Rattle.rules.specs.Costs.{derivation_cost, trial_cost, enabled_cost, trials_cost, search_cost, test_cost, work_cost, cost_on, format_cost, OpeningCosts}
use Rattle.rules.proofs.ChecksLaws.{accepted}
use Rattle.rules.proofs.ArgumentLaws.{number_in}
use Rattle.rules.proofs.FormatLaws.{number_of-format}
use Rattle.rules.proofs.StepLaws.{numbered-early, answered-0, Refused, step-header, step-early, step-late, step-accepted}

-- ---- sums over the m slots from k

module _ (f : Facts) where
  -- one enabled slot's trial is part of the sum
  pub trial-most : (k m j : ℕ) → k ≤ j → j < k + m → enabled_cost f j ≤ trials_cost f k m
  unfolding trials_cost
  trial-most k zero j l h = absurd (omega arith)
  trial-most k (suc m) j l h = go (eqb k j) refl (λ n. trial-most (suc k) m j n (omega arith))
    where
      go : (b : Bool) → eqb k j ≡ b → (suc k ≤ j → enabled_cost f j ≤ trials_cost f (suc k) m) → enabled_cost f j ≤ enabled_cost f k + trials_cost f (suc k) m
      go true e q = let z : enabled_cost f k ≡ enabled_cost f j = ap (enabled_cost f) (eqb-true k j e) in omega arith
      go false e q = let n = eqb-false k j e in let z = q (omega arith) in omega arith

  -- "over all enabled slots": where none is, the sum is 0
  pub none_enabled : (k m : ℕ) → ((j : ℕ) → k ≤ j → j < k + m → is_enabled (slot_of f j) ≡ false) → trials_cost f k m ≡ 0
  unfolding trials_cost enabled_cost
  none_enabled k zero h = refl
  none_enabled k (suc m) h =
      let e : enabled_cost f k ≡ 0 = rw (h k (omega arith) (omega arith)) in
      let q = none_enabled (suc k) m (λ j l n. h j (omega arith) (omega arith)) in
      omega arith

  -- a slot costs as much to open as to add: the derivation with its count, and one checksum
  pub opened_as_added : (k : ℕ) (p : List ℕ) (j : ℕ) (key : List ℕ) (x : SlotInput) (list : List ℕ) → x.count ≡ (slot_of f k).count
      → test_cost f (open_slot k p) + work_cost f (open_slot k p) ≡ test_cost f (add j key x list) + work_cost f (add j key x list)
  unfolding test_cost work_cost trial_cost
  opened_as_added k p j key x list e =
      let q : derivation_cost f x.count ≡ derivation_cost f (slot_of f k).count = ap (derivation_cost f) e in
      omega arith

  module _ (p : List ℕ) where
    -- a slot that opens ends the search, and is counted
    pub search_here : (k m : ℕ) → opens f k p ≡ true → search_cost f p k (suc m) ≡ enabled_cost f k
    unfolding search_cost
    search_here k m e = let z : enabled_cost f k + 0 ≡ enabled_cost f k = omega arith in rw e z

    pub seek-here : (k m : ℕ) → opens f k p ≡ true → seek f p k (suc m) ≡ k
    unfolding seek
    seek-here k m e = rw e

    -- after one that does not the search goes on
    pub search_on : (k m : ℕ) → opens f k p ≡ false → search_cost f p k (suc m) ≡ enabled_cost f k + search_cost f p (suc k) m
    unfolding search_cost
    search_on k m e = rw e

    pub seek-on : (k m : ℕ) → opens f k p ≡ false → seek f p k (suc m) ≡ seek f p (suc k) m
    unfolding seek
    seek-on k m e = rw e

    -- a search costs at most the sum
    pub search_most : (k m : ℕ) → search_cost f p k m ≤ trials_cost f k m
    unfolding search_cost trials_cost
    search_most k zero = omega arith
    search_most k (suc m) = go (opens f k p) refl (search_most (suc k) m)
      where
        go : (b : Bool) → opens f k p ≡ b → search_cost f p (suc k) m ≤ trials_cost f (suc k) m → search_cost f p k (suc m) ≤ trials_cost f k (suc m)
        go true e q = omega (arith, search_here k m e)
        go false e q = omega (arith, search_on k m e)

    -- one that opens no slot costs the sum
    pub search_none : (k m : ℕ) → 1 ≤ k → seek f p k m ≡ 0 → search_cost f p k m ≡ trials_cost f k m
    unfolding search_cost trials_cost
    search_none k zero h e = refl
    search_none k (suc m) h e = go (opens f k p) refl (search_none (suc k) m (omega arith))
      where
        go : (b : Bool) → opens f k p ≡ b → (seek f p (suc k) m ≡ 0 → search_cost f p (suc k) m ≡ trials_cost f (suc k) m)
            → search_cost f p k (suc m) ≡ trials_cost f k (suc m)
        go true o q = absurd (omega (arith, seek-here k m o))
        go false o q = let z = q (sym (seek-on k m o) ∙ e) in omega (arith, search_on k m o)

    -- the slot that opens is none before k
    pub seek-from : (k m : ℕ) → seek f p k m ≢ 0 → k ≤ seek f p k m
    unfolding seek
    seek-from k zero h = absurd (h refl)
    seek-from k (suc m) h = go (opens f k p) refl (seek-from (suc k) m)
      where
        go : (b : Bool) → opens f k p ≡ b → (seek f p (suc k) m ≢ 0 → suc k ≤ seek f p (suc k) m) → k ≤ seek f p k (suc m)
        go true o q = omega (arith, seek-here k m o)
        go false o q = let z = q (λ e. h (seek-on k m o ∙ e)) in omega (arith, seek-on k m o)

    -- one that opens slot k + j costs the sum up to that slot and with it
    search-hit : (k m j : ℕ) → 1 ≤ k → seek f p k m ≡ k + j → search_cost f p k m ≡ trials_cost f k (suc j)
    unfolding seek trials_cost
    search-hit k zero j h e = absurd (omega arith)
    search-hit k (suc m) j h e = go (opens f k p) j refl e (seek-from (suc k) m) (λ i. search-hit (suc k) m i (omega arith))
      where
        go : (b : Bool) (j : ℕ) → opens f k p ≡ b → seek f p k (suc m) ≡ k + j → (seek f p (suc k) m ≢ 0 → suc k ≤ seek f p (suc k) m)
            → ((i : ℕ) → seek f p (suc k) m ≡ suc k + i → search_cost f p (suc k) m ≡ trials_cost f (suc k) (suc i)) → search_cost f p k (suc m) ≡ trials_cost f k (suc j)
        go true zero o e n q = omega (arith, search_here k m o)
        go true (suc i) o e n q = absurd (omega (arith, seek-here k m o))
        go false zero o e n q =
            let s = seek-on k m o in
            let z = n (λ x. omega arith) in
            absurd (omega arith)
        go false (suc i) o e n q =
            let s = seek-on k m o in
            let z = q i (omega arith) in
            omega (arith, search_on k m o)

    -- an accepted search: the sum over the enabled slots up to the one that opened, and with it
    pub search_accepted : seek f p 1 8 ≢ 0 → search_cost f p 1 8 ≡ trials_cost f 1 (seek f p 1 8)
    search_accepted h =
        let l = seek-from 1 8 h in
        let e : seek f p 1 8 ≡ suc (seek f p 1 8 - 1) = omega arith in
        search-hit 1 8 (seek f p 1 8 - 1) (omega arith) (omega arith) ∙ ap (trials_cost f 1) (sym e)

-- ---- the number tells

-- the number of a list of checks passes a test that 0 and each check's number pass
first_passes : (t : ℕ → Bool) (cs : List Check) → t 0 ≡ true → every (λ c. t c.1) cs ≡ true → t (first cs) ≡ true
unfolding first every
first_passes t [] z e = z
first_passes t ((true, r) ∷ cs) z e = first_passes t cs z (and_split (t r) (every (λ c. t c.1) cs) e).1
first_passes t ((false, r) ∷ cs) z e = (and_split (t r) (every (λ c. t c.1) cs) e).0

-- any number but 17
abbrev other : ℕ → Bool
other r = not (eqb r 17)

-- 0 or 17
abbrev late : ℕ → Bool
late r = eqb r 0 || eqb r 17

-- the header check and the early checks never give 17, the late ones give no other number
other-header : (table : Table) (image : List ℕ) → every (λ d. other d.1) (header_checks table image) ≡ true
unfolding header_checks sound_checks every
other-header table image = refl

other-early : (f : Facts) (c : Call) → every (λ d. other d.1) (early_checks f c) ≡ true
unfolding early_checks range_checks every
other-early f (add k key x list) = refl
other-early f (change k passphrase to x filler list) = refl
other-early f (revoke k filler list) = refl
other-early f (open_slot k passphrase) = refl
other-early f (open_any passphrase) = refl
other-early f (read key u n buffer) = refl
other-early f (write key u n buffer) = refl

late-late : (f : Facts) (c : Call) → every (λ d. late d.1) (late_checks f c) ≡ true
unfolding late_checks every
late-late f (add k key x list) = refl
late-late f (change k passphrase to x filler list) = refl
late-late f (revoke k filler list) = refl
late-late f (open_slot k passphrase) = refl
late-late f (open_any passphrase) = refl
late-late f (read key u n buffer) = refl
late-late f (write key u n buffer) = refl

module _ (table : Table) (image : List ℕ) (c : Call) where
  abbrev f : Facts
  f = facts_of table image

  -- header check and early checks pass, and the late ones give r
  abbrev Until : ℕ → Type 0
  Until r = (first (header_checks table image) ≡ 0) × (first (early_checks f c) ≡ 0) × (first (late_checks f c) ≡ r)

  -- the call's number r tells what it costs, v: nothing where it is refused before 17, its test with 17, its work too where it is accepted
  data Told (r v : ℕ) : Type 0 where
    before : r ≢ 0 → r ≢ 17 → v ≡ 0 → Told r v
    with_17 : r ≡ 17 → Until 17 → v ≡ test_cost f c → Told r v
    all-of-it : r ≡ 0 → Until 0 → v ≡ test_cost f c + work_cost f c → Told r v

  -- what the call answers, and what it costs
  abbrev number : ℕ
  number = (step table image c).said.code

  abbrev values : ℕ
  values = cost_on table image c

  -- refused by a list of checks that never gives 17
  by_other : (cs : List Check) → first cs ≢ 0 → every (λ d. other d.1) cs ≡ true → Refused table image c (first cs) 0 → Told number values
  unfolding refused
  by_other cs n e s =
      let o = eqb-false (first cs) 17 (not-true _ (first_passes other cs refl e)) in
      let r : number ≡ first cs = ap (λ a. a.said.code) s.0 in
      before (λ q. n (sym r ∙ q)) (λ q. o (sym r ∙ q)) (sym s.1)

  by_late : first (header_checks table image) ≡ 0 → first (early_checks f c) ≡ 0 → (b : Bool) → eqb (first (late_checks f c)) 0 ≡ b → Told number values
  unfolding refused
  by_late h e true z =
      let q : first (late_checks f c) ≡ 0 = eqb-true (first (late_checks f c)) 0 z in
      let s = step-accepted table image c h e q (test_cost f c + work_cost f c) refl in
      all-of-it (ap (λ a. a.said.code) s.0 ∙ answered-0 f c) (h, e, q) (sym s.1)
  by_late h e false z =
      let n : first (late_checks f c) ≢ 0 = eqb-false (first (late_checks f c)) 0 z in
      let l = first_passes late (late_checks f c) refl (late-late f c) in
      let q : first (late_checks f c) ≡ 17 = or_split (eqb (first (late_checks f c)) 0) (eqb (first (late_checks f c)) 17) l (λ t. absurd (n (eqb-true _ _ t))) (eqb-true _ _) in
      let s = step-late table image c h e (first (late_checks f c)) n refl (test_cost f c) refl in
      with_17 (ap (λ a. a.said.code) s.0 ∙ q) (h, e, q) (sym s.1)

  by_early : first (header_checks table image) ≡ 0 → (b : Bool) → eqb (first (early_checks f c)) 0 ≡ b → Told number values
  by_early h true z = by_late h (eqb-true _ _ z) (eqb (first (late_checks f c)) 0) refl
  by_early h false z = by_other (early_checks f c) (eqb-false _ _ z) (other-early f c) (step-early table image c h _ (eqb-false _ _ z) refl)

  by_header : (b : Bool) → eqb (first (header_checks table image)) 0 ≡ b → Told number values
  by_header true z = by_early (eqb-true _ _ z) (eqb (first (early_checks f c)) 0) refl
  by_header false z = by_other (header_checks table image) (eqb-false _ _ z) (other-header table image) (step-header table image c _ (eqb-false _ _ z) refl)

  told : Told number values
  told = by_header (eqb (first (header_checks table image)) 0) refl

  refused_by_told : (r v : ℕ) → Told r v → r ≢ 0 → r ≢ 17 → v ≡ 0
  refused_by_told r v (before n o e) h k = e
  refused_by_told r v (with_17 q u w) h k = absurd (k q)
  refused_by_told r v (all-of-it q u w) h k = absurd (h q)

  tested_by_told : (r v : ℕ) → Told r v → r ≡ 17 → Until 17 × (v ≡ test_cost f c)
  tested_by_told r v (before n o e) h = absurd (o h)
  tested_by_told r v (with_17 q u w) h = (u, w)
  tested_by_told r v (all-of-it q u w) h = absurd (omega arith)

  accepted_by_told : (r v : ℕ) → Told r v → r ≡ 0 → Until 0 × (v ≡ test_cost f c + work_cost f c)
  accepted_by_told r v (before n o e) h = absurd (n h)
  accepted_by_told r v (with_17 q u w) h = absurd (omega arith)
  accepted_by_told r v (all-of-it q u w) h = (u, w)

  -- 17 is given past the header check and the early checks, and so is 0
  pub tested-checks : (step table image c).said.code ≡ 17
      → (first (header_checks table image) ≡ 0) × (first (early_checks (facts_of table image) c) ≡ 0) × (first (late_checks (facts_of table image) c) ≡ 17)
  tested-checks h = (tested_by_told number values told h).0

  pub accepted-checks : (step table image c).said.code ≡ 0
      → (first (header_checks table image) ≡ 0) × (first (early_checks (facts_of table image) c) ≡ 0) × (first (late_checks (facts_of table image) c) ≡ 0)
  accepted-checks h = (accepted_by_told number values told h).0

  -- "all else 0": a call that is refused with another number than 17
  pub refused-cost : (step table image c).said.code ≢ 0 → (step table image c).said.code ≢ 17 → cost_on table image c ≡ 0
  refused-cost = refused_by_told number values told

  -- with 17
  pub tested-cost : (step table image c).said.code ≡ 17 → cost_on table image c ≡ test_cost (facts_of table image) c
  tested-cost h = (tested_by_told number values told h).1

  -- an accepted call
  pub accepted-cost : (step table image c).said.code ≡ 0 → cost_on table image c ≡ test_cost (facts_of table image) c + work_cost (facts_of table image) c
  accepted-cost h = (accepted_by_told number values told h).1

  -- and what it answers
  settled-answer : (r : ℕ) (b : Bool) → eqb r 0 ≡ b → (settle f c image r b).said.code ≡ 0 → (settle f c image r b).said ≡ answer f c
  unfolding settle refused
  settled-answer r true e h = refl
  settled-answer r false e h = absurd (eqb-false r 0 e h)

  pub accepted-answer : (step table image c).said.code ≡ 0 → (step table image c).said ≡ answer (facts_of table image) c
  unfolding step
  accepted-answer h = settled-answer _ _ refl h

  -- what bounds the test of a call without work bounds the call
  most : (n : ℕ) → work_cost f c ≡ 0 → (first (early_checks f c) ≡ 0 → test_cost f c ≤ n) → (r v : ℕ) → Told r v → v ≤ n
  most n w h r v (before o p e) = omega arith
  most n w h r v (with_17 q u e) = let z = h u.1 in omega arith
  most n w h r v (all-of-it q u e) = let z = h u.1 in omega arith

-- ---- openings

module _ (table : Table) (image : List ℕ) where
  -- the slot's number is 1 to 8 and the slot is enabled
  tries_one : (k : ℕ) (p : List ℕ) → first (early_checks (facts_of table image) (open_slot k p)) ≡ 0
      → test_cost (facts_of table image) (open_slot k p) ≤ trials_cost (facts_of table image) 1 8
  unfolding early_checks test_cost enabled_cost
  tries_one k p e =
      let f = facts_of table image in
      let c = accepted (early_checks f (open_slot k p)) (numbered-early f (open_slot k p)) e in
      let n = number_in k c.0 in
      let t : enabled_cost f k ≡ trial_cost f k = rw c.1.1.0 in
      omega (arith, trial-most f 1 8 k n.0 (omega arith))

  -- 17 of a search says that no slot opens, 0 that one does
  pub finds_none : (p : List ℕ) → first (late_checks (facts_of table image) (open_any p)) ≡ 17 → seek (facts_of table image) p 1 8 ≡ 0
  unfolding late_checks first
  finds_none p = go (ltb 0 (seek (facts_of table image) p 1 8)) refl
    where
      go : (b : Bool) → ltb 0 (seek (facts_of table image) p 1 8) ≡ b → first ((b, 17) ∷ []) ≡ 17 → seek (facts_of table image) p 1 8 ≡ 0
      go true q e = absurd (omega arith)
      go false q e = let z = ltb-false 0 (seek (facts_of table image) p 1 8) q in omega arith

  pub finds-one : (p : List ℕ) → first (late_checks (facts_of table image) (open_any p)) ≡ 0 → seek (facts_of table image) p 1 8 ≢ 0
  unfolding late_checks first
  finds-one p = go (ltb 0 (seek (facts_of table image) p 1 8)) refl
    where
      go : (b : Bool) → ltb 0 (seek (facts_of table image) p 1 8) ≡ b → first ((b, 17) ∷ []) ≡ 0 → seek (facts_of table image) p 1 8 ≢ 0
      go true q e z = let h = ltb-true 0 (seek (facts_of table image) p 1 8) q in omega arith
      go false q e z = omega arith

  -- a search that opens a slot costs the sum over the enabled slots up to the one that it answers, and with it
  pub search_opened : (p : List ℕ) → (step table image (open_any p)).said.code ≡ 0
      → cost_on table image (open_any p) ≡ trials_cost (facts_of table image) 1 (step table image (open_any p)).said.slot
  unfolding test_cost work_cost answer opened
  search_opened p h =
      let f = facts_of table image in
      let t = accepted_by_told table image (open_any p) _ _ (told table image (open_any p)) h in
      let s : (step table image (open_any p)).said.slot ≡ seek f p 1 8 = ap (λ a. a.slot) (accepted-answer table image (open_any p) h) in
      let v : cost_on table image (open_any p) ≡ search_cost f p 1 8 = let q = t.1 in omega arith in
      v ∙ search_accepted f p (finds-one p t.0.2) ∙ ap (trials_cost f 1) (sym s)

-- for every table
pub opening_costs : (table : Table) → OpeningCosts table
unfolding test_cost work_cost
opening_costs table =
    record {
      slot_most = λ image k p. most table image (open_slot k p) _ refl (tries_one table image k p) _ _ (told table image (open_slot k p));
      search_most = λ image p. most table image (open_any p) _ refl (λ e. search_most (facts_of table image) p 1 8) _ _ (told table image (open_any p));
      refused_reaches = λ image p h.
          let t = tested_by_told table image (open_any p) _ _ (told table image (open_any p)) h in
          t.1 ∙ search_none (facts_of table image) p 1 8 (omega arith) (finds_none table image p t.0.2);
    }

-- ---- format

module _ (table : Table) (a : FormatInput) (image : List ℕ) where
  -- "an accepted format ... one checksum, ... all else 0"
  pub format-accepted-cost : (format table a image).code ≡ 0 → format_cost table a image ≡ (suite_for table a).made a.count 20
  unfolding format_cost
  format-accepted-cost e = rw (sym (number_of-format table a image) ∙ e)

  pub format-refused-cost : (format table a image).code ≢ 0 → format_cost table a image ≡ 0
  unfolding format_cost
  format-refused-cost n = rw (ne_eqb (first (format_checks table a image)) 0 (λ e. n (number_of-format table a image ∙ e)))
