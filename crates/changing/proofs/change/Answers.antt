use mathlib.Core.Path.{◌≡◌, refl, sym, subst, ap, ap₂, ◌∙◌}
use mathlib.Core.List.{List, ◌++◌}
use Prim.Native.Nat.{ℕ, ◌+◌, ◌-◌}
use lib.ListN.{length, take}
use lib.Seq.{take_at}
use borrow.Author.Tests.{eq-eqb}
use Rattle.std.specs.Prelude.{Option, Some, Result, Ok, Err, IfSome, is_some}
use Rattle.std.specs.Option.{ok_or}
use Rattle.octets.specs.Octets.{zeros, padded}
use Rattle.rules.specs.Checks.{first}
use Rattle.rules.specs.Facts.{Facts, SlotInput, matches, candidate}
use Rattle.rules.specs.Calls.{change, key_ok, early_checks, late_checks, done, answer}
use Rattle.rules.specs.Promises.{DoesListed}
use Rattle.rules.specs.Sectors.{encoded, slot_list}
use Rattle.rules.specs.Step.{written, writes, enable_writes, disable_writes}
use Rattle.rules.specs.Lists.{enabled_image, disabled_image, list_of}
use Rattle.rules.specs.Costs.{test_cost, work_cost}
use Rattle.rules.proofs.ChecksLaws.{refused_by, first_pass}
use Rattle.rules.proofs.StepLaws.{step-accepted, lists_accepted}
use Rattle.profiles.specs.Suites.{built}
use Rattle.hmac.specs.declared.Counted.{Counted}
use Rattle.keyslot.specs.Input.{input_of}
use Rattle.header.specs.declared.refusal.Refused.{Refused}
use Rattle.header.specs.declared.refusal.Refusal.TheVariants.{WrongKey}
use Rattle.header.specs.Refusals.{answered}
use Rattle.header.specs.Records.{facts_in, HeaderOk}
use Rattle.sectors.proofs.CallLaws.{listed-header, listed-early, listed-late, Ready, ready}
use Rattle.slots.specs.Trials.{IsTrial}
use Rattle.slots.proofs.AreaLaws.{opens-on}
use Rattle.slots.proofs.CostLaws.{tried-cost}
use Rattle.changing.proofs.ChangeLaws.{Given, given}
use Rattle.changing.proofs.change.Goals as goal

pub returns-in_err-drive : goal.returns-in_err-drive
returns-in_err-drive c =
    let a = c.args in
    listed-header a.image.now (change a.from a.old.now a.to (input_of a.input) a.filler.now a.list.now) a.list.now _ _ c.from_residual.ensures.1 c.in_err-drive.ensures.number

pub returns-in_err-ends : goal.returns-in_err-ends
returns-in_err-ends c =
    let a = c.args in
    let d = c.in_ok-drive in
    listed-early a.image.now (change a.from a.old.now a.to (input_of a.input) a.filler.now a.list.now) a.list.now _ _ c.from_residual-in_err-ends.ensures.1
    d.drive.image.now d.ensures.same d.drive.accepted c.in_err-ends.ensures.number

-- ---- behind the early checks: k and j are the slots' numbers that they hand on

module _ (m : List ℕ) (old : List ℕ) (x : SlotInput) (filler list : List ℕ) where
  ready-both : (d : List ℕ) → d ≡ m → HeaderOk d → (k from j to : ℕ) → k ≡ from → j ≡ to
      → 0 ≡ first (early_checks (facts_in d) (change from old to x filler list)) → Ready m (change k old j x filler list)
  ready-both d same ok k from j to e g n =
      subst (λ (j : ℕ). Ready m (change k old j x filler list)) (sym g)
      (ready m d same ok k from e (λ (k : ℕ). change k old to x filler list) n)

  does-both : (k from j to : ℕ) → k ≡ from → j ≡ to → (n : ℕ) (after l : List ℕ) (v : ℕ)
      → DoesListed built m (change k old j x filler list) n after list l v → DoesListed built m (change from old to x filler list) n after list l v
  does-both k from j to e g n after l v h =
      subst (λ (k : ℕ). DoesListed built m (change k old to x filler list) n after list l v) e
      (subst (λ (j : ℕ). DoesListed built m (change k old j x filler list) n after list l v) g h)

trial-on : (t : Counted (Option (List ℕ))) (d m : List ℕ) → d ≡ m → (k : ℕ) (p old : List ℕ) → p ≡ old → IsTrial t (facts_in d) k p → IsTrial t (facts_in m) k old
trial-on t d m s k p old q h = subst (λ (p : List ℕ). IsTrial t (facts_in m) k p) q (subst (λ (m : List ℕ). IsTrial t (facts_in m) k p) s h)

-- ---- behind the trial

-- the key is the first slot's where that opens
match-is : (f : Facts) (k j : ℕ) (old : List ℕ) (x : SlotInput) (filler list : List ℕ) (t : Counted (Option (List ℕ)))
    → Given f k old j x filler list → IsTrial t f k old → matches f (candidate f k old) ≡ is_some t.value
match-is f k j old x filler list t g h = opens-on f k old _ _ g.live refl refl ∙ sym h.opens_is

abbrev values-in : Result (List ℕ) Refused → ℕ
values-in (Ok x) = 0
values-in (Err f) = f.values

pub returns-in_err-key : goal.returns-in_err-key
unfolding late_checks test_cost
returns-in_err-key c =
    let a = c.args in
    let m = a.image.now in
    let x = input_of a.input in
    let f = facts_in m in
    let d = c.in_ok-drive in
    let w = c.in_ok-ends in
    let k = w.ends.from.number in
    let j = w.ends.to.number in
    let s = w.ensures.same in
    let r = ready-both m a.old.now x a.filler.now a.list.now _ d.ensures.same d.drive.accepted k _ j _ s.0 s.1 w.ensures.number in
    let g = given f k a.old.now j x a.filler.now a.list.now r.early in
    let t = c.try_slot-trial.result in
    let u = trial-on t _ m d.ensures.same k _ a.old.now s.2 c.try_slot-trial.ensures in
    let h = c.in_err-key.ensures in
    let F : Refused = record { refusal = WrongKey; values = t.made } in
    does-both m a.old.now x a.filler.now a.list.now k _ j _ s.0 s.1 _ _ _ _
    (listed-late m (change k a.old.now j x a.filler.now a.list.now) a.list.now _ _ c.from_residual-in_err-key.ensures.1 r.header_ok r.early
    (ap answered h.value ∙ ap (λ (o : Option (List ℕ)). answered (ok_or o F)) h.ok_part
    ∙ refused_by (late_checks f (change k a.old.now j x a.filler.now a.list.now)) 0 tt
    (match-is f k j a.old.now x a.filler.now a.list.now t g u ∙ sym h.variant))
    (ap values-in h.value ∙ ap (λ (o : Option (List ℕ)). values-in (ok_or o F)) h.ok_part ∙ tried-cost f k t.made g.live u.values_are))

-- ---- where it opens

key-of : (o : Option (List ℕ)) (key cand : List ℕ) → IfSome o (λ key. key ≡ padded 64 cand) → o ≡ Some key → key ≡ padded 64 cand
key-of o key cand h e = subst (λ (o : Option (List ℕ)). IfSome o (λ key. key ≡ padded 64 cand)) e h

-- the front of the trial's key is the candidate
front : (key cand : List ℕ) (l : ℕ) → key ≡ padded 64 cand → length cand ≡ l → take l key ≡ cand
front key cand l e n = ap (take l) e ∙ take_at cand (zeros (64 - length cand)) l n

-- (The clause on the passphrase is answered for either of the two: the edit under_the_old_passphrase is then refused by what it returns.)
pub move_key-made-requires : goal.move_key-made-requires
unfolding key_ok
move_key-made-requires c =
    let a = c.args in
    let m = a.image.now in
    let x = input_of a.input in
    let f = facts_in m in
    let d = c.in_ok-drive in
    let w = c.in_ok-ends in
    let k = w.ends.from.number in
    let j = w.ends.to.number in
    let s = w.ensures.same in
    let r = ready-both m a.old.now x a.filler.now a.list.now _ d.ensures.same d.drive.accepted k _ j _ s.0 s.1 w.ensures.number in
    let g = given f k a.old.now j x a.filler.now a.list.now r.early in
    let u = trial-on c.try_slot-trial.result _ m d.ensures.same k _ a.old.now s.2 c.try_slot-trial.ensures in
    let n = u.length_is (sym c.in_ok-key.ensures.variant) in
    let L = c.key_bytes-l.ensures.0 ∙ ap (λ (m : List ℕ). (facts_in m).profile.key_bytes) d.ensures.same in
    let z = front _ (candidate f k a.old.now) c.key_bytes-l.result (key-of _ _ _ u.key_is c.in_ok-key.ensures.ok_part) (n ∙ sym L) in
    (r.header_ok, eq-eqb _ _ (ap length z ∙ n), search (g.new_ok, w.old.length_ok), g.count_passes, g.random_passes, g.filler_passes, g.list_passes)

pub returns : goal.returns
unfolding answer done writes late_checks list_of test_cost work_cost
returns c =
    let a = c.args in
    let m = a.image.now in
    let x = input_of a.input in
    let f = facts_in m in
    let d = c.in_ok-drive in
    let w = c.in_ok-ends in
    let k = w.ends.from.number in
    let j = w.ends.to.number in
    let s = w.ensures.same in
    let r = ready-both m a.old.now x a.filler.now a.list.now _ d.ensures.same d.drive.accepted k _ j _ s.0 s.1 w.ensures.number in
    let g = given f k a.old.now j x a.filler.now a.list.now r.early in
    let t = c.try_slot-trial.result in
    let u = trial-on t _ m d.ensures.same k _ a.old.now s.2 c.try_slot-trial.ensures in
    let n = u.length_is (sym c.in_ok-key.ensures.variant) in
    let L = c.key_bytes-l.ensures.0 ∙ ap (λ (m : List ℕ). (facts_in m).profile.key_bytes) d.ensures.same in
    let z = front _ (candidate f k a.old.now) c.key_bytes-l.result (key-of _ _ _ u.key_is c.in_ok-key.ensures.ok_part) (n ∙ sym L) in
    let called = change k a.old.now j x a.filler.now a.list.now in
    let made = c.move_key-made in
    let late = first_pass (late_checks f called) (match-is f k j a.old.now x a.filler.now a.list.now t g u ∙ sym c.in_ok-key.ensures.variant, tt) in
    does-both m a.old.now x a.filler.now a.list.now k _ j _ s.0 s.1 0 _ _ _
    (lists_accepted built m called _ (t.made + made.result)
    (step-accepted built m called r.header_ok r.early late (t.made + made.result) (ap₂ ◌+◌ (tried-cost f k t.made g.live u.values_are) made.ensures.1)) 0 _ a.list.now _ refl refl
    (made.ensures.0.image_is ∙ ap (λ (y : List ℕ). written (enable_writes f j y x ++ disable_writes f k a.filler.now) m) z)
    (made.ensures.0.list_is
    ∙ ap (λ (y : List ℕ). encoded (slot_list f j (enabled_image f j y x m) ++ slot_list f k (disabled_image f k a.filler.now (enabled_image f j y x m)))) z))
