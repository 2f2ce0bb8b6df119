use mathlib.Core.Path.{◌≡◌, refl, sym, ap, subst, ◌∙◌}
use mathlib.Core.List.{List}
use mathlib.Core.Bool.{true}
use Prim.Native.Nat.{ℕ, ◌+◌}
use native.Mathlib.Omega.{arith}
use Rattle.std.proofs.Common.{Option, IfSome, is_some}
use Rattle.octets.specs.Octets.{padded}
use Rattle.rules.specs.Facts.{Facts, slot_of, is_enabled, matches, candidate}
use Rattle.rules.specs.Calls.{open_slot, early_checks, late_checks, answer, opened}
use Rattle.rules.specs.Checks.{first}
use Rattle.rules.specs.Costs.{trial_cost, test_cost, work_cost}
use Rattle.rules.proofs.ChecksLaws.{accepted, refused_by, first_pass}
use Rattle.rules.proofs.StepLaws.{numbered-early, step-header, step-early, step-late, step-accepted, opens_as}
use Rattle.profiles.specs.Suites.{built}
use Rattle.hmac.specs.declared.Counted.{Counted}
use Rattle.header.specs.declared.refusal.Refused.{Refused}
use Rattle.header.specs.Refusals.{number}
use Rattle.header.specs.Records.{facts_in}
use Rattle.header.proofs.AnswerLaws.{number_some}
use Rattle.slots.specs.Trials.{IsTrial}
use Rattle.slots.proofs.AreaLaws.{opens-on}
use Rattle.slots.proofs.CostLaws.{tried-cost}
use Rattle.opening.proofs.OpenLaws.{no-key-slot, opens-refused, opens_on, refused_with, trial_as}
use Rattle.opening.proofs.open_slot.Goals as goal

-- ---- a trial of slot k where the early checks pass

module _ (f : Facts) (k : ℕ) (p : List ℕ) (early : 0 ≡ first (early_checks f (open_slot k p))) (t : Counted (Option (List ℕ))) (h : IsTrial t f k p) where
  on : is_enabled (slot_of f k) ≡ true
  unfolding early_checks
  on = (accepted (early_checks f (open_slot k p)) (numbered-early f (open_slot k p)) (sym early)).1.1.0

  -- it says whether the candidate matches
  found_is : matches f (candidate f k p) ≡ is_some t.value
  found_is = opens-on f k p _ _ on refl refl ∙ sym h.opens_is

  -- and costs what a trial of the slot costs
  cost-is : t.made ≡ trial_cost f k
  cost-is = tried-cost f k t.made on h.values_are

-- ---- goals

pub returns-in_err-drive : goal.returns-in_err-drive
returns-in_err-drive c =
    let m = c.args.image.now in
    let k = open_slot c.args.slot c.args.passphrase.now in
    opens-refused m k (no-key-slot _ _) _ _ c.from_residual.ensures.1 _ 0 refl refl
    (step-header built m k (number c.in_err-drive.field-0.0) (number_some _) c.in_err-drive.ensures.number)

pub returns-in_err-slot : goal.returns-in_err-slot
returns-in_err-slot c =
    let d = c.in_ok-drive.drive in
    let k = open_slot c.args.slot c.args.passphrase.now in
    opens_on _ _ c.in_ok-drive.ensures.same _ _ _ _ _ _
    (opens-refused d.image.now k (no-key-slot _ _) _ _ c.from_residual-in_err-slot.ensures.1 _ 0 refl refl
    (step-early built d.image.now k d.accepted (number c.in_err-slot.field-0.0) (number_some _) c.in_err-slot.ensures.number))

pub returns-in_err-key : goal.returns-in_err-key
unfolding late_checks test_cost
returns-in_err-key c =
    let d = c.in_ok-drive.drive in
    let f = facts_in d.image.now in
    let k = c.args.slot in
    let p = c.args.passphrase.now in
    let a = c.in_ok-slot.ensures in
    let t = c.try_slot-trial in
    let h = trial_as t.result f _ k _ p a.same.0 a.same.1 t.ensures in
    let r = c.in_err-key.ensures in
    let e = refused_with t.result.value c.in_err-key.field-0.0 _ r.value r.ok_part in
    let wrong = found_is f k p a.number t.result h ∙ sym r.variant in
    opens_on _ _ c.in_ok-drive.ensures.same _ _ _ _ _ _
    (opens-refused d.image.now (open_slot k p) (no-key-slot _ _) _ _ c.from_residual-in_err-key.ensures.1 17 t.result.made
    (ap (λ (x : Refused). number x.refusal) e) (ap (λ (x : Refused). x.values) e)
    (step-late built d.image.now (open_slot k p) d.accepted (sym a.number) 17 (λ q. omega arith) (refused_by (late_checks f (open_slot k p)) 0 tt wrong)
    t.result.made (cost-is f k p a.number t.result h)))

pub returns : goal.returns
unfolding late_checks answer opened test_cost work_cost
returns c =
    let d = c.in_ok-drive.drive in
    let f = facts_in d.image.now in
    let k = c.args.slot in
    let p = c.args.passphrase.now in
    let a = c.in_ok-slot.ensures in
    let t = c.try_slot-trial in
    let h = trial_as t.result f _ k _ p a.same.0 a.same.1 t.ensures in
    let r = c.in_ok-key.ensures in
    let late = first_pass (late_checks f (open_slot k p)) (found_is f k p a.number t.result h ∙ sym r.variant, tt) in
    let v : t.result.made ≡ trial_cost f k + 0 = omega (arith, cost-is f k p a.number t.result h) in
    opens_on _ _ c.in_ok-drive.ensures.same _ _ _ _ _ _
    (opens_as built d.image.now (open_slot k p) _ _ (step-accepted built d.image.now (open_slot k p) d.accepted (sym a.number) late t.result.made v) _ _ _ _
    refl a.same.0 c.key_bytes.ensures.0 (subst (λ (o : Option (List ℕ)). IfSome o (λ x. x ≡ padded 64 (candidate f k p))) r.ok_part h.key_is))
