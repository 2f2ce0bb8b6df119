use mathlib.Core.Path.{◌≡◌, refl, sym, ap, subst, ◌∙◌}
use mathlib.Core.List.{List}
use mathlib.Core.Bool.{true}
use Prim.Native.Nat.{ℕ, ◌+◌}
use native.Mathlib.Omega.{arith}
use Rattle.std.proofs.Common.{Option, IfSome}
use Rattle.octets.specs.Octets.{padded}
use Rattle.rules.specs.Checks.{first}
use Rattle.rules.specs.Facts.{Facts, candidate}
use Rattle.rules.specs.Calls.{open_any, seek, passphrase_ok, early_checks, late_checks, answer, opened}
use Rattle.rules.specs.Costs.{search_cost, test_cost, work_cost}
use Rattle.rules.proofs.ChecksLaws.{refused_by, first_pass}
use Rattle.rules.proofs.StepLaws.{step-header, step-early, step-late, step-accepted, opens_as}
use Rattle.profiles.specs.Suites.{built}
use Rattle.header.specs.declared.refusal.Refused.{Refused}
use Rattle.header.specs.declared.slot.SlotNumber.{SlotNumber}
use Rattle.header.specs.Refusals.{number}
use Rattle.header.specs.Records.{facts_in}
use Rattle.header.proofs.AnswerLaws.{number_some}
use Rattle.opening.specs.Opening.{slot_found}
use Rattle.opening.proofs.OpenLaws.{no-key_any, opens-refused, opens_on, refused_with, found_as}
use Rattle.opening.proofs.open.Goals as goal

early_ok : (f : Facts) (p : List ℕ) → passphrase_ok p ≡ true → first (early_checks f (open_any p)) ≡ 0
unfolding early_checks
early_ok f p h = first_pass (early_checks f (open_any p)) (h, tt)

pub returns-in_err-drive : goal.returns-in_err-drive
returns-in_err-drive c =
    let m = c.args.image.now in
    let k = open_any c.args.passphrase.now in
    opens-refused m k (no-key_any _) _ _ c.from_residual.ensures.1 _ 0 refl refl
    (step-header built m k (number c.in_err-drive.field-0.0) (number_some _) c.in_err-drive.ensures.number)

pub returns-in_err-try_from : goal.returns-in_err-try_from
unfolding early_checks
returns-in_err-try_from c =
    let d = c.in_ok-drive.drive in
    let k = open_any c.args.passphrase.now in
    let r = c.in_err-try_from.ensures.refuses in
    opens_on _ _ c.in_ok-drive.ensures.same _ _ _ _ _ _
    (opens-refused d.image.now k (no-key_any _) _ _ c.from_residual-in_err-try_from.ensures.1 14 0 (ap number r.0) refl
    (step-early built d.image.now k d.accepted 14 (λ q. omega arith) (refused_by (early_checks (facts_in d.image.now) k) 0 tt r.1)))

pub returns-in_err-slot : goal.returns-in_err-slot
unfolding late_checks test_cost
returns-in_err-slot c =
    let d = c.in_ok-drive.drive in
    let f = facts_in d.image.now in
    let p = c.args.passphrase.now in
    let a = c.in_ok-try_from.ensures in
    let s = c.find_slot-search in
    let h = found_as s.result f _ p a.same s.ensures in
    let r = c.in_err-slot.ensures in
    let e = refused_with s.result.value c.in_err-slot.field-0.0 _ r.value r.ok_part in
    let none = sym h.any_is ∙ sym r.variant in
    opens_on _ _ c.in_ok-drive.ensures.same _ _ _ _ _ _
    (opens-refused d.image.now (open_any p) (no-key_any _) _ _ c.from_residual-in_err-slot.ensures.1 17 s.result.made
    (ap (λ (x : Refused). number x.refusal) e) (ap (λ (x : Refused). x.values) e)
    (step-late built d.image.now (open_any p) d.accepted (early_ok f p a.passes) 17 (λ q. omega arith) (refused_by (late_checks f (open_any p)) 0 tt none)
    s.result.made h.values_are))

pub returns : goal.returns
unfolding late_checks answer opened test_cost work_cost
returns c =
    let d = c.in_ok-drive.drive in
    let f = facts_in d.image.now in
    let p = c.args.passphrase.now in
    let a = c.in_ok-try_from.ensures in
    let s = c.find_slot-search in
    let h = found_as s.result f _ p a.same s.ensures in
    let r = c.in_ok-slot.ensures in
    let late = first_pass (late_checks f (open_any p)) (sym h.any_is ∙ sym r.variant, tt) in
    let v : s.result.made ≡ search_cost f p 1 8 + 0 = omega (arith, h.values_are) in
    opens_on _ _ c.in_ok-drive.ensures.same _ _ _ _ _ _
    (opens_as built d.image.now (open_any p) _ _ (step-accepted built d.image.now (open_any p) d.accepted (early_ok f p a.passes) late s.result.made v) _ _ _ _
    refl (sym (ap slot_found r.ok_part) ∙ h.slot_is) c.key_bytes.ensures.0
    (subst (λ (o : Option (SlotNumber × List ℕ)). IfSome o (λ found. found.1 ≡ padded 64 (candidate f (seek f p 1 8) p))) r.ok_part h.key_is))
