use mathlib.Core.Path.{ap, ◌∙◌}
use mathlib.Core.List.{List}
use Prim.Native.Nat.{ℕ}
use Rattle.std.proofs.Common.{rules}
use Rattle.octets.proofs.BoolLaws.{true_by, false_by}
use Rattle.rules.specs.Checks.{Check, first}
use Rattle.rules.specs.Calls.{revoke, early_checks}
use Rattle.rules.proofs.ChecksLaws.{refused_by, all_pass}
use Rattle.header.specs.Refusals.{number}
use Rattle.header.specs.Records.{facts_in}
use Rattle.header.proofs.AnswerLaws.{checked_err}
use Rattle.revoking.proofs.revoke_check.Goals as goal

abbrev checks : List ℕ → ℕ → List ℕ → List ℕ → List Check
checks m k filler list = early_checks (facts_in m) (revoke k filler list)

pub returns-in_err-slot-clause-number : goal.returns-in_err-slot-clause-number
unfolding early_checks
returns-in_err-slot-clause-number c =
    let r = c.in_err-slot.ensures.refuses in
    checked_err _ _ c.from_residual.ensures.1 ∙ ap number r.0 ∙ refused_by (checks c.args.drive.image.now c.args.slot c.args.filler.now c.args.list.now) 0 tt r.1

pub returns-in_err-ensure-clause-number : goal.returns-in_err-ensure-clause-number
unfolding early_checks
returns-in_err-ensure-clause-number c =
    let a = c.args in
    let k = c.in_ok-slot in
    let r = c.in_err-ensure.ensures.refuses in
    checked_err _ _ c.from_residual-in_err-ensure.ensures.1 ∙ ap number r.0
    ∙ refused_by (checks a.drive.image.now k.slot.number a.filler.now a.list.now) 1 (k.slot.in_range, tt) (false_by c.is_enabled.ensures r.1)
    ∙ ap (λ (k : ℕ). first (checks a.drive.image.now k a.filler.now a.list.now)) k.ensures.same

pub returns-in_err-ensure-2-clause-number : goal.returns-in_err-ensure-2-clause-number
unfolding early_checks
returns-in_err-ensure-2-clause-number c =
    let a = c.args in
    let k = c.in_ok-slot in
    let e₁ = true_by c.is_enabled.ensures c.in_ok-ensure.ensures.passes in
    let r = c.in_err-ensure-2.ensures.refuses in
    checked_err _ _ c.from_residual-in_err-ensure-2.ensures.1 ∙ ap number r.0
    ∙ refused_by (checks a.drive.image.now k.slot.number a.filler.now a.list.now) 2 (k.slot.in_range, (e₁, tt)) (search rules)
    ∙ ap (λ (k : ℕ). first (checks a.drive.image.now k a.filler.now a.list.now)) k.ensures.same

pub returns-in_err-ensure-3-clause-number : goal.returns-in_err-ensure-3-clause-number
unfolding early_checks
returns-in_err-ensure-3-clause-number c =
    let a = c.args in
    let k = c.in_ok-slot in
    let e₁ = true_by c.is_enabled.ensures c.in_ok-ensure.ensures.passes in
    let e₂ = true_by c.other_enabled.ensures c.in_ok-ensure-2.ensures.passes in
    let r = c.in_err-ensure-3.ensures.refuses in
    checked_err _ _ c.from_residual-in_err-ensure-3.ensures.1 ∙ ap number r.0
    ∙ refused_by (checks a.drive.image.now k.slot.number a.filler.now a.list.now) 3 (k.slot.in_range, (e₁, (e₂, tt))) (search rules)
    ∙ ap (λ (k : ℕ). first (checks a.drive.image.now k a.filler.now a.list.now)) k.ensures.same

pub returns-in_err-ensure-4-clause-number : goal.returns-in_err-ensure-4-clause-number
unfolding early_checks
returns-in_err-ensure-4-clause-number c =
    let a = c.args in
    let k = c.in_ok-slot in
    let e₁ = true_by c.is_enabled.ensures c.in_ok-ensure.ensures.passes in
    let e₂ = true_by c.other_enabled.ensures c.in_ok-ensure-2.ensures.passes in
    let e₃ = true_by c.filler_ok.ensures c.in_ok-ensure-3.ensures.passes in
    let r = c.in_err-ensure-4.ensures.refuses in
    checked_err _ _ c.from_residual-in_err-ensure-4.ensures.1 ∙ ap number r.0
    ∙ refused_by (checks a.drive.image.now k.slot.number a.filler.now a.list.now) 4 (k.slot.in_range, (e₁, (e₂, (e₃, tt)))) (false_by c.list_ok.ensures r.1)
    ∙ ap (λ (k : ℕ). first (checks a.drive.image.now k a.filler.now a.list.now)) k.ensures.same

pub returns-clause-number : goal.returns-clause-number
unfolding early_checks
returns-clause-number c =
    let a = c.args in
    let k = c.in_ok-slot in
    let e₁ = true_by c.is_enabled.ensures c.in_ok-ensure.ensures.passes in
    let e₂ = true_by c.other_enabled.ensures c.in_ok-ensure-2.ensures.passes in
    let e₃ = true_by c.filler_ok.ensures c.in_ok-ensure-3.ensures.passes in
    let e₄ = true_by c.list_ok.ensures c.in_ok-ensure-4.ensures.passes in
    all_pass (checks a.drive.image.now k.slot.number a.filler.now a.list.now) (k.slot.in_range, (e₁, (e₂, (e₃, (e₄, tt)))))
    ∙ ap (λ (k : ℕ). first (checks a.drive.image.now k a.filler.now a.list.now)) k.ensures.same
