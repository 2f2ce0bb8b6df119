use mathlib.Core.Path.{sym, ap, ◌∙◌}
use mathlib.Core.List.{List}
use mathlib.Core.Bool.{not}
use Prim.Native.Nat.{ℕ}
use Rattle.octets.proofs.BoolLaws.{true_by, false_by}
use Rattle.rules.specs.Checks.{Check, first}
use Rattle.rules.specs.Facts.{SlotInput}
use Rattle.rules.specs.Calls.{add, early_checks}
use Rattle.rules.proofs.ChecksLaws.{refused_by, all_pass}
use Rattle.keyslot.specs.Input.{input_of}
use Rattle.header.specs.Refusals.{number}
use Rattle.header.specs.Records.{facts_in}
use Rattle.header.proofs.AnswerLaws.{checked_err}
use Rattle.adding.proofs.add_check.Goals as goal

abbrev checks : List ℕ → ℕ → List ℕ → SlotInput → List ℕ → List Check
checks m k key x list = early_checks (facts_in m) (add k key x list)

pub returns-in_err-slot-clause-number : goal.returns-in_err-slot-clause-number
unfolding early_checks
returns-in_err-slot-clause-number c =
    let a = c.args in
    let r = c.in_err-slot.ensures.refuses in
    checked_err _ _ c.from_residual.ensures.1 ∙ ap number r.0 ∙ refused_by (checks a.drive.image.now a.slot a.key.now (input_of a.input) a.list.now) 0 tt r.1

pub returns-in_err-ensure-clause-number : goal.returns-in_err-ensure-clause-number
unfolding early_checks
returns-in_err-ensure-clause-number c =
    let a = c.args in
    let k = c.in_ok-slot in
    let r = c.in_err-ensure.ensures.refuses in
    checked_err _ _ c.from_residual-in_err-ensure.ensures.1 ∙ ap number r.0
    ∙ refused_by (checks a.drive.image.now k.slot.number a.key.now (input_of a.input) a.list.now) 1 (k.slot.in_range, tt) (ap not (sym c.is_enabled.ensures) ∙ r.1)
    ∙ ap (λ (k : ℕ). first (checks a.drive.image.now k a.key.now (input_of a.input) a.list.now)) k.ensures.same

pub returns-in_err-ensure-2-clause-number : goal.returns-in_err-ensure-2-clause-number
unfolding early_checks
returns-in_err-ensure-2-clause-number c =
    let a = c.args in
    let k = c.in_ok-slot in
    let e₁ = ap not (sym c.is_enabled.ensures) ∙ c.in_ok-ensure.ensures.passes in
    let r = c.in_err-ensure-2.ensures.refuses in
    checked_err _ _ c.from_residual-in_err-ensure-2.ensures.1 ∙ ap number r.0
    ∙ refused_by (checks a.drive.image.now k.slot.number a.key.now (input_of a.input) a.list.now) 2 (k.slot.in_range, (e₁, tt)) (false_by c.key_ok.ensures r.1)
    ∙ ap (λ (k : ℕ). first (checks a.drive.image.now k a.key.now (input_of a.input) a.list.now)) k.ensures.same

pub returns-in_err-try_from-clause-number : goal.returns-in_err-try_from-clause-number
unfolding early_checks
returns-in_err-try_from-clause-number c =
    let a = c.args in
    let k = c.in_ok-slot in
    let e₁ = ap not (sym c.is_enabled.ensures) ∙ c.in_ok-ensure.ensures.passes in
    let e₂ = true_by c.key_ok.ensures c.in_ok-ensure-2.ensures.passes in
    let r = c.in_err-try_from.ensures.refuses in
    checked_err _ _ c.from_residual-in_err-try_from.ensures.1 ∙ ap number r.0
    ∙ refused_by (checks a.drive.image.now k.slot.number a.key.now (input_of a.input) a.list.now) 3 (k.slot.in_range, (e₁, (e₂, tt))) r.1
    ∙ ap (λ (k : ℕ). first (checks a.drive.image.now k a.key.now (input_of a.input) a.list.now)) k.ensures.same

pub returns-in_err-ensure-3-clause-number : goal.returns-in_err-ensure-3-clause-number
unfolding early_checks
returns-in_err-ensure-3-clause-number c =
    let a = c.args in
    let k = c.in_ok-slot in
    let e₁ = ap not (sym c.is_enabled.ensures) ∙ c.in_ok-ensure.ensures.passes in
    let e₂ = true_by c.key_ok.ensures c.in_ok-ensure-2.ensures.passes in
    let e₃ = c.in_ok-try_from.ensures.passes in
    let r = c.in_err-ensure-3.ensures.refuses in
    checked_err _ _ c.from_residual-in_err-ensure-3.ensures.1 ∙ ap number r.0
    ∙ refused_by (checks a.drive.image.now k.slot.number a.key.now (input_of a.input) a.list.now) 4 (k.slot.in_range, (e₁, (e₂, (e₃, tt)))) (false_by c.count_ok.ensures r.1)
    ∙ ap (λ (k : ℕ). first (checks a.drive.image.now k a.key.now (input_of a.input) a.list.now)) k.ensures.same

pub returns-in_err-ensure-4-clause-number : goal.returns-in_err-ensure-4-clause-number
unfolding early_checks
returns-in_err-ensure-4-clause-number c =
    let a = c.args in
    let k = c.in_ok-slot in
    let e₁ = ap not (sym c.is_enabled.ensures) ∙ c.in_ok-ensure.ensures.passes in
    let e₂ = true_by c.key_ok.ensures c.in_ok-ensure-2.ensures.passes in
    let e₃ = c.in_ok-try_from.ensures.passes in
    let e₄ = true_by c.count_ok.ensures c.in_ok-ensure-3.ensures.passes in
    let r = c.in_err-ensure-4.ensures.refuses in
    checked_err _ _ c.from_residual-in_err-ensure-4.ensures.1 ∙ ap number r.0
    ∙ refused_by (checks a.drive.image.now k.slot.number a.key.now (input_of a.input) a.list.now) 5 (k.slot.in_range, (e₁, (e₂, (e₃, (e₄, tt))))) (false_by c.random_ok.ensures r.1)
    ∙ ap (λ (k : ℕ). first (checks a.drive.image.now k a.key.now (input_of a.input) a.list.now)) k.ensures.same

pub returns-in_err-ensure-5-clause-number : goal.returns-in_err-ensure-5-clause-number
unfolding early_checks
returns-in_err-ensure-5-clause-number c =
    let a = c.args in
    let k = c.in_ok-slot in
    let e₁ = ap not (sym c.is_enabled.ensures) ∙ c.in_ok-ensure.ensures.passes in
    let e₂ = true_by c.key_ok.ensures c.in_ok-ensure-2.ensures.passes in
    let e₃ = c.in_ok-try_from.ensures.passes in
    let e₄ = true_by c.count_ok.ensures c.in_ok-ensure-3.ensures.passes in
    let e₅ = true_by c.random_ok.ensures c.in_ok-ensure-4.ensures.passes in
    let r = c.in_err-ensure-5.ensures.refuses in
    checked_err _ _ c.from_residual-in_err-ensure-5.ensures.1 ∙ ap number r.0
    ∙ refused_by (checks a.drive.image.now k.slot.number a.key.now (input_of a.input) a.list.now) 6 (k.slot.in_range, (e₁, (e₂, (e₃, (e₄, (e₅, tt)))))) (false_by c.list_ok.ensures r.1)
    ∙ ap (λ (k : ℕ). first (checks a.drive.image.now k a.key.now (input_of a.input) a.list.now)) k.ensures.same

pub returns-clause-number : goal.returns-clause-number
unfolding early_checks
returns-clause-number c =
    let a = c.args in
    let k = c.in_ok-slot in
    let e₁ = ap not (sym c.is_enabled.ensures) ∙ c.in_ok-ensure.ensures.passes in
    let e₂ = true_by c.key_ok.ensures c.in_ok-ensure-2.ensures.passes in
    let e₃ = c.in_ok-try_from.ensures.passes in
    let e₄ = true_by c.count_ok.ensures c.in_ok-ensure-3.ensures.passes in
    let e₅ = true_by c.random_ok.ensures c.in_ok-ensure-4.ensures.passes in
    let e₆ = true_by c.list_ok.ensures c.in_ok-ensure-5.ensures.passes in
    all_pass (checks a.drive.image.now k.slot.number a.key.now (input_of a.input) a.list.now) (k.slot.in_range, (e₁, (e₂, (e₃, (e₄, (e₅, (e₆, tt)))))))
    ∙ ap (λ (k : ℕ). first (checks a.drive.image.now k a.key.now (input_of a.input) a.list.now)) k.ensures.same
