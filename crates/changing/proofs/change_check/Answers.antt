use mathlib.Core.Path.{ap, ◌∙◌}
use mathlib.Core.List.{List}
use Prim.Native.Nat.{ℕ}
use Rattle.octets.proofs.BoolLaws.{true_by, false_by}
use Rattle.rules.specs.Checks.{Check, first}
use Rattle.rules.specs.Facts.{SlotInput}
use Rattle.rules.specs.Calls.{change, early_checks, slot_number_ok, passphrase_ok}
use Rattle.rules.proofs.ChecksLaws.{refused_by, all_pass}
use Rattle.keyslot.specs.Input.{input_of}
use Rattle.header.specs.Refusals.{number}
use Rattle.header.specs.Records.{facts_in}
use Rattle.header.proofs.AnswerLaws.{checked_err}
use Rattle.changing.proofs.ChangeLaws.{both-yes, first-no, second-no}
use Rattle.changing.proofs.change_check.Goals as goal

abbrev checks : List ℕ → List ℕ → SlotInput → List ℕ → List ℕ → ℕ → ℕ → List Check
checks m old x filler list from to = early_checks (facts_in m) (change from old to x filler list)

pub returns-in_err-from-clause-number : goal.returns-in_err-from-clause-number
unfolding early_checks
returns-in_err-from-clause-number c =
    let a = c.args in
    let r = c.in_err-from.ensures.refuses in
    checked_err _ _ c.from_residual.ensures.1 ∙ ap number r.0
    ∙ refused_by (checks a.drive.image.now a.old.now (input_of a.input) a.filler.now a.list.now a.from a.to) 0 tt (first-no (slot_number_ok a.from) (slot_number_ok a.to) r.1)

pub returns-in_err-to-clause-number : goal.returns-in_err-to-clause-number
unfolding early_checks
returns-in_err-to-clause-number c =
    let a = c.args in
    let r = c.in_err-to.ensures.refuses in
    checked_err _ _ c.from_residual-in_err-to.ensures.1 ∙ ap number r.0
    ∙ refused_by (checks a.drive.image.now a.old.now (input_of a.input) a.filler.now a.list.now a.from a.to) 0 tt
    (second-no (slot_number_ok a.from) (slot_number_ok a.to) c.in_ok-from.ensures.passes r.1)

pub returns-in_err-ensure-clause-number : goal.returns-in_err-ensure-clause-number
unfolding early_checks
returns-in_err-ensure-clause-number c =
    let a = c.args in
    let k = c.in_ok-from in
    let j = c.in_ok-to in
    let cs = checks a.drive.image.now a.old.now (input_of a.input) a.filler.now a.list.now in
    let e₁ = both-yes (slot_number_ok k.from.number) (slot_number_ok j.to.number) k.from.in_range j.to.in_range in
    let r = c.in_err-ensure.ensures.refuses in
    checked_err _ _ c.from_residual-in_err-ensure.ensures.1 ∙ ap number r.0
    ∙ refused_by (cs k.from.number j.to.number) 1 (e₁, tt) (false_by c.states_ok.ensures r.1)
    ∙ (λ i. first (cs (k.ensures.same i) (j.ensures.same i)))

pub returns-in_err-old-clause-number : goal.returns-in_err-old-clause-number
unfolding early_checks
returns-in_err-old-clause-number c =
    let a = c.args in
    let k = c.in_ok-from in
    let j = c.in_ok-to in
    let cs = checks a.drive.image.now a.old.now (input_of a.input) a.filler.now a.list.now in
    let e₁ = both-yes (slot_number_ok k.from.number) (slot_number_ok j.to.number) k.from.in_range j.to.in_range in
    let e₂ = true_by c.states_ok.ensures c.in_ok-ensure.ensures.passes in
    let r = c.in_err-old.ensures.refuses in
    checked_err _ _ c.from_residual-in_err-old.ensures.1 ∙ ap number r.0
    ∙ refused_by (cs k.from.number j.to.number) 2 (e₁, (e₂, tt)) (first-no (passphrase_ok a.old.now) (passphrase_ok a.input.passphrase.now) r.1)
    ∙ (λ i. first (cs (k.ensures.same i) (j.ensures.same i)))

pub returns-in_err-try_from-clause-number : goal.returns-in_err-try_from-clause-number
unfolding early_checks
returns-in_err-try_from-clause-number c =
    let a = c.args in
    let k = c.in_ok-from in
    let j = c.in_ok-to in
    let cs = checks a.drive.image.now a.old.now (input_of a.input) a.filler.now a.list.now in
    let e₁ = both-yes (slot_number_ok k.from.number) (slot_number_ok j.to.number) k.from.in_range j.to.in_range in
    let e₂ = true_by c.states_ok.ensures c.in_ok-ensure.ensures.passes in
    let r = c.in_err-try_from.ensures.refuses in
    checked_err _ _ c.from_residual-in_err-try_from.ensures.1 ∙ ap number r.0
    ∙ refused_by (cs k.from.number j.to.number) 2 (e₁, (e₂, tt)) (second-no (passphrase_ok a.old.now) (passphrase_ok a.input.passphrase.now) c.in_ok-old.ensures.passes r.1)
    ∙ (λ i. first (cs (k.ensures.same i) (j.ensures.same i)))

pub returns-in_err-ensure-2-clause-number : goal.returns-in_err-ensure-2-clause-number
unfolding early_checks
returns-in_err-ensure-2-clause-number c =
    let a = c.args in
    let k = c.in_ok-from in
    let j = c.in_ok-to in
    let cs = checks a.drive.image.now a.old.now (input_of a.input) a.filler.now a.list.now in
    let e₁ = both-yes (slot_number_ok k.from.number) (slot_number_ok j.to.number) k.from.in_range j.to.in_range in
    let e₂ = true_by c.states_ok.ensures c.in_ok-ensure.ensures.passes in
    let e₃ = both-yes (passphrase_ok a.old.now) (passphrase_ok a.input.passphrase.now) c.in_ok-old.ensures.passes c.in_ok-try_from.ensures.passes in
    let r = c.in_err-ensure-2.ensures.refuses in
    checked_err _ _ c.from_residual-in_err-ensure-2.ensures.1 ∙ ap number r.0
    ∙ refused_by (cs k.from.number j.to.number) 3 (e₁, (e₂, (e₃, tt))) (false_by c.count_ok.ensures r.1)
    ∙ (λ i. first (cs (k.ensures.same i) (j.ensures.same i)))

pub returns-in_err-ensure-3-clause-number : goal.returns-in_err-ensure-3-clause-number
unfolding early_checks
returns-in_err-ensure-3-clause-number c =
    let a = c.args in
    let k = c.in_ok-from in
    let j = c.in_ok-to in
    let cs = checks a.drive.image.now a.old.now (input_of a.input) a.filler.now a.list.now in
    let e₁ = both-yes (slot_number_ok k.from.number) (slot_number_ok j.to.number) k.from.in_range j.to.in_range in
    let e₂ = true_by c.states_ok.ensures c.in_ok-ensure.ensures.passes in
    let e₃ = both-yes (passphrase_ok a.old.now) (passphrase_ok a.input.passphrase.now) c.in_ok-old.ensures.passes c.in_ok-try_from.ensures.passes in
    let e₄ = true_by c.count_ok.ensures c.in_ok-ensure-2.ensures.passes in
    let r = c.in_err-ensure-3.ensures.refuses in
    checked_err _ _ c.from_residual-in_err-ensure-3.ensures.1 ∙ ap number r.0
    ∙ refused_by (cs k.from.number j.to.number) 4 (e₁, (e₂, (e₃, (e₄, tt)))) (false_by c.lengths_ok.ensures r.1)
    ∙ (λ i. first (cs (k.ensures.same i) (j.ensures.same i)))

pub returns-in_err-ensure-4-clause-number : goal.returns-in_err-ensure-4-clause-number
unfolding early_checks
returns-in_err-ensure-4-clause-number c =
    let a = c.args in
    let k = c.in_ok-from in
    let j = c.in_ok-to in
    let cs = checks a.drive.image.now a.old.now (input_of a.input) a.filler.now a.list.now in
    let e₁ = both-yes (slot_number_ok k.from.number) (slot_number_ok j.to.number) k.from.in_range j.to.in_range in
    let e₂ = true_by c.states_ok.ensures c.in_ok-ensure.ensures.passes in
    let e₃ = both-yes (passphrase_ok a.old.now) (passphrase_ok a.input.passphrase.now) c.in_ok-old.ensures.passes c.in_ok-try_from.ensures.passes in
    let e₄ = true_by c.count_ok.ensures c.in_ok-ensure-2.ensures.passes in
    let e₅ = true_by c.lengths_ok.ensures c.in_ok-ensure-3.ensures.passes in
    let r = c.in_err-ensure-4.ensures.refuses in
    checked_err _ _ c.from_residual-in_err-ensure-4.ensures.1 ∙ ap number r.0
    ∙ refused_by (cs k.from.number j.to.number) 5 (e₁, (e₂, (e₃, (e₄, (e₅, tt))))) (false_by c.list_ok.ensures r.1)
    ∙ (λ i. first (cs (k.ensures.same i) (j.ensures.same i)))

pub returns-clause-number : goal.returns-clause-number
unfolding early_checks
returns-clause-number c =
    let a = c.args in
    let k = c.in_ok-from in
    let j = c.in_ok-to in
    let cs = checks a.drive.image.now a.old.now (input_of a.input) a.filler.now a.list.now in
    let e₁ = both-yes (slot_number_ok k.from.number) (slot_number_ok j.to.number) k.from.in_range j.to.in_range in
    let e₂ = true_by c.states_ok.ensures c.in_ok-ensure.ensures.passes in
    let e₃ = both-yes (passphrase_ok a.old.now) (passphrase_ok a.input.passphrase.now) c.in_ok-old.ensures.passes c.in_ok-try_from.ensures.passes in
    let e₄ = true_by c.count_ok.ensures c.in_ok-ensure-2.ensures.passes in
    let e₅ = true_by c.lengths_ok.ensures c.in_ok-ensure-3.ensures.passes in
    let e₆ = true_by c.list_ok.ensures c.in_ok-ensure-4.ensures.passes in
    all_pass (cs k.from.number j.to.number) (e₁, (e₂, (e₃, (e₄, (e₅, (e₆, tt))))))
    ∙ (λ i. first (cs (k.ensures.same i) (j.ensures.same i)))
