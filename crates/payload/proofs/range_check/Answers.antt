-- `payload::range_check` meets its contract: each test is a check of the rules.
use mathlib.Core.Path.{◌≡◌, ap, ◌∙◌}
use Prim.Native.Nat.{ℕ, ◌+◌, ◌/◌}
use lib.Dec.{leb}
use lib.ListN.{length}
use Rattle.octets.proofs.BoolLaws.{true_by, false_by}
use Rattle.rules.specs.Calls.{range_checks}
use Rattle.rules.proofs.ChecksLaws.{refused_by, all_pass}
use Rattle.header.specs.Refusals.{number}
use Rattle.header.specs.Records.{facts_in}
use Rattle.header.proofs.AnswerLaws.{checked_err}
use Rattle.payload.proofs.range_check.Goals as goal

pub returns-in_err-ensure : goal.returns-in_err-ensure
unfolding range_checks
returns-in_err-ensure c =
    let r = c.in_err-ensure.ensures.refuses in
    checked_err _ _ c.from_residual.ensures.1 ∙ ap number r.0 ∙ refused_by _ 0 tt (false_by c.key_ok.ensures r.1)

pub returns-in_err-ensure-2 : goal.returns-in_err-ensure-2
unfolding range_checks
returns-in_err-ensure-2 c =
    let a = c.args in
    let r = c.in_err-ensure-2.ensures.refuses in
    let e₁ = true_by c.key_ok.ensures c.in_ok-ensure.ensures.passes in
    let inside = c.in_payload-inside.ensures ∙ ap (leb (a.from.0 + a.units.0)) c.payload_units.ensures in
    checked_err _ _ c.from_residual-in_err-ensure-2.ensures.1 ∙ ap number r.0
    ∙ refused_by (range_checks (facts_in a.drive.image.now) a.key.now a.from.0 a.units.0 a.buffer.now) 1 (e₁, tt) (false_by inside r.1)

pub returns-in_err-ensure-3 : goal.returns-in_err-ensure-3
unfolding range_checks
returns-in_err-ensure-3 c =
    let a = c.args in
    let r = c.in_err-ensure-3.ensures.refuses in
    let e₁ = true_by c.key_ok.ensures c.in_ok-ensure.ensures.passes in
    let inside = c.in_payload-inside.ensures ∙ ap (leb (a.from.0 + a.units.0)) c.payload_units.ensures in
    let e₂ = true_by inside c.in_ok-ensure-2.ensures.passes in
    checked_err _ _ c.from_residual-in_err-ensure-3.ensures.1 ∙ ap number r.0
    ∙ refused_by (range_checks (facts_in a.drive.image.now) a.key.now a.from.0 a.units.0 a.buffer.now) 2 (e₁, (e₂, tt)) (false_by c.holds_units-whole.ensures r.1)

pub returns : goal.returns
unfolding range_checks
returns c =
    let a = c.args in
    let e₁ = true_by c.key_ok.ensures c.in_ok-ensure.ensures.passes in
    let inside = c.in_payload-inside.ensures ∙ ap (leb (a.from.0 + a.units.0)) c.payload_units.ensures in
    let e₂ = true_by inside c.in_ok-ensure-2.ensures.passes in
    let e₃ = true_by c.holds_units-whole.ensures c.in_ok-ensure-3.ensures.passes in
    all_pass (range_checks (facts_in a.drive.image.now) a.key.now a.from.0 a.units.0 a.buffer.now) (e₁, (e₂, (e₃, tt)))
