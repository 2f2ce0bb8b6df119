use mathlib.Core.Path.{◌≡◌, ap, ◌∙◌}
use mathlib.Core.Bool.{true}
use Prim.Native.Nat.{ℕ}
use Rattle.std.proofs.Common.{rules}
use Rattle.octets.proofs.BoolLaws.{true_by, false_by}
use Rattle.rules.specs.Facts.{slot_of, is_enabled}
use Rattle.rules.specs.Calls.{open_slot, passphrase_ok, early_checks}
use Rattle.rules.proofs.ChecksLaws.{refused_by, all_pass}
use Rattle.header.specs.Refusals.{number}
use Rattle.header.specs.Records.{facts_in}
use Rattle.header.proofs.AnswerLaws.{checked_err}
use Rattle.opening.proofs.open_slot_check.Goals as goal

pub returns-in_err-s-clause-number : goal.returns-in_err-s-clause-number
unfolding early_checks
returns-in_err-s-clause-number c =
    let r = c.in_err-s.ensures.refuses in
    checked_err _ _ c.from_residual.ensures.1 ∙ ap number r.0
    ∙ refused_by (early_checks (facts_in c.args.drive.image.now) (open_slot c.args.slot c.args.passphrase.now)) 0 tt r.1

pub returns-in_err-p-clause-number : goal.returns-in_err-p-clause-number
unfolding early_checks
returns-in_err-p-clause-number c =
    let r = c.in_err-p.ensures.refuses in
    checked_err _ _ c.from_residual-in_err-p.ensures.1 ∙ ap number r.0
    ∙ refused_by (early_checks (facts_in c.args.drive.image.now) (open_slot c.args.slot c.args.passphrase.now)) 1 (c.in_ok-s.ensures.passes, tt) r.1

pub returns-in_err-ensure-clause-number : goal.returns-in_err-ensure-clause-number
unfolding early_checks
returns-in_err-ensure-clause-number c =
    let f = facts_in c.args.drive.image.now in
    let r = c.in_err-ensure.ensures.refuses in
    let e = ap (λ (k : ℕ). is_enabled (slot_of f k)) c.in_ok-s.ensures.same in
    let p : passphrase_ok c.args.passphrase.now ≡ true = search rules in
    checked_err _ _ c.from_residual-in_err-ensure.ensures.1 ∙ ap number r.0
    ∙ refused_by (early_checks f (open_slot c.args.slot c.args.passphrase.now)) 2 (c.in_ok-s.ensures.passes, (p, tt))
    (false_by (c.is_enabled.ensures ∙ e) r.1)

pub returns-clause-number : goal.returns-clause-number
unfolding early_checks
returns-clause-number c =
    let f = facts_in c.args.drive.image.now in
    let e = ap (λ (k : ℕ). is_enabled (slot_of f k)) c.in_ok-s.ensures.same in
    all_pass (early_checks f (open_slot c.args.slot c.args.passphrase.now))
    (c.in_ok-s.ensures.passes, (c.in_ok-p.ensures.passes, (true_by (c.is_enabled.ensures ∙ e) c.in_ok-ensure.ensures.passes, tt)))
