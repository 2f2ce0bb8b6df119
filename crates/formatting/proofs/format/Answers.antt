use Rattle.std.proofs.Common.{◌∙◌, true, false, refl, sym}
use borrow.Author.Tests.{ne_eqb}
use Rattle.header.proofs.AnswerLaws.{number_some, answered_err, values_err}
use Rattle.formatting.specs.Inputs.{input_of}
use Rattle.formatting.proofs.FormatLaws.{settled}
use Rattle.formatting.proofs.format.Goals as goal

pub returns-in_err-p : goal.returns-in_err-p
returns-in_err-p c =
    let e = c.in_err-p.field-0.0 in
    let z = answered_err _ e c.from_residual.ensures.1 in
    settled (input_of c.args.input) c.args.image.now _ false _ _ (z ∙ c.in_err-p.ensures.number c.args.input.salt.now)
    (ne_eqb _ _ (λ q. number_some e (sym z ∙ q))) refl (values_err _ e c.from_residual.ensures.1)

pub write_drive-requires-clause-accepted : goal.write_drive-requires-clause-accepted
write_drive-requires-clause-accepted c = sym (c.in_ok-p.ensures.number c.args.input.salt.now)

pub returns : goal.returns
returns c =
    let w = c.write_drive.ensures in
    settled (input_of c.args.input) c.args.image.now 0 true _ _ (c.in_ok-p.ensures.number c.args.input.salt.now) refl w.0 w.1
