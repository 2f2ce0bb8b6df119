use Rattle.std.proofs.Common.{arith, rules}
use Rattle.profiles.specs.Records.{same_text}
use Rattle.profiles.proofs.RowLaws.{text_differs, text-ends, text_goes_on, text_missing}
use Rattle.profiles.proofs.same_text.Goals as goal

pub returns-then-field-i : goal.returns-then-field-i
returns-then-field-i c =
    let a = c.args in
    text_differs a.field.now a.name.now c.loop-i.i (same_text a.field.now a.name.now) (omega arith) c.loop-i.invariant (omega arith) (search rules)

pub returns-then-b-eq0 : goal.returns-then-b-eq0
returns-then-b-eq0 c =
    let a = c.args in
    text-ends a.field.now a.name.now c.loop-i.i (same_text a.field.now a.name.now) (omega arith) c.loop-i.invariant (omega arith) (search rules) (omega arith)

pub loop-i-preserved : goal.loop-i-preserved
loop-i-preserved c =
    let a = c.args in
    text_goes_on a.field.now a.name.now c.loop-i.i (same_text a.field.now a.name.now) (omega arith) c.loop-i.invariant (omega arith) (search rules) (λ z. omega arith)

pub returns : goal.returns
returns c =
    let a = c.args in
    text_missing a.field.now a.name.now c.loop-i.i (same_text a.field.now a.name.now) (omega arith) c.loop-i.invariant (omega arith)
