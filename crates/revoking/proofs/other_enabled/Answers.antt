use mathlib.Core.Path.{sym, ◌∙◌}
use native.Mathlib.Omega.{arith}
use borrow.Author.Tests.{le-leb}
use Rattle.octets.proofs.BoolLaws.{true_by}
use Rattle.rules.proofs.ArgumentLaws.{number_is}
use Rattle.revoking.proofs.RevokeLaws.{other_yes, other_none}
use Rattle.revoking.proofs.other_enabled.Goals as goal

pub invariant_of-is_enabled : goal.invariant_of-is_enabled
invariant_of-is_enabled c =
    let k = c.loop-number.number in
    record { in_range = sym (number_is k (omega arith)) ∙ le-leb k 8 (omega arith) }

pub returns-then-is_enabled : goal.returns-then-is_enabled
returns-then-is_enabled c =
    other_yes c.args.drive.image.now c.args.slot.number c.args.slot.in_range c.loop-number.number (omega arith) (omega arith) c.if-number-slot.true
    (true_by c.is_enabled.ensures c.if-is_enabled.true)

pub returns : goal.returns
returns c =
    other_none c.args.drive.image.now c.args.slot.number c.args.slot.in_range
    (λ k h l n. c.loop-number.invariant.1 k h (omega (arith, l, c.loop-number-test.false)) n)
