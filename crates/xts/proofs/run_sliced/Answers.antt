-- The parts before i are done.
use Rattle.std.proofs.Common.{length, arith, rules}
use Rattle.xts.proofs.UnitLaws.{unit_last}
use Rattle.xts.proofs.GroupLaws.{no_part, next_group}
use Rattle.xts.proofs.run_sliced.Goals as goal

pub loop-i-init : goal.loop-i-init
loop-i-init g c = λ f u. no_part f c.args.first _ _ c.args.s.now (omega arith) (omega arith)

pub loop-i-preserved : goal.loop-i-preserved
loop-i-preserved g c = λ f u.
    let l = c.loop-i in
    let a = c.args in
    next_group f a.first (length a.s.now) l.i c.min-k.result l.s c.run_group.new.s _ (search rules) (omega arith) (omega arith) (search rules)
    (c.run_group.ensures f u)
    (l.invariant f u)

pub returns : goal.returns
returns g c = λ f u. unit_last f _ _ c.loop-i.s _ (omega arith) (c.loop-i.invariant f u)
