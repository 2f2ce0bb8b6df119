-- The words before j are loaded.
use Rattle.std.proofs.Common.{arith, rules}
use Rattle.xts.proofs.GroupLaws.{loaded_none, loaded_more, loaded-block}
use Rattle.xts.proofs.load.Goals as goal

pub loop-j-init : goal.loop-j-init
loop-j-init c = loaded_none c.args.s.now c.args.q.now (search rules)

pub loop-j-preserved : goal.loop-j-preserved
loop-j-preserved c =
    let l = c.loop-j in
    loaded_more c.args.s.now c.args.q.now l.q l.j c.column_at.result (omega arith) c.column_at.ensures l.invariant

pub returns : goal.returns
returns c = λ b h. let l = c.loop-j in loaded-block c.args.s.now c.args.q.now l.q l.j b l.invariant (omega arith)
