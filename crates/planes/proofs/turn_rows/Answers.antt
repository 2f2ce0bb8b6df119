-- Each row before 4 i is turned.
use Rattle.std.proofs.Common.{arith, rules}
use Rattle.planes.proofs.RowLaws.{rows_none}
use Rattle.planes.proofs.ShiftLaws.{by, turned_row, plane_more}
use Rattle.planes.proofs.turn_rows.Goals as goal

pub loop-i-init : goal.loop-i-init
loop-i-init c = let a = c.args in rows_none (turned_row (by a.m) (by a.n) a.q.now a.k.now) a.q.now (search rules)

pub loop-i-preserved : goal.loop-i-preserved
loop-i-preserved c =
    let l = c.loop-i in
    let a = c.args in
    let x = c.turn_row in
    let y = c.turn_row-in-loop-i in
    let z = c.turn_row-in-loop-i-2 in
    let w = c.turn_row-in-loop-i-3 in
    plane_more (by a.m) (by a.n) a.q.now a.k.now l.i l.q x.new.q y.new.q z.new.q w.new.q (search rules) x.ensures y.ensures z.ensures w.ensures l.invariant

pub returns : goal.returns
returns c = λ g h. c.loop-i.invariant.new g (omega arith)
