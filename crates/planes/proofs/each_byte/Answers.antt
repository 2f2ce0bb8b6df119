-- Each cell before p is replaced.
use Rattle.std.proofs.Common.{arith, rules}
use Rattle.planes.proofs.CellLaws.{cells_none, cells_more}
use Rattle.planes.proofs.each_byte.Goals as goal

pub loop-p-init : goal.loop-p-init
loop-p-init g c = λ f k e. cells_none f c.args.q.now (search rules)

pub loop-p-preserved : goal.loop-p-preserved
loop-p-preserved g c = λ f k e.
    let l = c.loop-p in
    let x = c.cell_at in
    let y = c.circuit-r in
    cells_more f k c.args.q.now l.q x.result y.result c.put_cell.new.q l.p (search rules) x.ensures (e x.result y.result y.ensures) c.put_cell.ensures (l.invariant f k e)

pub returns : goal.returns
returns g c = λ f k e p h. (c.loop-p.invariant f k e).new p (omega arith)
