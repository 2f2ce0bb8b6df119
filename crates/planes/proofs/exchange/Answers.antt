-- Each pair of rows before x is exchanged.
use Rattle.std.proofs.Common.{ℕ, ◌+◌, ◌*◌, List, ap, ◌∙◌, arith, rules}
use Rattle.planes.specs.Rows.{put_row}
use Rattle.planes.proofs.RowLaws.{rows_none}
use Rattle.planes.proofs.ExchangeLaws.{halves, pair_more, all_exchanged}
use Rattle.planes.proofs.exchange.Goals as goal

pub loop-x-init : goal.loop-x-init
loop-x-init c = let a = c.args in rows_none (halves a.s a.m a.q.now) a.d.now (search rules)

pub loop-x-preserved : goal.loop-x-preserved
loop-x-preserved c =
    let l = c.loop-x in
    let a = c.args in
    let x = c.row-a in
    let y = c.row-b in
    let e = c.put_row in
    let f = c.put_row-in-loop-x in
    pair_more a.s a.m a.q.now l.x a.d.now l.d e.new.q f.new.q x.result y.result (search rules) x.ensures y.ensures
    (e.ensures ∙ ap (λ (z : List ℕ). put_row (2 * l.x) z l.d) c.first_of.ensures) (f.ensures ∙ ap (λ (z : List ℕ). put_row (2 * l.x + 1) z e.new.q) c.second_of.ensures) l.invariant

pub returns : goal.returns
returns c = let a = c.args in all_exchanged a.s a.m a.q.now c.loop-x.d (λ g h. c.loop-x.invariant.new g (omega arith))
