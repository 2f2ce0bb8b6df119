-- The words before j are written.
use Rattle.std.proofs.Common.{◌≡◌, ℕ, ◌+◌, ◌-◌, ◌*◌, List, ◌++◌, length, take, drop, ap, ◌∙◌, arith, rules}
use Rattle.octets.proofs.SpliceLaws.{splice-part}
use Rattle.xts.proofs.GroupLaws.{written_none, written_more, written-block, column-bytes}
use Rattle.xts.proofs.store.Goals as goal

pub loop-j-init : goal.loop-j-init
loop-j-init c = written_none c.args.q.now c.args.u.now c.args.s.now

pub loop-j-preserved : goal.loop-j-preserved
loop-j-preserved c =
    let l = c.loop-j in
    let a = c.args in
    let at : ℕ = 4 * l.j in
    let x = c.to_le_bytes in
    let y = c.copy_from_slice in
    let lx : length x.result ≡ 4 = search rules in
    written_more a.q.now a.u.now a.s.now l.s _ x.result l.j (omega arith) (x.ensures ∙ column-bytes _)
    (ap (λ (z : List ℕ). take at l.s ++ (z ++ drop (at + 4 - at) (drop at l.s))) y.ensures.after ∙ splice-part l.s x.result at (at + 4) (omega arith) (omega arith)) l.invariant

pub returns : goal.returns
returns c = λ b h. let l = c.loop-j in let a = c.args in written-block a.q.now a.u.now a.s.now l.s l.j b l.invariant (omega arith)
