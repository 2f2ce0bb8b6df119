use native.Mathlib.Omega.{arith}
use Rattle.octets.proofs.BoolLaws.{true_by, false_by}
use Rattle.header.proofs.CheckLaws.{apart_yes, apart-no, apart-end}
use Rattle.header.proofs.head.Head.all_apart.Goals as goal

pub returns-then-not-apart_from_later : goal.returns-then-not-apart_from_later
returns-then-not-apart_from_later c =
    let b = false_by c.apart_from_later.ensures c.if-not-apart_from_later.true in
    apart-no c.args.self.image.now c.args.key_bytes c.loop-i.i _ c.loop-i.invariant (omega arith) b

pub loop-i-preserved : goal.loop-i-preserved
loop-i-preserved c =
    let b = true_by c.apart_from_later.ensures c.if-not-apart_from_later.false in
    apart_yes c.args.self.image.now c.args.key_bytes c.loop-i.i _ c.loop-i.invariant (omega arith) b

pub returns : goal.returns
returns c = apart-end c.args.self.image.now c.args.key_bytes c.loop-i.i _ c.loop-i.invariant (omega arith)
