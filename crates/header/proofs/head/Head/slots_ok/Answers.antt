use native.Mathlib.Omega.{arith}
use Rattle.octets.proofs.BoolLaws.{true_by, false_by}
use Rattle.rules.specs.Header.{slot_ok}
use Rattle.header.proofs.SlotLaws.{slot_ok-is}
use Rattle.header.proofs.CheckLaws.{slot_yes, slot-no, slots_end}
use Rattle.header.proofs.head.Head.slots_ok.Goals as goal

pub returns-then-not-record_ok : goal.returns-then-not-record_ok
returns-then-not-record_ok c =
    let e = slot_ok-is c.slot_at.result _ c.slot_at.ensures c.record_ok.result c.record_ok.ensures in
    slot-no c.args.self.image.now slot_ok c.loop-i.i _ c.loop-i.invariant (omega arith) (false_by e c.if-not-record_ok.true)

pub loop-i-preserved : goal.loop-i-preserved
loop-i-preserved c =
    let e = slot_ok-is c.slot_at.result _ c.slot_at.ensures c.record_ok.result c.record_ok.ensures in
    slot_yes c.args.self.image.now slot_ok c.loop-i.i _ c.loop-i.invariant (omega arith) (true_by e c.if-not-record_ok.false)

pub returns : goal.returns
returns c = slots_end c.args.self.image.now slot_ok c.loop-i.i _ c.loop-i.invariant (omega arith)
