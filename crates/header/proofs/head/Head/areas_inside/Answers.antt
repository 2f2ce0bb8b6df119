use native.Mathlib.Omega.{arith}
use Rattle.octets.proofs.BoolLaws.{true_by, false_by}
use Rattle.rules.specs.Header.{inside}
use Rattle.header.specs.Records.{facts_in}
use Rattle.header.proofs.SlotLaws.{inside_is}
use Rattle.header.proofs.CheckLaws.{slot_yes, slot-no, slots_end}
use Rattle.header.proofs.head.Head.areas_inside.Goals as goal

pub returns-then-not-area_inside : goal.returns-then-not-area_inside
returns-then-not-area_inside c =
    let m = c.args.self.image.now in
    let L = c.args.key_bytes in
    let s = c.slot_at in
    let p = c.payload_at-payload in
    let e = inside_is s.result _ s.ensures L p.result.0 _ p.ensures c.area_inside.result c.area_inside.ensures in
    slot-no m (inside L (facts_in m).payload_at) c.loop-i.i _ c.loop-i.invariant (omega arith) (false_by e c.if-not-area_inside.true)

pub loop-i-preserved : goal.loop-i-preserved
loop-i-preserved c =
    let m = c.args.self.image.now in
    let L = c.args.key_bytes in
    let s = c.slot_at in
    let p = c.payload_at-payload in
    let e = inside_is s.result _ s.ensures L p.result.0 _ p.ensures c.area_inside.result c.area_inside.ensures in
    slot_yes m (inside L (facts_in m).payload_at) c.loop-i.i _ c.loop-i.invariant (omega arith) (true_by e c.if-not-area_inside.false)

pub returns : goal.returns
returns c =
    slots_end c.args.self.image.now (inside c.args.key_bytes (facts_in c.args.self.image.now).payload_at) c.loop-i.i _ c.loop-i.invariant (omega arith)
