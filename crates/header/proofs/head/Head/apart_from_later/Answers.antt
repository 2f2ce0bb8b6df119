use Prim.Native.Nat.{◌+◌}
use native.Mathlib.Omega.{arith}
use Rattle.octets.proofs.BoolLaws.{true_by, false_by}
use Rattle.rules.specs.Facts.{slot_of}
use Rattle.rules.specs.Header.{apart}
use Rattle.header.specs.Records.{facts_in}
use Rattle.header.proofs.SlotLaws.{apart-is}
use Rattle.header.proofs.CheckLaws.{slot_yes, slot-no, slots_end}
use Rattle.header.proofs.head.Head.apart_from_later.Goals as goal

pub returns-then-not-apart : goal.returns-then-not-apart
returns-then-not-apart c =
    let s = c.slot_at-slot in
    let t = c.slot_at in
    let m = c.args.self.image.now in
    let e = apart-is s.result t.result _ _ s.ensures t.ensures c.args.key_bytes c.apart.result c.apart.ensures in
    slot-no m (apart c.args.key_bytes (slot_of (facts_in m) (c.args.i + 1))) c.loop-j.j _ c.loop-j.invariant (omega arith) (false_by e c.if-not-apart.true)

pub loop-j-preserved : goal.loop-j-preserved
loop-j-preserved c =
    let s = c.slot_at-slot in
    let t = c.slot_at in
    let m = c.args.self.image.now in
    let e = apart-is s.result t.result _ _ s.ensures t.ensures c.args.key_bytes c.apart.result c.apart.ensures in
    slot_yes m (apart c.args.key_bytes (slot_of (facts_in m) (c.args.i + 1))) c.loop-j.j _ c.loop-j.invariant (omega arith) (true_by e c.if-not-apart.false)

pub returns : goal.returns
returns c =
    let m = c.args.self.image.now in
    slots_end m (apart c.args.key_bytes (slot_of (facts_in m) (c.args.i + 1))) c.loop-j.j _ c.loop-j.invariant (omega arith)
