use mathlib.Core.Path.{◌≡◌}
use Prim.Native.Nat.{◌+◌, ◌-◌, ◌*◌, ◌^◌, ◌<◌}
use native.Mathlib.Omega.{arith}
use lib.ListN.{length, take, drop, length-drop}
use lib.Seq.{length-take-le}
use Rattle.std.proofs.Common.{rules}
use Rattle.rules.specs.Facts.{slot_of}
use Rattle.rules.proofs.ArgumentLaws.{passphrase_in}
use Rattle.header.specs.Records.{facts_in}
use Rattle.header.proofs.SoundLaws.{sound}
use Rattle.slots.proofs.AreaLaws.{area_small, area-fits, some-stripes, area_is, candidate-is}
use Rattle.slots.proofs.CostLaws.{few-values, derivation_counted}
use Rattle.slots.proofs.slot_candidate.Goals as goal

pub overflow_mul-end : goal.overflow_mul-end
overflow_mul-end c =
    let s = c.slot-s in
    omega (arith, area_small c.args.drive.image.now c.args.drive.accepted c.args.slot.number c.args.slot.in_range s.result s.ensures (length c.args.d.now) c.requires.1)

pub overflow_add-end : goal.overflow_add-end
overflow_add-end c =
    let s = c.slot-s in
    omega (arith, area_small c.args.drive.image.now c.args.drive.accepted c.args.slot.number c.args.slot.in_range s.result s.ensures (length c.args.d.now) c.requires.1)

pub slice_bounds-candidate-end : goal.slice_bounds-candidate-end
slice_bounds-candidate-end c =
    let s = c.slot-s in
    omega (arith, area-fits c.args.drive.image.now c.args.drive.accepted c.args.slot.number c.args.slot.in_range s.result s.ensures (length c.args.d.now) c.requires.1)

pub candidate-requires : goal.candidate-requires
candidate-requires c =
    let m = c.args.drive.image.now in
    let ok = c.args.drive.accepted in
    let k = c.args.slot.number in
    let h = c.args.slot.in_range in
    let g = sound m ok in
    let r = c.slot-s in
    let L = length c.args.d.now in
    let e = c.requires.1 in
    let at = r.result.start.0 * 512 in
    let n = r.result.stripes * L in
    let room = area-fits m ok k h r.result r.ensures L e in
    let l : length (take (at + n - at) (drop at m)) ≡ at + n - at = length-take-le (at + n - at) (drop at m) (omega (arith, length-drop at m, room)) in
    let z : length r.result.salt ≡ 32 = search rules in (
      some-stripes m ok k h r.result r.ensures L e,
      omega (arith, l),
      omega (arith, e, g.key_least),
      omega (arith, e, g.key_most),
      omega (arith, e, g.key_whole),
      omega (arith, r.ensures.count_is, (g.slot k h).count_least c.requires.0),
      omega (arith, (passphrase_in c.args.passphrase.bytes.now c.args.passphrase.length_ok).1),
      omega (arith, z),
    )

pub returns : goal.returns
returns c =
    let m = c.args.drive.image.now in
    let ok = c.args.drive.accepted in
    let k = c.args.slot.number in
    let h = c.args.slot.in_range in
    let r = c.slot-s in
    let L = length c.args.d.now in
    let e = c.requires.1 in
    let g = c.hash in
    let v = c.candidate.ensures.1 in
    let n : r.result.count < 2 ^ 32 = search rules in (
      candidate-is m ok k h r.result r.ensures L e g.result g.ensures c.args.passphrase.bytes.now _ _ (area_is m ok k h r.result r.ensures L e) c.candidate.ensures.0,
      derivation_counted m g.result g.ensures r.result.count L (slot_of (facts_in m) k).count c.candidate.result r.ensures.count_is e v,
      omega (arith, v, few-values g.result r.result.count L n (omega (arith, e, (sound m ok).key_most))),
    )
