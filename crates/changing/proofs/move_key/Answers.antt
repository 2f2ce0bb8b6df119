use mathlib.Core.Path.{ap₂, ◌∙◌}
use mathlib.Core.List.{List, ◌++◌}
use Prim.Native.Nat.{ℕ}
use native.Mathlib.Omega.{arith}
use Rattle.rules.specs.Sectors.{encoded, slot_list}
use Rattle.keyslot.specs.Input.{input_of}
use Rattle.header.specs.Records.{facts_in}
use Rattle.header.proofs.SoundLaws.{sound}
use Rattle.sectors.proofs.ListLaws.{area-within}
use Rattle.changing.proofs.ChangeLaws.{filler-fits, moved, moved_on, room₁, room₂, both-filled}
use Rattle.changing.proofs.move_key.Goals as goal

pub put_list-requires : goal.put_list-requires
put_list-requires c =
    let a = c.args in
    let m = a.image.now in
    let q = c.requires in
    let b = c.area_of-to_area in
    let d = c.area_of-from_area in
    let after = c.enable_slot-made.new.image in
    let l = c.enable_slot-made.auto.image in (
      area-within m q.0 a.ends.to.number a.ends.to.in_range b.result b.ensures.0 after l,
      room₁ m q.0 a.ends.from.number a.ends.to.number a.ends.from.in_range a.ends.to.in_range b.result d.result b.ensures.0 d.ensures.0 after after l l a.list.now q.6,
    )

pub disable_slot-requires : goal.disable_slot-requires
disable_slot-requires c =
    let a = c.args in
    let m = a.image.now in
    let q = c.requires in
    let e = c.enable_slot-made in
    let r = filler-fits m q.0 a.ends.from.number a.ends.to.number a.ends.from.in_range a.ends.to.in_range a.key.now (input_of a.input) e.ensures.1 a.filler.now e.new.image e.ensures.0 q.5 in
    (omega (arith, e.auto.image, (sound m q.0).size), omega (arith, e.auto.image, r))

pub put_list-requires-2 : goal.put_list-requires-2
put_list-requires-2 c =
    let a = c.args in
    let m = a.image.now in
    let q = c.requires in
    let b = c.area_of-to_area in
    let d = c.area_of-from_area in
    let e = c.enable_slot-made in
    let l = c.disable_slot.auto.image ∙ e.auto.image in (
      area-within m q.0 a.ends.from.number a.ends.from.in_range d.result d.ensures.0 c.disable_slot.new.image l,
      room₂ m q.0 a.ends.from.number a.ends.to.number a.ends.from.in_range a.ends.to.in_range b.result d.result b.ensures.0 d.ensures.0
          e.new.image c.disable_slot.new.image e.auto.image l a.list.now q.6
          c.list_bytes-half.result c.put_list.new.list c.list_bytes-half.ensures.0 c.put_list.auto.list,
    )

pub returns : goal.returns
returns c =
    let a = c.args in
    let m = a.image.now in
    let q = c.requires in
    let b = c.area_of-to_area in
    let d = c.area_of-from_area in
    let e = c.enable_slot-made in
    let x = input_of a.input in
    let l = c.disable_slot.auto.image ∙ e.auto.image in
    let on = moved_on m q.0 a.ends.from.number a.ends.to.number a.ends.from.in_range a.ends.to.in_range a.key.now x e.ensures.1 a.filler.now e.new.image e.ensures.0 _ c.disable_slot.ensures in (
      record {
        image_is = moved m q.0 a.ends.from.number a.ends.to.number a.ends.from.in_range a.ends.to.in_range a.key.now x e.ensures.1 a.filler.now e.new.image e.ensures.0 _ c.disable_slot.ensures;
        list_is = both-filled m q.0 a.ends.from.number a.ends.to.number a.ends.from.in_range a.ends.to.in_range b.result d.result b.ensures.0 d.ensures.0
            e.new.image c.disable_slot.new.image e.auto.image l a.list.now q.6
            c.list_bytes-half.result _ _ c.list_bytes-half.ensures.0 c.put_list.ensures c.put_list-2.ensures
            ∙ ap₂ (λ (y z : List ℕ). encoded (slot_list (facts_in m) a.ends.to.number y ++ slot_list (facts_in m) a.ends.from.number z)) e.ensures.0 on;
      },
      e.ensures.2,
      e.ensures.3,
    )
