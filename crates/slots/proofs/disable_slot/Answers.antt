use Rattle.octets.specs.Octets.{zeros}
use Rattle.rules.specs.Step.{disable_writes}
use Rattle.slots.proofs.AreaLaws.{slot-written}
use Rattle.slots.proofs.disable_slot.Goals as goal

pub returns : goal.returns
unfolding disable_writes zeros
returns c =
    let s = c.slot-s in
    slot-written c.args.image.now c.args.slot.number s.result.start.0 s.ensures.start_is c.args.filler.now _ _ _ c.copy_into.ensures c.put_head.ensures.0
