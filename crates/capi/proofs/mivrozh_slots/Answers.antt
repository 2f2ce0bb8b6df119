-- `capi::mivrozh_slots` meets its contract: the first screen, laid in the buffer.
use Rattle.std.proofs.Common.{◌∙◌}
use Rattle.capi.proofs.mivrozh_slots.Goals as goal

pub returns : goal.returns
returns c =
    let s = c.slots.ensures in
    let l = c.lay_slots.ensures in
    record { code_is = l.0 ∙ s.code_is; entries_are = l.1 ∙ s.entries_are }
