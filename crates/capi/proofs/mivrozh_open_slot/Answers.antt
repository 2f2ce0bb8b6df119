-- `capi::mivrozh_open_slot` meets its contract: what `opening::open_slot` answers, laid in the buffers.
use Rattle.capi.proofs.OpenedLaws.{filled}
use Rattle.capi.proofs.mivrozh_open_slot.Goals as goal

pub returns : goal.returns
returns c = filled _ _ _ _ _ _ _ _ _ _ _ c.open_slot.ensures c.lay_opened.ensures
