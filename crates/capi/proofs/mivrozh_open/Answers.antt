-- `capi::mivrozh_open` meets its contract: what `opening::open` answers, laid in the buffers.
use Rattle.capi.proofs.OpenedLaws.{filled}
use Rattle.capi.proofs.mivrozh_open.Goals as goal

pub returns : goal.returns
returns c = filled _ _ _ _ _ _ _ _ _ _ _ c.«open».ensures c.lay_opened.ensures
