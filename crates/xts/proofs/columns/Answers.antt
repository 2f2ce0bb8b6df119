-- The low half and the high half.
use Rattle.xts.proofs.GroupLaws.{two-columns}
use Rattle.xts.proofs.columns.Goals as goal

pub returns : goal.returns
returns c = two-columns c.args.x
