-- The code's form of Maj is the standard's.
use Rattle.sha256.proofs.BitLaws.{maj-is}
use Rattle.sha256.proofs.maj.Goals as goal

pub returns : goal.returns
returns c = maj-is c.args.x c.args.y c.args.z
