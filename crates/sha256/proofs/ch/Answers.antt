-- The code's form of Ch is the standard's.
use Rattle.sha256.proofs.BitLaws.{ch-is}
use Rattle.sha256.proofs.ch.Goals as goal

pub returns : goal.returns
returns c = ch-is c.args.x c.args.y c.args.z c.ranges.x.fits c.ranges.z.fits
