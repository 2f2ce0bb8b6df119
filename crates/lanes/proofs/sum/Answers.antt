-- The halves of ROTL^5(a) may be added at the end, one by one.
use Rattle.std.proofs.Common.{refl}
use Rattle.lanes.proofs.LanesLaws.{sum-halves}
use Rattle.lanes.proofs.sum.Goals as goal

pub returns : goal.returns
returns c = let a = c.args in sum-halves a.x a.e a.c a.w a.a c.sum5.result _ c.ranges.a.fits c.sum5.ensures refl
