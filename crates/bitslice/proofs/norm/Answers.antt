-- `bitslice::norm` meets its contract.
use mathlib.Core.Path.{refl}
use Rattle.bitslice.specs.Circuit.{norm, norm_of}
use Rattle.bitslice.proofs.norm.Goals as goal

pub returns : goal.returns
unfolding norm norm_of
returns c = refl
