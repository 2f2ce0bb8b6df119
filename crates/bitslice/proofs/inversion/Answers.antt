-- `bitslice::inversion` meets its contract.
use mathlib.Core.Path.{refl}
use Rattle.bitslice.specs.Circuit.{inversion, inversion_of}
use Rattle.bitslice.proofs.inversion.Goals as goal

pub returns : goal.returns
unfolding inversion inversion_of
returns c = refl
