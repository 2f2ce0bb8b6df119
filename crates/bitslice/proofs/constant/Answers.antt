-- `bitslice::constant` meets its contract.
use mathlib.Core.Path.{refl}
use Rattle.bitslice.specs.Circuit.{constant_of}
use Rattle.bitslice.proofs.constant.Goals as goal

pub returns : goal.returns
unfolding constant_of
returns c = refl
