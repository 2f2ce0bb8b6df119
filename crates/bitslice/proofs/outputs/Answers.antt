-- `bitslice::outputs` meets its contract.
use mathlib.Core.Path.{refl}
use Rattle.bitslice.specs.Circuit.{outputs, outputs_of}
use Rattle.bitslice.proofs.outputs.Goals as goal

pub returns : goal.returns
unfolding outputs outputs_of
returns c = refl
