-- `bitslice::inv_outputs` meets its contract.
use mathlib.Core.Path.{refl}
use Rattle.bitslice.specs.Circuit.{inv_outputs, inv_outputs_of}
use Rattle.bitslice.proofs.inv_outputs.Goals as goal

pub returns : goal.returns
unfolding inv_outputs inv_outputs_of
returns c = refl
