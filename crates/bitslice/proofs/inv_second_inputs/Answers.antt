-- `bitslice::inv_second_inputs` meets its contract.
use mathlib.Core.Path.{refl}
use Rattle.bitslice.specs.Circuit.{inv_second_inputs, inv_second_inputs_of}
use Rattle.bitslice.proofs.inv_second_inputs.Goals as goal

pub returns : goal.returns
unfolding inv_second_inputs inv_second_inputs_of
returns c = refl
