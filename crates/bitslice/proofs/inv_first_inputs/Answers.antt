-- `bitslice::inv_first_inputs` meets its contract.
use mathlib.Core.Path.{refl}
use Rattle.bitslice.specs.Circuit.{inv_first_inputs, inv_first_inputs_of}
use Rattle.bitslice.proofs.inv_first_inputs.Goals as goal

pub returns : goal.returns
unfolding inv_first_inputs inv_first_inputs_of
returns c = refl
