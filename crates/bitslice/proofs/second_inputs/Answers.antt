-- `bitslice::second_inputs` meets its contract.
use mathlib.Core.Path.{refl}
use Rattle.bitslice.specs.Circuit.{second_inputs, second_inputs_of}
use Rattle.bitslice.proofs.second_inputs.Goals as goal

pub returns : goal.returns
unfolding second_inputs second_inputs_of
returns c = refl
