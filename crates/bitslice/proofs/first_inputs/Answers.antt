-- `bitslice::first_inputs` meets its contract.
use mathlib.Core.Path.{refl}
use Rattle.bitslice.specs.Circuit.{first_inputs, first_inputs_of}
use Rattle.bitslice.proofs.first_inputs.Goals as goal

pub returns : goal.returns
unfolding first_inputs first_inputs_of
returns c = refl
