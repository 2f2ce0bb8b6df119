-- `bitslice::sbox` meets its contract.
use Rattle.bitslice.specs.Circuit.{sbox_of}
use Rattle.bitslice.proofs.sbox.Goals as goal

pub returns : goal.returns
unfolding sbox_of
returns c = cc
