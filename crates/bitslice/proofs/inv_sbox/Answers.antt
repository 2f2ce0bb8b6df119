-- `bitslice::inv_sbox` meets its contract.
use Rattle.bitslice.specs.Circuit.{inv_sbox_of}
use Rattle.bitslice.proofs.inv_sbox.Goals as goal

pub returns : goal.returns
unfolding inv_sbox_of
returns c = cc
