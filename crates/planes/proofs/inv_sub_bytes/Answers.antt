-- The circuit is the S-box's, in each lane.
use Rattle.std.proofs.Common.{rules}
use Rattle.bitslice.specs.Circuit.{inv_sbox_of}
use Rattle.bitslice.proofs.LanesLaws.{length-inv_sbox_of}
use Rattle.planes.proofs.CellLaws.{unsubbed}
use Rattle.planes.proofs.inv_sub_bytes.Goals as goal

pub returns : goal.returns
returns c = unsubbed c.args.q.now c.each_byte.new.q (c.each_byte.ensures inv_sbox_of length-inv_sbox_of (λ x y h. search rules))
