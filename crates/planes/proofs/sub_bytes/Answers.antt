-- The circuit is the S-box's, in each lane.
use Rattle.std.proofs.Common.{rules}
use Rattle.bitslice.specs.Circuit.{sbox_of}
use Rattle.bitslice.proofs.LanesLaws.{length-sbox_of}
use Rattle.planes.proofs.CellLaws.{subbed}
use Rattle.planes.proofs.sub_bytes.Goals as goal

pub returns : goal.returns
returns c = subbed c.args.q.now c.each_byte.new.q (c.each_byte.ensures sbox_of length-sbox_of (λ x y h. search rules))
