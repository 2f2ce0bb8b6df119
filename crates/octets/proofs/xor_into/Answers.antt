-- `octets::xor_into`: a byte more, and the end.
use Rattle.std.proofs.Common.{arith}
use Rattle.octets.specs.Octets.{xors}
use Rattle.octets.proofs.InPlaceLaws.{xor_more, xor-last}
use Rattle.octets.proofs.xor_into.Goals as goal

pub loop-i-preserved : goal.loop-i-preserved
loop-i-preserved c =
    xor_more c.loop-i.d c.args.b.now (xors c.args.d.now c.args.b.now) c.loop-i.i (omega arith) (omega arith) c.loop-i.invariant

pub returns : goal.returns
returns c =
    xor-last c.loop-i.d c.args.b.now (xors c.args.d.now c.args.b.now) c.loop-i.i (omega arith) c.loop-i.invariant
