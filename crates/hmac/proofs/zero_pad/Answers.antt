-- `hmac::zero_pad`: the bytes laid at the front of zeros.
use Rattle.std.proofs.Common.{◌∙◌, arith}
use Rattle.octets.specs.Octets.{zeros}
use Rattle.octets.proofs.SpliceLaws.{splice-zeros}
use Rattle.hmac.proofs.zero_pad.Goals as goal

pub returns : goal.returns
unfolding zeros
returns c = c.copy_into.ensures ∙ splice-zeros 64 c.args.t.now (omega arith)
