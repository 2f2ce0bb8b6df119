-- `octets::be64`: std's bytes of a number.
use Rattle.std.proofs.Common.{◌∙◌}
use Rattle.octets.proofs.OctetsLaws.{high_first}
use Rattle.octets.proofs.be64.Goals as goal

pub returns : goal.returns
returns c = c.to_be_bytes.ensures ∙ high_first 8 c.args.x
