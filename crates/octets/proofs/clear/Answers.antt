-- `octets::clear`: a clone of 0 is 0, so the string is zeros of its length.
use Rattle.octets.specs.Octets.{zeros}
use Rattle.octets.proofs.clear.Goals as goal

pub returns : goal.returns
unfolding zeros
returns c = c.fill.ensures.after (λ y h. h)
