use Rattle.std.proofs.lemmas.Result.{MatchResult-at_ok}
use Rattle.octets.specs.Splice.{part}
use Rattle.rules.specs.Facts.{facts_of}
use Rattle.header.proofs.head.Head.checksum.Goals as goal

pub returns : goal.returns
unfolding part facts_of
returns c = (MatchResult-at_ok _ _ _ c.unwrap.ensures c.try_into.ensures.1).same
