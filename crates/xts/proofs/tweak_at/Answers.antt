-- Two words for each half.
use Rattle.xts.specs.Keys.{tweak_bytes}
use Rattle.xts.proofs.GroupLaws.{block_tweak}
use Rattle.xts.proofs.tweak_at.Goals as goal

pub returns : goal.returns
unfolding tweak_bytes
returns c = block_tweak c.args.t.now c.args.b c.joined.result c.joined-2.result c.joined.ensures c.joined-2.ensures
