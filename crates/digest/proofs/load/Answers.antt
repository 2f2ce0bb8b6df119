-- `digest::load`: a word more.
use Rattle.std.proofs.Common.{arith, refl}
use Rattle.digest.specs.Chaining.{words}
use Rattle.digest.proofs.ChainingLaws.{words_more}
use Rattle.digest.proofs.load.Goals as goal

pub loop-t-init : goal.loop-t-init
unfolding words
loop-t-init c = refl

pub loop-t-preserved : goal.loop-t-preserved
loop-t-preserved c =
    words_more c.args.m.now c.loop-t.x-items c.loop-t.t c.be32_at.result (omega arith) c.loop-t.invariant c.be32_at.ensures
