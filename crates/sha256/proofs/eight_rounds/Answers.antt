-- The first turn's start is refl; a turn is one more.
use Rattle.std.proofs.Common.{refl, arith}
use Rattle.digest.specs.Turns.{turns}
use Rattle.sha256.proofs.RoundLaws.{turn_more}
use Rattle.sha256.proofs.eight_rounds.Goals as goal

pub loop-i-init : goal.loop-i-init
unfolding turns
loop-i-init g c = (omega arith, refl)

pub loop-i-preserved : goal.loop-i-preserved
loop-i-preserved g c = (omega arith, turn_more _ _ _ _ _ c.loop-i.invariant.1 c.turn-u.ensures)
