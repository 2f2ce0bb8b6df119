-- The ring and the working words are what i turns make of them.
use Rattle.std.proofs.Common.{◌≡◌, ◌-◌, ◌≤◌}
use Rattle.digest.specs.Turns.{turns}
use Rattle.sha256.specs.Ring.{turn}
use Rattle.sha256.proofs.eight_rounds.Given as goal

abbrev pub invariant-loop-i : goal.invariant-loop-i
invariant-loop-i g l = (l.i ≤ 8) × ((l.w, l.v) ≡ turns turn (l.fn.w, l.fn.s) g.row.T l.i)

abbrev pub decreases-loop-i : goal.decreases-loop-i
decreases-loop-i g l = 8 - l.i
