-- The array and the working words are what five turns make of them, i times.
use Rattle.std.proofs.Common.{◌≡◌, ◌-◌, ◌*◌, ◌≤◌}
use Rattle.digest.specs.Turns.{turns}
use Rattle.sha_1.specs.Turns.{turn}
use Rattle.sha_1.specs.Quarters.{number}
use Rattle.sha_1.proofs.twenty.Given as goal

abbrev pub invariant-loop-i : goal.invariant-loop-i
invariant-loop-i l = (l.i ≤ 4) × ((l.w, l.v) ≡ turns turn (l.fn.w, l.fn.s) (20 * number l.fn.q) (5 * l.i))

abbrev pub decreases-loop-i : goal.decreases-loop-i
decreases-loop-i l = 4 - l.i
