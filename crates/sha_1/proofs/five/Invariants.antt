-- The array and the working words are what j turns make of them.
use Rattle.std.proofs.Common.{◌≡◌, ◌-◌, ◌≤◌}
use Rattle.digest.specs.Turns.{turns}
use Rattle.sha_1.specs.Turns.{turn}
use Rattle.sha_1.proofs.five.Given as goal

abbrev pub invariant-loop-j : goal.invariant-loop-j
invariant-loop-j l = (l.j ≤ 5) × ((l.w, l.v) ≡ turns turn (l.fn.w, l.fn.s) l.fn.t l.j)

abbrev pub decreases-loop-j : goal.decreases-loop-j
decreases-loop-j l = 5 - l.j
