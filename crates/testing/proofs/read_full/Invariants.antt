-- The bytes read so far are no more than s has room for.
use Rattle.std.proofs.Common.{◌-◌, ◌≤◌, length}
use Rattle.testing.proofs.read_full.Given as goal

abbrev pub invariant-loop-done : goal.invariant-loop-done
invariant-loop-done g l = l.done ≤ length l.s

abbrev pub decreases-loop-done : goal.decreases-loop-done
decreases-loop-done g l = length l.initial.s - l.done
