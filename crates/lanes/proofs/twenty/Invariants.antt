-- In each lane the array and the working words are what j turns make of them.
use Rattle.std.proofs.Common.{◌≡◌, ◌+◌, ◌-◌, ◌*◌, ◌≤◌, length, get_or}
use Rattle.digest.specs.Turns.{turns}
use Rattle.sha_1.specs.Turns.{turn}
use Rattle.sha_1.specs.Quarters.{number}
use Rattle.lanes.specs.Lanes.{Each, lane, taps, joined}
use Rattle.lanes.proofs.twenty.Given as goal

abbrev pub invariant-loop-j : goal.invariant-loop-j
invariant-loop-j l =
    (l.j ≤ 20) × (length l.v ≡ 6)
    × Each (λ i. (lane i l.w, joined (lane i l.v)) ≡ turns turn (lane i l.fn.w, joined (lane i l.initial.v)) (20 * number l.fn.q) l.j)
    × Each (λ i. get_or l.y i 0 ≡ taps (lane i l.w) (16 + (20 * number l.fn.q + l.j)))

abbrev pub decreases-loop-j : goal.decreases-loop-j
decreases-loop-j l = 20 - l.j
