-- `pbkdf2::Source::iterate_lanes`: in each lane the last value, and the exclusive or of all so far; four values are made in a turn.
use Rattle.std.proofs.Common.{◌≡◌, ◌-◌, ◌*◌, length}
use Rattle.sha_1.specs.Sha1.{compression}
use Rattle.lanes.specs.Lanes.{Each, lane}
use Rattle.pbkdf2.specs.Words.{prf_words}
use Rattle.pbkdf2.proofs.Pbkdf2Laws.{Values}
use Rattle.pbkdf2.proofs.Source.iterate_lanes.Given as goal

abbrev pub invariant-loop-j : goal.invariant-loop-j
invariant-loop-j l =
    (length l.w ≡ 96)
    × Each (λ i. Values (prf_words compression (lane i l.inners) (lane i l.outers)) (lane i l.fn.first) l.j (lane i l.u) (lane i l.t))
    × (l.made ≡ 4 * (l.j - 1))
