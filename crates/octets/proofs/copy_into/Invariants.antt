use Rattle.std.proofs.Common.{◌≡◌}
use lib.Seq.{paste}
use Rattle.octets.proofs.copy_into.Given as goal

-- the first i elements are copied
abbrev pub invariant-loop-i : goal.invariant-loop-i
invariant-loop-i g l = l.d ≡ paste l.initial.d l.at l.b l.i
