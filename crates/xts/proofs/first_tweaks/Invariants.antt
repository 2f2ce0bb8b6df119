use Rattle.std.proofs.Common.{◌+◌, ◌%◌, ◌^◌}
use Rattle.xts.specs.Xts.{unit_block}
use Rattle.xts.proofs.GroupLaws.{Stored}
use Rattle.xts.proofs.first_tweaks.Given as goal

abbrev pub invariant-loop-b : goal.invariant-loop-b
invariant-loop-b l = Stored (λ m. unit_block ((l.first + m) % 2 ^ 64)) l.b l.q
