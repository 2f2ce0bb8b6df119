use Rattle.std.proofs.Common.{◌≡◌}
use Rattle.xts.specs.Keys.{tweak_bytes, tweak_at}
use Rattle.xts.proofs.GroupLaws.{Stored}
use Rattle.xts.proofs.tweaks.Given as goal

abbrev pub invariant-loop-b : goal.invariant-loop-b
invariant-loop-b l = (tweak_bytes l.t ≡ tweak_at l.b (tweak_bytes l.fn.first)) × Stored (λ m. tweak_at m (tweak_bytes l.fn.first)) l.b l.u
