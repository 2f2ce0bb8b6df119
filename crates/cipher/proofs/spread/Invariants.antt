use Rattle.std.proofs.Common.{◌≡◌, ℕ, ◌%◌, ◌<◌, length, get_or}
use Rattle.cipher.proofs.spread.Given as goal

abbrev pub invariant-loop-v : goal.invariant-loop-v
invariant-loop-v l = (length l.q ≡ 128) × ((m : ℕ) → m < l.v → get_or l.q m 0 ≡ get_or l.columns (m % 4) 0)
