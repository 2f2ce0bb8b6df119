-- `digest::store`: the bytes of the first i words are in the array.
use Rattle.std.proofs.Common.{◌≡◌, ◌*◌, length, take}
use Rattle.digest.specs.Chaining.{digest}
use Rattle.digest.proofs.store.Given as goal

abbrev pub invariant-loop-i : goal.invariant-loop-i
invariant-loop-i l = (length l.d ≡ 32) × (take (4 * l.i) l.d ≡ digest (take l.i l.fn.s))
