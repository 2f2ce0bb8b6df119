use Rattle.aes.specs.Planes.{Sliced}
use Rattle.cipher.proofs.slice_keys.Given as goal

abbrev pub invariant-loop-i : goal.invariant-loop-i
invariant-loop-i l = Sliced l.i l.w l.k
