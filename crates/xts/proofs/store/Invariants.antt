use Rattle.xts.proofs.GroupLaws.{Written}
use Rattle.xts.proofs.store.Given as goal

abbrev pub invariant-loop-j : goal.invariant-loop-j
invariant-loop-j l = Written l.q l.u l.fn.s l.j l.s
