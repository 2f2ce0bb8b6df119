use Rattle.xts.proofs.GroupLaws.{Loaded}
use Rattle.xts.proofs.load.Given as goal

abbrev pub invariant-loop-j : goal.invariant-loop-j
invariant-loop-j l = Loaded l.s l.fn.q l.j l.q
