use Rattle.aes.proofs.PlaneLaws.{Summed}
use Rattle.planes.proofs.xor_words.Given as goal

abbrev pub invariant-loop-v : goal.invariant-loop-v
invariant-loop-v l = Summed l.fn.q l.k l.v l.q
