-- Each word before v is a sum.
use Rattle.std.proofs.Common.{arith, rules}
use Rattle.aes.proofs.PlaneLaws.{summed_none, summed_more}
use Rattle.planes.proofs.xor_words.Goals as goal

pub loop-v-init : goal.loop-v-init
loop-v-init c = summed_none c.args.q.now c.args.k.now (search rules)

pub loop-v-preserved : goal.loop-v-preserved
loop-v-preserved c = let a = c.args in summed_more a.q.now a.k.now c.loop-v.q c.loop-v.v (search rules) c.loop-v.invariant

pub returns : goal.returns
returns c = λ v h. c.loop-v.invariant.new v (omega arith)
