-- Each column before c is done.
use Rattle.std.proofs.Common.{arith, rules}
use Rattle.aes.specs.Columns.{mix_of}
use Rattle.aes.proofs.PlaneLaws.{each-mix}
use Rattle.mixing.proofs.ColumnLaws.{no-column, next-column}
use Rattle.mixing.proofs.mix_columns.Goals as goal

pub loop-c-init : goal.loop-c-init
loop-c-init c = no-column mix_of c.args.q.now (search rules)

pub loop-c-preserved : goal.loop-c-preserved
loop-c-preserved c = let l = c.loop-c in next-column mix_of c.args.q.now l.c l.q c.mix_column.new.q (search rules) l.invariant c.mix_column.ensures

pub returns : goal.returns
returns c = each-mix c.args.q.now c.loop-c.q (λ k h. c.loop-c.invariant.new k (omega arith))
