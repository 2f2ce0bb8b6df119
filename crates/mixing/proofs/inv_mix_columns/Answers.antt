-- Each column before c is done.
use Rattle.std.proofs.Common.{arith, rules}
use Rattle.aes.specs.Columns.{premix_of}
use Rattle.aes.proofs.PremixLaws.{each-premix, each_inv_mix}
use Rattle.mixing.proofs.ColumnLaws.{no-column, next-column}
use Rattle.mixing.proofs.inv_mix_columns.Goals as goal

pub loop-c-init : goal.loop-c-init
loop-c-init c = no-column premix_of c.args.q.now (search rules)

pub loop-c-preserved : goal.loop-c-preserved
loop-c-preserved c = let l = c.loop-c in next-column premix_of c.args.q.now l.c l.q c.premix_column.new.q (search rules) l.invariant c.premix_column.ensures

pub returns : goal.returns
returns c =
    let p = each-premix c.args.q.now c.loop-c.q (λ k h. c.loop-c.invariant.new k (omega arith)) in
    each_inv_mix c.args.q.now c.loop-c.q c.mix_columns.new.q p c.mix_columns.ensures
