use Rattle.aes.specs.Columns.{mix_of}
use Rattle.mixing.proofs.ColumnLaws.{Columns}
use Rattle.mixing.proofs.mix_columns.Given as goal

abbrev pub invariant-loop-c : goal.invariant-loop-c
invariant-loop-c l = Columns mix_of l.fn.q l.c l.q
