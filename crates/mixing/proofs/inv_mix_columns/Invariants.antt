use Rattle.aes.specs.Columns.{premix_of}
use Rattle.mixing.proofs.ColumnLaws.{Columns}
use Rattle.mixing.proofs.inv_mix_columns.Given as goal

abbrev pub invariant-loop-c : goal.invariant-loop-c
invariant-loop-c l = Columns premix_of l.fn.q l.c l.q
