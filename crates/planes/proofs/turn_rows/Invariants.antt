use Rattle.std.proofs.Common.{◌*◌}
use Rattle.planes.proofs.RowLaws.{Rows}
use Rattle.planes.proofs.ShiftLaws.{by, turned_row}
use Rattle.planes.proofs.turn_rows.Given as goal

abbrev pub invariant-loop-i : goal.invariant-loop-i
invariant-loop-i l = Rows (turned_row (by l.m) (by l.n) l.fn.q l.k) l.fn.q (4 * l.i) l.q
