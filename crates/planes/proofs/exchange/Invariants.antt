use Rattle.std.proofs.Common.{◌*◌}
use Rattle.planes.proofs.RowLaws.{Rows}
use Rattle.planes.proofs.ExchangeLaws.{halves}
use Rattle.planes.proofs.exchange.Given as goal

abbrev pub invariant-loop-x : goal.invariant-loop-x
invariant-loop-x l = Rows (halves l.s l.m l.q) l.fn.d (2 * l.x) l.d
