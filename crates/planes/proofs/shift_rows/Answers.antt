-- The turns of the rows, as the state in each lane sees them.
use Rattle.planes.proofs.ShiftLaws.{shifted}
use Rattle.planes.proofs.shift_rows.Goals as goal

pub returns : goal.returns
returns c = λ j h. shifted c.args.q.now c.args.k.now c.turn_rows.new.q c.turn_rows.ensures j
