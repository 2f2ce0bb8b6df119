-- The work on a data unit is that under the two schedules.
use Rattle.xts.specs.Keys.{unit_run}
use Rattle.xts.proofs.KeysLaws.{unit_run_under}
use Rattle.xts.proofs.run_units.Goals as goal

pub returns : goal.returns
returns g c =
    let k = c.args.keys in
    let d = g.D.Direction.forward in
    let b = c.slice_keys-ks in
    let t = c.slice_keys-vs in
    c.run_sliced.ensures (unit_run d k) (unit_run_under d k b.result t.result b.ensures t.ensures)
