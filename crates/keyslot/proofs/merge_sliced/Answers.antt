-- The work on a data unit is that under the two schedules.
use mathlib.Core.Bool.{false}
use Rattle.xts.specs.Keys.{unit_decrypt}
use Rattle.xts.proofs.KeysLaws.{unit_run_under}
use Rattle.keyslot.proofs.merge_sliced.Goals as goal

pub returns : goal.returns
returns c =
    let a = c.args in
    let t = c.slice_keys-vs in
    λ h. c.merge_groups.ensures (unit_decrypt a.keys) (unit_run_under false a.keys a.ks.now t.result h t.ensures)
