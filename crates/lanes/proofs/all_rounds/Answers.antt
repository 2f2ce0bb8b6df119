-- In a lane the four quarters are the 80 rounds.
use Rattle.lanes.proofs.LanesLaws.{rounds-lane}
use Rattle.lanes.proofs.all_rounds.Goals as goal

pub returns : goal.returns
returns c i h =
    let a = c.args in
    rounds-lane i a.w.now _ _ _ _ a.s _ _ _ _ c.told-w
    (c.twenty-a.ensures i h) (c.twenty-b.ensures i h) (c.twenty-c.ensures i h) (c.twenty.ensures i h)
