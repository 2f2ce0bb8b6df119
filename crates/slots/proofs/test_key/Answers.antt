use mathlib.Core.Path.{sym, subst}
use Rattle.header.specs.Records.{facts_in}
use Rattle.slots.specs.Trials.{IsTested}
use Rattle.slots.proofs.TestLaws.{tested_is}
use Rattle.slots.proofs.test_key.Goals as goal

pub returns : goal.returns
returns c =
    let f = facts_in c.args.drive.image.now in
    subst (λ r. IsTested r f c.args.key.now) (sym c.tested.ensures) (tested_is _ f c.args.key.now c.key_matches.ensures)
