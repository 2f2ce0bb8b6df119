use mathlib.Core.Path.{◌∙◌}
use Rattle.header.proofs.FactsLaws.{enabled_is}
use Rattle.header.proofs.drive.Drive.is_enabled.Goals as goal

pub returns : goal.returns
returns c = c.is_enabled.ensures ∙ enabled_is c.slot.result _ c.slot.ensures
