-- `screens::entry_at` meets its contract.
use Rattle.std.proofs.Common.{◌∙◌, ap, ℕ, List, ◌+◌}
use Rattle.rules.specs.Facts.{slot_of}
use Rattle.header.specs.Records.{facts_in}
use Rattle.screens.specs.Screens.{details_of}
use Rattle.screens.proofs.ScreenLaws.{entry_is}
use Rattle.screens.proofs.entry_at.Goals as goal

pub returns : goal.returns
returns c =
    entry_is _ _ c.slot_at-slot.ensures c.is_enabled.result c.is_enabled.ensures
    ∙ ap (λ (m : List ℕ). details_of (slot_of (facts_in m) (c.args.i + 1))) c.head.ensures
