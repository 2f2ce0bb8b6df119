-- `screens::slot_details` meets its contract: header, then the entries.
use Rattle.std.proofs.Common.{◌∙◌, refl, ap, List, ℕ}
use Rattle.header.specs.Records.{facts_in}
use Rattle.screens.specs.Screens.{details_of, no_details}
use Rattle.screens.proofs.ScreenLaws.{shown, shows-slots, details_refused}
use Rattle.screens.proofs.slot_details.Goals as goal

pub returns-in_err-check : goal.returns-in_err-check
returns-in_err-check c = details_refused c.args.image.now c.in_err-check.field-0.0 c.in_err-check.ensures.number c.from_residual.result c.from_residual.ensures.1

pub returns : goal.returns
returns c =
    let e = c.in_ok-check.ensures in
    shows-slots details_of no_details c.args.image.now 0 _ e.number refl (c.all_entries.ensures ∙ ap (λ (m : List ℕ). shown details_of (facts_in m)) e.same)
