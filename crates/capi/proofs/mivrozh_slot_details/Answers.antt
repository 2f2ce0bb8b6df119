-- `capi::mivrozh_slot_details` meets its contract: the second screen, laid in four buffers.
use Rattle.std.proofs.Common.{◌∙◌, ap, map}
use Rattle.screens.specs.Screens.{Details}
use Rattle.capi.proofs.mivrozh_slot_details.Goals as goal

pub returns : goal.returns
returns c =
    let s = c.slot_details.ensures in
    let l = c.lay_details.ensures in
    record {
      code_is = l.0 ∙ s.code_is;
      enabled_are = l.1 ∙ ap (map (λ (d : Details). d.enabled)) s.entries_are;
      counts_are = l.2 ∙ ap (map (λ (d : Details). d.count)) s.entries_are;
      starts_are = l.3 ∙ ap (map (λ (d : Details). d.start)) s.entries_are;
      stripes_are = l.4 ∙ ap (map (λ (d : Details). d.stripes)) s.entries_are;
    }
