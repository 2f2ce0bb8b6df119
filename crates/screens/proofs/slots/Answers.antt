-- `screens::slots` meets its contract: header, then of each entry whether its slot is enabled.
use Rattle.std.proofs.Common.{rules, ◌≡◌, ◌∙◌, refl, ap, List, ℕ, false, length}
use Rattle.header.specs.Records.{facts_in}
use Rattle.screens.specs.declared.Entry.{Entry}
use Rattle.screens.specs.Screens.{enabled_bit}
use Rattle.screens.proofs.MappedLaws.{mapped}
use Rattle.screens.proofs.ScreenLaws.{shown, shows-slots, slots_refused, bits_are}
use Rattle.screens.proofs.slots.Goals as goal

pub returns-in_err-check : goal.returns-in_err-check
returns-in_err-check c = slots_refused c.args.image.now c.in_err-check.field-0.0 c.in_err-check.ensures.number c.from_residual.result c.from_residual.ensures.1

pub returns : goal.returns
returns c =
    let e = c.in_ok-check.ensures in
    let entries = c.all_entries-entries.result in
    let none : Entry = record { enabled = false; count = 0; start = record { 0 = 0 }; stripes = 0 } in
    let long : length entries ≡ 8 = search rules in
    let bits = mapped (λ (e : Entry). e.enabled) none false (λ p q x y k. search (rules, k)) long c.map.ensures.items in
    shows-slots enabled_bit 0 c.args.image.now 0 _ e.number refl
    (bits_are entries c.map.result _ bits c.all_entries-entries.ensures ∙ ap (λ (m : List ℕ). shown enabled_bit (facts_in m)) e.same)
