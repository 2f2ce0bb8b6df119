-- The example computed by the checker, on the image and on the ledger: each equation is met by running both sides.
use mathlib.Core.Path.{refl}
use mathlib.Core.List.{flatten}
use Rattle.octets.specs.Octets.{◌⊕◌, zeros, big_endian, be32_at, xors, same}
use Rattle.octets.specs.Splice.{part, splice}
use Rattle.octets.specs.Pieces.{pieces, in_pieces}
use Rattle.suite.specs.Split.{running, split, merge_from, merge}
use Rattle.rules.specs.Checks.{first, every}
use Rattle.rules.specs.Profiles.{holds_text, fits, number_of, no_profile, profile_at, known}
use Rattle.rules.specs.Layout.{area_sectors, round_up, area_start, areas_end, payload_start}
use Rattle.rules.specs.Facts
use Rattle.rules.specs.Sectors
use Rattle.rules.specs.Header
use Rattle.rules.specs.Calls
use Rattle.rules.specs.Step
use Rattle.rules.specs.Format
use Rattle.rules.specs.Costs.{checksum_cost, derivation_cost, trial_cost, enabled_cost, search_cost, test_cost, work_cost, cost, cost_on, format_cost}
use Rattle.screens.specs.Screens
use Rattle.ledger.specs.Drive
use Rattle.ledger.specs.Ledger
use Rattle.ledger.specs.Costs.{run_costs, ledger_costs}
use Rattle.example.specs.Small
use Rattle.example.specs.Example
use Rattle.example.specs.ExampleHolds.{Computed, NumbersComputed}

-- unfoldable, so that `cut_example` computes with all that is unfolded here
unfoldable pub computed : Computed
unfolding ◌⊕◌ flatten zeros big_endian be32_at xors same part splice pieces in_pieces running split merge_from merge first every holds_text fits number_of no_profile profile_at known
    area_sectors round_up area_start areas_end payload_start Facts.is_enabled Facts.no_slot Facts.slot_of Facts.slot_at Facts.profile_in Facts.facts_of Facts.checksum_of Facts.matches
    Facts.key_material Facts.candidate_of Facts.candidate Sectors.area_count Sectors.slot_count Header.size_ok Header.record_ok Header.slot_ok Header.area_end Header.inside Header.apart Header.all_apart
    Header.sound_checks Header.header_checks Calls.slot_number_ok Calls.passphrase_ok Calls.key_ok Calls.count_ok Calls.random_ok Calls.filler_ok Calls.list_ok Calls.any_enabled Calls.other_enabled
    Calls.opens Calls.seek Calls.range_checks Calls.early_checks Calls.late_checks Calls.checks Calls.done Calls.opened Calls.bytes_read Calls.answer Calls.no_key_bytes Calls.refused
    Step.written Step.record_head Step.slot_writes Step.enable_writes Step.disable_writes Step.writes Step.settle Step.step Step.run Format.printable Format.format_checks
    Format.head_fields Format.slot_record Format.header_of Format.formatted Format.settle_format Format.format Drive.map_from Drive.area_room Drive.record_of Drive.room_of
    Drive.image_parts Drive.drive_image Drive.content_facts Drive.drive_facts Ledger.state_of Ledger.count_of Ledger.salt_of Ledger.area_of Ledger.sector_of Ledger.content_of
    Ledger.ledger_drive Ledger.ledger_image Ledger.ledger_facts Ledger.set_slot Ledger.set_sectors Ledger.writings Ledger.ledger_after Ledger.settle_entry Ledger.enter
    Ledger.enter_all Ledger.sectors_in Ledger.start_ledger Small.byte_sum Small.small_derive Small.small_made Small.mask Small.masked Small.bumped Small.small_suite Small.small_profile
    Small.small_table Example.bytes Example.the_key Example.other_key Example.twin_key Example.short_key Example.one Example.two Example.three Example.eight Example.wrong
    Example.slot_with Example.stripe Example.input Example.image Example.gave_key Example.gave_twin Example.no_open Example.said Example.answered Example.calls Example.expected Example.numbers
    Example.slot_buffer Example.change_buffer Example.end_ledger Example.disabled_record Example.enabled_record Example.end_area2 Example.end_area8 Example.end_bytes
    Example.shows Example.end_slots Example.end_details Example.other_image Example.fewer_calls Screens.screen Screens.enabled_bit Screens.details_of Screens.no_details
computed =
    record {
      accepted = refl;
      answers_on_image = refl;
      image_on_image = refl;
      answers_on_ledger = refl;
      ledger_is = refl;
      image_on_ledger = refl;
      others_accepted = refl;
      others_end = refl;
      slots_at_end = refl;
      details_at_end = refl;
      slots_before = refl;
      details_before = refl;
    }

pub numbers-computed : NumbersComputed
unfolding computed checksum_cost derivation_cost trial_cost enabled_cost search_cost test_cost work_cost cost cost_on format_cost run_costs ledger_costs
numbers-computed = record { format_number = refl; numbers_on_image = refl; numbers_on_ledger = refl }
