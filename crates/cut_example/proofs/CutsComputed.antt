-- The cuts of the example computed by the checker: each equation is met by running both sides.
use mathlib.Core.Path.{refl}
use Rattle.rules.specs.Sectors.{sectors_from, encoded, area_list, head_list, slot_list}
use Rattle.rules.specs.Lists.{list_of}
use Rattle.cuts.specs.Cuts.{carried_out, cut_after, marked, stage_at}
use Rattle.example.proofs.Computed.{computed}
use Rattle.cut_example.specs.CutExample.{long_input, long_slot, long_buffer, long_image, long_calls, before, long_filler, long_change, between, changed, change_list}
use Rattle.cut_example.specs.CutExample.{seen_in, seen_after, second_disabled, second_enabled, all_done, ChangeComputed, AddCuts, RevokeCuts}

-- what is unfolded for `computed` and here is unfolded below too
pub change-computed : ChangeComputed
unfolding computed sectors_from encoded area_list head_list slot_list list_of carried_out cut_after marked stage_at long_input long_slot long_buffer long_image long_calls before
    long_filler long_change between changed change_list seen_in seen_after second_disabled second_enabled all_done
change-computed = record { formatted = refl; accepted = refl; numbers = refl; size = refl }

pub add_cuts : AddCuts
unfolding change-computed
add_cuts = record { in_order = refl; out_of_order = refl }

pub revoke_cuts : RevokeCuts
unfolding change-computed
revoke_cuts = record { in_order = refl; out_of_order = refl }
