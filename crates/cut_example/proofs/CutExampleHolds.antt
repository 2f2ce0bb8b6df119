-- The example under Wish 5's theorem: its hypotheses are met.
use mathlib.Core.Path.{refl}
use mathlib.Core.List.{[], ◌∷◌}
use Rattle.ledger.specs.Demand3.{FormatTyped, Typed, AllTyped}
use Rattle.cuts.specs.CutSafe.{gives_list}
use Rattle.cuts.proofs.General.{cut-safe}
use Rattle.example.specs.Small.{small_table}
use Rattle.example.specs.Example.{bytes, the_key, slot_with}
use Rattle.example.proofs.SmallLaws.{small-lawful}
use Rattle.example.proofs.TypedLaws.{format-typed, calls_typed}
use Rattle.cut_example.specs.CutExample.{long_input, long_slot, long_image, long_calls, before, long_change, changed, CutExampleHolds}
use Rattle.cut_example.proofs.CutsComputed.{change-computed}

input_typed : FormatTyped long_input
unfolding long_input bytes
input_typed = format-typed long_input refl

typed : AllTyped long_calls
unfolding bytes the_key slot_with long_slot long_calls
typed = calls_typed long_calls refl

change-typed : Typed long_change
unfolding bytes slot_with long_slot long_change
change-typed = (calls_typed (long_change ∷ []) refl).0

pub cut_example_holds : CutExampleHolds
unfolding before changed gives_list long_change
cut_example_holds =
    record { safe = cut-safe small_table small-lawful long_input input_typed long_image change-computed.formatted long_calls typed long_change refl change-typed change-computed.accepted }
