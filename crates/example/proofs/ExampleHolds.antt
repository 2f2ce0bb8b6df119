-- The example under demand 3: its hypotheses are met, and its sentences hold of the list.
use mathlib.Core.Path.{◌≡◌, refl, sym, ap, ◌∙◌}
use mathlib.Core.List.{List}
use mathlib.Core.Bool.{true}
use Prim.Native.Nat.{ℕ}
use native.Mathlib.Omega.{arith}
use lib.ListN.{length}
use Rattle.rules.specs.Profiles.{profile_at}
use Rattle.rules.specs.Calls.{open_slot, read}
use Rattle.rules.specs.Step.{step}
use Rattle.ledger.specs.Ledger.{ledger_image}
use Rattle.ledger.specs.Demand3.{FormatTyped, AllTyped, Demand3, answers_given, last_image, entry_of, sector_entry_of, is_add, add_accepted}
use Rattle.ledger.proofs.General.{demand_3}
use Rattle.ledger.proofs.CostLaws.{costs_follow}
use Rattle.example.specs.Small.{small_profile, small_table}
use Rattle.example.specs.Example.{bytes, the_key, other_key, twin_key, short_key, two, eight, slot_with, stripe, input, image, gave_key}
use Rattle.example.specs.Example.{gave_twin, no_open, said, answered, calls, expected, end_ledger, other_image, fewer_calls}
use Rattle.example.specs.ExampleHolds.{ExampleHolds}
use Rattle.example.proofs.SmallLaws.{small-lawful}
use Rattle.example.proofs.TypedLaws.{format-typed, calls_typed}
use Rattle.example.proofs.Computed.{computed, numbers-computed}

-- ---- the hypotheses

input_typed : FormatTyped input
unfolding input bytes
input_typed = format-typed input refl

typed : AllTyped calls
unfolding bytes the_key other_key twin_key short_key slot_with stripe answered calls
typed = calls_typed calls refl

others_typed : AllTyped fewer_calls
unfolding bytes the_key twin_key slot_with stripe fewer_calls
others_typed = calls_typed fewer_calls refl

-- ---- the theorem at the list

theorem : Demand3 small_table input image calls
theorem = demand_3 small_table small-lawful input input_typed image computed.accepted calls typed

answers_are : answers_given small_table input image calls ≡ expected
answers_are = theorem.answers_are ∙ computed.answers_on_ledger

opens_8 : (step small_table (last_image small_table input image calls) (open_slot 8 eight)).said ≡ gave_key 8
unfolding profile_at small_profile small_table the_key slot_with input gave_key end_ledger
opens_8 = theorem.live_opens 8 (omega arith) (omega arith) the_key (slot_with eight 7 2 stripe) (ap (λ l. entry_of l 8) computed.ledger_is)

opens_2 : (step small_table (last_image small_table input image calls) (open_slot 2 two)).said ≡ gave_twin 2
unfolding profile_at small_profile small_table twin_key slot_with input gave_twin end_ledger
opens_2 = theorem.live_opens 2 (omega arith) (omega arith) twin_key (slot_with two 9 2 stripe) (ap (λ l. entry_of l 2) computed.ledger_is)

reads_1 : (buffer : List ℕ) → length buffer ≡ 512
    → (step small_table (last_image small_table input image calls) (read the_key 1 1 buffer)).said ≡ said 0 (bytes 512 0x2A)
unfolding end_ledger said
reads_1 = theorem.written_reads 1 the_key (bytes 512 0x2A) (ap (λ l. sector_entry_of l 1) computed.ledger_is)

add-accepted : add_accepted calls expected ≡ true
unfolding add_accepted is_add answered calls expected said no_open gave_key gave_twin
add-accepted = refl

pub example_holds : ExampleHolds
example_holds =
    record {
      lawful = small-lawful;
      input_typed = input_typed;
      calls_typed = typed;
      accepted = computed.accepted;
      answers_are = answers_are;
      image_is = theorem.image_is ∙ ap (ledger_image small_table) computed.ledger_is ∙ computed.image_on_ledger;
      numbers_are = (costs_follow small_table small-lawful input input_typed image computed.accepted calls typed).values_are ∙ numbers-computed.numbers_on_ledger;
      opens_8 = opens_8;
      opens_2 = opens_2;
      reads_1 = reads_1;
      some_live = theorem.some_live (ap (add_accepted calls) answers_are ∙ add-accepted);
      one_image = theorem.one_image input input_typed other_image computed.others_accepted fewer_calls others_typed (computed.ledger_is ∙ sym computed.others_end);
    }
