-- What holds of the example: computed by the checker, and said by demand 3.
use Rattle.std.specs.Prelude.{◌≡◌, List, ℕ, length, replicate}
use Rattle.rules.specs.Lawful.{LawfulTable}
use Rattle.rules.specs.Calls.{open_slot, read}
use Rattle.rules.specs.Step.{step}
use Rattle.rules.specs.Format.{format}
use Rattle.rules.specs.Costs.{format_cost}
use Rattle.screens.specs.Screens.{slot_screen, detail_screen}
use Rattle.ledger.specs.Ledger.{ledger_image}
use Rattle.ledger.specs.Demand3.{FormatTyped, AllTyped, SomeLive, answers_given, last_image, ledger_answers, last_ledger}
use Rattle.ledger.specs.Costs.{values_given, ledger_values}
use Rattle.example.specs.Small.{small_table}
use Rattle.example.specs.Example.{bytes, the_key, two, eight, input, image, calls, expected, numbers, gave_key, gave_twin}
use Rattle.example.specs.Example.{said, end_ledger, end_bytes, shows, end_slots, end_details, other_image, fewer_calls}

-- computed, with no use of the theorem
pub record Computed : Type 0 where
  pub accepted : (format small_table input image).code ≡ 0
  -- the calls on the image
  pub answers_on_image : answers_given small_table input image calls ≡ expected
  pub image_on_image : last_image small_table input image calls ≡ end_bytes
  -- the calls on the ledger
  pub answers_on_ledger : ledger_answers small_table input image calls ≡ expected
  pub ledger_is : last_ledger small_table input image calls ≡ end_ledger
  pub image_on_ledger : ledger_image small_table end_ledger ≡ end_bytes
  -- the other calls, after a format of the other image
  pub others_accepted : (format small_table input other_image).code ≡ 0
  pub others_end : last_ledger small_table input other_image fewer_calls ≡ end_ledger
  -- the two screens of the last image, and of the image before format, which has no magic
  pub slots_at_end : slot_screen small_table end_bytes ≡ end_slots
  pub details_at_end : detail_screen small_table end_bytes ≡ end_details
  pub slots_before : slot_screen small_table image ≡ record { code = 2; entries = replicate 8 0 }
  pub details_before : detail_screen small_table image ≡ record { code = 2; entries = replicate 8 (shows 0 0 0 0) }

-- the numbers of Wish 6 of 02, computed too
pub record NumbersComputed : Type 0 where
  pub format_number : format_cost small_table input image ≡ 8
  pub numbers_on_image : values_given small_table input image calls ≡ numbers
  pub numbers_on_ledger : ledger_values small_table input image calls ≡ numbers

-- the theorem's hypotheses are met, and what it says then
pub record ExampleHolds : Type 0 where
  pub lawful : LawfulTable small_table
  pub input_typed : FormatTyped input
  pub calls_typed : AllTyped calls
  pub accepted : (format small_table input image).code ≡ 0
  -- the answers on the image are the expected ones, and the last image is the ledger's
  pub answers_are : answers_given small_table input image calls ≡ expected
  pub image_is : last_image small_table input image calls ≡ end_bytes
  -- and the ledger foretells how many values each call makes
  pub numbers_are : values_given small_table input image calls ≡ numbers
  -- slot 8 opens with the master key, slot 2 with the other key that has its checksum
  pub opens_8 : (step small_table (last_image small_table input image calls) (open_slot 8 eight)).said ≡ gave_key 8
  pub opens_2 : (step small_table (last_image small_table input image calls) (open_slot 2 two)).said ≡ gave_twin 2
  -- the unit that was written reads back
  pub reads_1 : (buffer : List ℕ) → length buffer ≡ 512
      → (step small_table (last_image small_table input image calls) (read the_key 1 1 buffer)).said ≡ said 0 (bytes 512 0x2A)
  pub some_live : SomeLive (last_ledger small_table input image calls)
  -- other calls on another image, with the same end
  pub one_image : last_image small_table input image calls ≡ last_image small_table input other_image fewer_calls
