-- An example of cuts: a change from slot 8 to slot 7 on a drive of the small suite, cut after each of its writes, and what 02, Wish 5 asks for there.
use Rattle.std.specs.Prelude.{◌≡◌, List, [], ◌∷◌, map, Bool, true, false, ℕ, ◌*◌, length}
use Rattle.octets.specs.Octets.{same}
use Rattle.rules.specs.Checks.{first}
use Rattle.rules.specs.Facts.{SlotInput, facts_of}
use Rattle.rules.specs.Sectors.{SectorWrite, encoded}
use Rattle.rules.specs.Header.{header_checks}
use Rattle.rules.specs.Calls.{Call, add, change, revoke, open_slot}
use Rattle.rules.specs.Step.{After, step}
use Rattle.rules.specs.Lists.{enabled_image, list_of}
use Rattle.rules.specs.Format.{FormatInput, format}
use Rattle.ledger.specs.Demand3.{last_image, last_ledger}
use Rattle.cuts.specs.Cuts.{cut_after, in_area, stage_at}
use Rattle.cuts.specs.CutSafe.{CutSafe}
use Rattle.example.specs.Small.{small_table}
use Rattle.example.specs.Example.{bytes, the_key, one, two, eight, slot_with}

-- ---- the drive and the change

-- 33 stripes of 16 bytes: an area has two sectors, the second with 16 bytes of it
unfoldable pub long_input : FormatInput
long_input = record { profile = 1; stripes = 33; key = the_key; salt = bytes 32 3; count = 2; uuid = bytes 36 0x61 }

-- what makes a slot live
unfoldable pub long_slot : List ℕ → ℕ → SlotInput
long_slot passphrase b = slot_with passphrase b 2 (bytes 512 200)

-- the buffer that is lent for the list of an add or a revoke: four writes
unfoldable pub long_buffer : List ℕ
long_buffer = bytes 2064 0

-- 69 sectors: 66 up to the end of area 8, two before the payload, and one of it
unfoldable pub long_image : List ℕ
long_image = bytes (69 * 512) 7

-- slots 1 and 8 made live
unfoldable pub long_calls : List Call
long_calls = add 1 the_key (long_slot one 1) long_buffer ∷ add 8 the_key (long_slot eight 5) long_buffer ∷ []

-- the image that they leave
unfoldable pub before : List ℕ
before = last_image small_table long_input long_image long_calls

-- the filler that goes into area 8
unfoldable pub long_filler : List ℕ
long_filler = 78 ∷ bytes 527 77

-- from slot 8 to slot 7
unfoldable pub long_change : Call
long_change = change 8 eight 7 (long_slot two 9) long_filler (bytes 4128 0)

-- the image between its add and its revoke
unfoldable pub between : List ℕ
between = enabled_image (facts_of small_table before) 7 the_key (long_slot two 9) before

-- its answer and the image it leaves
unfoldable pub changed : After
changed = step small_table before long_change

-- its list
unfoldable pub change_list : List SectorWrite
change_list = list_of (facts_of small_table before) long_change before

-- ---- at a cut

-- what is seen of an image
pub record Seen : Type 0 where
  pub header : ℕ  -- the header check
  pub other : ℕ  -- the opens of slot 1,
  pub old : ℕ  -- of slot 8
  pub new : ℕ  -- and of slot 7
  pub again : ℕ  -- the change once more,
  pub reached : Bool  -- and whether it leaves the uncut image
  pub finish : ℕ  -- a revoke of slot 8 with the same filler,
  pub finished : Bool  -- and whether it does

-- the image z
unfoldable pub seen_in : List ℕ → Seen
seen_in z =
    let s = step small_table z long_change in
    let t = step small_table z (revoke 8 long_filler long_buffer) in
    record {
      header = first (header_checks small_table z);
      other = (step small_table z (open_slot 1 one)).said.code;
      old = (step small_table z (open_slot 8 eight)).said.code;
      new = (step small_table z (open_slot 7 two)).said.code;
      again = s.said.code;
      reached = same s.image changed.image;
      finish = t.said.code;
      finished = same t.image changed.image;
    }

-- the image after j writes
unfoldable pub seen_after : ℕ → Seen
seen_after j = seen_in (cut_after j change_list before)

-- while slot 7 is disabled: slot 8 opens, and the change once more reaches the uncut image
unfoldable pub second_disabled : Seen
second_disabled = record { header = 0; other = 0; old = 0; new = 15; again = 0; reached = true; finish = 0; finished = false }

-- once it is enabled: it opens, and the revoke finishes the change; the open of slot 8 gives r
unfoldable pub second_enabled : ℕ → Seen
second_enabled r = record { header = 0; other = 0; old = r; new = 0; again = 15; reached = false; finish = 0; finished = true }

-- the uncut image: the change and the revoke are refused with 15
unfoldable pub all_done : Seen
all_done = record { header = 0; other = 0; old = 15; new = 0; again = 15; reached = true; finish = 15; finished = true }

-- ---- the statements, computed with no use of the theorem

-- the change, and its list: area 7, sectors 1 and 0, area 8, sectors 1 and 0, 516 bytes each
pub record ChangeComputed : Type 0 where
  pub formatted : (format small_table long_input long_image).code ≡ 0
  pub accepted : changed.said.code ≡ 0
  pub numbers : map (λ w. w.0) change_list ≡ 56 ∷ 57 ∷ 1 ∷ 0 ∷ 64 ∷ 65 ∷ 1 ∷ 0 ∷ []
  pub size : length (encoded change_list) ≡ 4128

-- cuts in the add of slot 7
pub record AddCuts : Type 0 where
  -- after 0 to 3 writes
  pub in_order : map seen_after (0 ∷ 1 ∷ 2 ∷ 3 ∷ [])
      ≡ second_disabled
      ∷ second_disabled
      ∷ second_disabled
      ∷ second_disabled  -- slot 7 has 24 bytes of its new salt
      ∷ []
  -- no cut of the list: the second sector of area 7 is written and the first is not
  pub out_of_order : seen_in (stage_at (facts_of small_table before) 7 between before (in_area (false ∷ true ∷ []))) ≡ second_disabled

-- cuts in the revoke of slot 8
pub record RevokeCuts : Type 0 where
  -- after 4 to 8 writes
  pub in_order : map seen_after (4 ∷ 5 ∷ 6 ∷ 7 ∷ 8 ∷ [])
      ≡ second_enabled 0  -- both slots open
      ∷ second_enabled 17  -- area 8 has some of the filler,
      ∷ second_enabled 17  -- or all
      ∷ all_done  -- slot 8 is disabled by sector 1
      ∷ all_done
      ∷ []
  -- no cut of the list: the second sector of area 8 is written and the first is not
  pub out_of_order : seen_in (stage_at (facts_of small_table before) 8 changed.image between (in_area (false ∷ true ∷ []))) ≡ second_enabled 17

-- ---- and what the theorem says: its hypotheses are met

pub record CutExampleHolds : Type 0 where
  pub safe : CutSafe small_table before (last_ledger small_table long_input long_image long_calls) long_change
