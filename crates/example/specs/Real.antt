-- Two drives of the built suite (profile 1: aes, xts-plain64, sha1), one as format makes it and one with the start of before Wish 4, and what demand 3
-- says of both. Nothing here is derived or enciphered by the checker.
use Rattle.std.specs.Prelude.{◌≡◌, List, [], ◌∷◌, ◌++◌, ℕ, ◌*◌, length}
use Rattle.octets.specs.Octets.{zeros, padded}
use Rattle.rules.specs.Profiles.{aligned}
use Rattle.rules.specs.Facts.{SlotInput, slot_input}
use Rattle.rules.specs.Calls.{Call, add, change, revoke, open_slot, read, write, Answer}
use Rattle.rules.specs.Step.{Run, step, run}
use Rattle.rules.specs.Format.{FormatInput, payload_start_of, format}
use Rattle.profiles.specs.Suites.{alignment, built}
use Rattle.ledger.specs.Ledger.{Ledger, empty, live, ledger_image}
use Rattle.ledger.specs.Demand3.{FormatTyped, AllTyped, entry_of, SomeLive, last_ledger}
use Rattle.example.specs.Example.{bytes, one, two, three, slot_buffer, change_buffer, no_open, said}

-- ---- arguments

-- the master key, 32 bytes
unfoldable pub real_key : List ℕ
real_key =
    0x27 ∷ 0x18 ∷ 0x28 ∷ 0x18 ∷ 0x28 ∷ 0x45 ∷ 0x90 ∷ 0x45 ∷ 0x23 ∷ 0x53 ∷ 0x60 ∷ 0x28 ∷ 0x74 ∷ 0x71 ∷ 0x35 ∷ 0x26
    ∷ 0x31 ∷ 0x41 ∷ 0x59 ∷ 0x26 ∷ 0x53 ∷ 0x58 ∷ 0x97 ∷ 0x93 ∷ 0x23 ∷ 0x84 ∷ 0x62 ∷ 0x64 ∷ 0x33 ∷ 0x83 ∷ 0x27 ∷ 0x95 ∷ []

-- profile k, two stripes, count 1,000, UUID "0123abcd-0123-4abc-8abc-0123456789ab"
abbrev pub input_of : ℕ → List ℕ → FormatInput
input_of k key =
    record {
      profile = k;
      stripes = 2;
      key = key;
      salt = bytes 32 0x5A;
      count = 1000;
      uuid =
          0x30 ∷ 0x31 ∷ 0x32 ∷ 0x33 ∷ 0x61 ∷ 0x62 ∷ 0x63 ∷ 0x64 ∷ 0x2D ∷ 0x30 ∷ 0x31 ∷ 0x32 ∷ 0x33 ∷ 0x2D ∷ 0x34 ∷ 0x61 ∷ 0x62 ∷ 0x63
          ∷ 0x2D ∷ 0x38 ∷ 0x61 ∷ 0x62 ∷ 0x63 ∷ 0x2D ∷ 0x30 ∷ 0x31 ∷ 0x32 ∷ 0x33 ∷ 0x34 ∷ 0x35 ∷ 0x36 ∷ 0x37 ∷ 0x38 ∷ 0x39 ∷ 0x61 ∷ 0x62 ∷ [];
    }

-- profile 1
unfoldable pub real_input : FormatInput
real_input = input_of 1 real_key

-- 2,050 sectors: 2,048 before the payload, and two of it
unfoldable pub real_image : List ℕ
real_image = zeros (2050 * 512)

-- 67 sectors: 65 before the payload of an old drive, and two of it
unfoldable pub old_image : List ℕ
old_image = zeros (67 * 512)

-- what makes slot 1 live
unfoldable pub slot_one : SlotInput
slot_one = slot_input one (bytes 32 0xC3) 2000 (bytes 32 0x77)

-- what makes slot 2 live
unfoldable pub slot_two : SlotInput
slot_two = slot_input two (bytes 32 0x3C) 1000 (bytes 32 0x88)

-- what makes slot 3 live
unfoldable pub slot_three : SlotInput
slot_three = slot_input three (bytes 32 0x96) 1500 (bytes 32 0x99)

-- the filler of the revoke and of the change, 64 bytes
unfoldable pub filler : List ℕ
filler = bytes 64 0x0F

-- ---- the calls and their answers

-- the list: seven accepted calls, among them an add beside a live slot, a revoke and a change, and three refused ones
unfoldable pub real_calls : List Call
real_calls =
    add 1 real_key slot_one slot_buffer
    ∷ open_slot 1 one
    ∷ write real_key 1 1 (bytes 512 0x2A)
    ∷ read real_key 1 1 (zeros 512)
    ∷ add 1 real_key slot_one slot_buffer  -- the slot is enabled
    ∷ revoke 1 filler slot_buffer  -- no other slot is
    ∷ add 2 real_key slot_two slot_buffer
    ∷ revoke 1 filler slot_buffer
    ∷ open_slot 1 one  -- revoked
    ∷ change 2 two 3 slot_three filler change_buffer
    ∷ []

-- slot k opened: the 32 key bytes, and zeros to 64
unfoldable pub real_opened : ℕ → Answer
real_opened k = record { code = 0; slot = k; key_length = 32; key = padded 64 real_key; bytes = [] }

-- what they answer, in order
unfoldable pub real_answers : List Answer
real_answers =
    said 0 [] ∷ real_opened 1 ∷ said 0 [] ∷ said 0 (bytes 512 0x2A) ∷ said 15 [] ∷ said 18 [] ∷ said 0 [] ∷ said 0 [] ∷ no_open 15 ∷ said 0 [] ∷ []

-- ---- the statement

-- format with alignment A, then the list by the calls of the built table
module _ (A : ℕ) (image : List ℕ) where
  -- what they answer, and the image that they leave
  abbrev pub real_run : Run
  real_run = run built (format (aligned built A) real_input image).image real_calls

  -- the ledger after the list
  abbrev pub real_ledger : Ledger
  real_ledger = last_ledger (aligned built A) real_input image real_calls

-- the theorem's hypotheses are met, and what it says then
pub record RealDrive (A : ℕ) (image : List ℕ) : Type 0 where
  pub input_typed : FormatTyped real_input
  pub calls_typed : AllTyped real_calls
  pub accepted : (format (aligned built A) real_input image).code ≡ 0
  pub answers_are : (real_run A image).answers ≡ real_answers
  pub image_is : (real_run A image).image ≡ ledger_image (aligned built A) (real_ledger A image)
  -- slots 1 and 2 are empty, with the filler of the revoke and of the change
  pub slot_1 : entry_of (real_ledger A image) 1 ≡ empty filler
  pub slot_2 : entry_of (real_ledger A image) 2 ≡ empty filler
  -- slot 3 is live with the key that the change took from slot 2, and opens with it after the list
  pub slot_3 : entry_of (real_ledger A image) 3 ≡ live real_key slot_three
  pub opens_3 : (step built (real_run A image).image (open_slot 3 three)).said ≡ real_opened 3
  -- the unit that was written reads back after the list
  pub reads_1 : (buffer : List ℕ) → length buffer ≡ 512 → (step built (real_run A image).image (read real_key 1 1 buffer)).said ≡ said 0 (bytes 512 0x2A)
  pub some_live : SomeLive (real_ledger A image)

-- both drives: where their payloads stand, and the list on each; the old image is too short for format now
pub record BothDrives : Type 0 where
  pub new_start : payload_start_of built real_input ≡ 2048
  pub new_drive : RealDrive alignment real_image
  pub old_start : payload_start_of (aligned built 1) real_input ≡ 65
  pub old_drive : RealDrive 1 old_image
  pub old_short : (format built real_input old_image).code ≡ 12

-- ---- the other profiles

-- a key of 64 bytes
unfoldable pub long_key : List ℕ
long_key = real_key ++ real_key

-- format accepts a drive of each built profile, so that demand 3 speaks of drives of each
pub record EachFormats : Type 0 where
  pub accepted_1 : (format built (input_of 1 real_key) real_image).code ≡ 0
  pub accepted_2 : (format built (input_of 2 long_key) real_image).code ≡ 0
  pub accepted_3 : (format built (input_of 3 real_key) real_image).code ≡ 0
  pub accepted_4 : (format built (input_of 4 long_key) real_image).code ≡ 0
