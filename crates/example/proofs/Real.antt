-- The two drives of the built suite under demand 3. No key is derived here: the checksum that add and write ask for is that of format's own key,
-- and a live slot's candidate is its key by the laws of a suite.
use mathlib.Core.Path.{◌≡◌, refl, sym, ap, subst, ◌∙◌}
use mathlib.Core.List.{List, [], ◌∷◌, flatten}
use mathlib.Core.Bool.{true}
use Prim.Native.Nat.{ℕ, ◌*◌, ◌^◌, ◌≤◌, ◌<◌}
use native.Mathlib.Omega.{arith}
use lib.ListN.{length, drop, replicate}
use Rattle.octets.specs.Octets.{zeros}
use Rattle.octets.specs.Splice.{splice}
use Rattle.octets.proofs.OctetsLaws.{length-zeros, drop-zeros, same_refl}
use Rattle.rules.specs.Checks.{first}
use Rattle.rules.specs.Profiles.{Table, aligned, profile_at, known}
use Rattle.rules.specs.Lawful.{LawfulTable}
use Rattle.rules.specs.Layout.{area_sectors, round_up, area_start, areas_end, payload_start}
use Rattle.rules.specs.Facts.{is_enabled, no_slot, slot_of, matches, candidate}
use Rattle.rules.specs.Sectors.{area_count, slot_count}
use Rattle.rules.specs.Header.{size_ok}
use Rattle.rules.specs.Calls.{Call, add, change, revoke, open_slot, read, write, slot_number_ok, passphrase_ok, key_ok, count_ok, random_ok, filler_ok, list_ok}
use Rattle.rules.specs.Calls.{any_enabled, other_enabled, range_checks, early_checks, late_checks, checks, done, answer, no_key_bytes, refused}
use Rattle.rules.specs.Step.{After, step, run}
use Rattle.rules.specs.Format.{printable, format_checks, settle_format, format}
use Rattle.rules.proofs.ChecksLaws.{Pass}
use Rattle.rules.proofs.AlignedLaws.{step-aligned, run-aligned, aligned-lawful}
use Rattle.profiles.specs.Rows.{aes_xts_row, rows}
use Rattle.profiles.specs.Suites.{alignment, built}
use Rattle.profiles.proofs.Lawful.{built-lawful}
use Rattle.ledger.specs.Drive.{map_from, content_facts, drive_facts}
use Rattle.ledger.specs.Ledger.{Ledger, empty, live, at_format, last_writing, state_of, sector_of, content_of, ledger_drive, ledger_facts, set_slot, set_sectors, writings, ledger_after}
use Rattle.ledger.specs.Ledger.{enter_all, sectors_in, start_ledger}
use Rattle.ledger.specs.Demand3.{FormatTyped, AllTyped, Demand3, answers_given, entry_of, sector_entry_of, is_add, add_accepted}
use Rattle.ledger.proofs.LedgerLaws.{GoodLedger}
use Rattle.ledger.proofs.StartLaws.{start-good}
use Rattle.ledger.proofs.AnswerLaws.{entered, live-candidate, live-answer, written-answer}
use Rattle.ledger.proofs.General.{demand_3}
use Rattle.example.specs.Example.{bytes, one, two, three, slot_buffer, change_buffer, no_open, said}
use Rattle.example.specs.Real.{real_key, real_input, real_image, old_image, slot_one, slot_two, slot_three, filler, real_calls, real_opened, real_answers, real_run, real_ledger}
use Rattle.example.specs.Real.{RealDrive, BothDrives, long_key, EachFormats}
use Rattle.example.proofs.TypedLaws.{format-typed, calls_typed}
use Rattle.example.proofs.EnterAllLaws.{Enters, enter-kept, enter-refused, enter-good, enter_all-nil, enter_all-cons}

-- ---- the hypotheses

input_typed : FormatTyped real_input
unfolding real_input bytes
input_typed = format-typed real_input refl

typed : AllTyped real_calls
unfolding bytes zeros real_key slot_one slot_two slot_three real_calls
typed = calls_typed real_calls refl

-- ---- the calls

-- slot 1 added
abbrev adding : Call
adding = add 1 real_key slot_one slot_buffer

-- and opened
abbrev opening : Call
opening = open_slot 1 one

-- unit 1 written
abbrev writing : Call
writing = write real_key 1 1 (bytes 512 0x2A)

-- and read
abbrev reading : Call
reading = read real_key 1 1 (zeros 512)

-- slot 1 revoked
abbrev revoking : Call
revoking = revoke 1 filler slot_buffer

-- slot 2 added
abbrev adding_two : Call
adding_two = add 2 real_key slot_two slot_buffer

-- and changed to slot 3
abbrev changing : Call
changing = change 2 two 3 slot_three filler change_buffer

-- ---- the ledgers

-- after format
abbrev l₀ : Ledger
l₀ =
    record {
      input = real_input;
      slot_entries = replicate 8 (empty (zeros 64));
      sector_entries = at_format (zeros 512) ∷ at_format (zeros 512) ∷ [];
    }

-- after the add
abbrev l₁ : Ledger
l₁ = set_slot l₀ 1 (live real_key slot_one)

-- after the write
abbrev l₂ : Ledger
l₂ = set_sectors l₁ (splice l₁.sector_entries 1 (writings real_key 1 (bytes 512 0x2A)))

-- after the second add
abbrev l₃ : Ledger
l₃ = set_slot l₂ 2 (live real_key slot_two)

-- after the revoke
abbrev l₄ : Ledger
l₄ = set_slot l₃ 1 (empty filler)

-- after the change
abbrev l₅ : Ledger
l₅ = set_slot (set_slot l₄ 3 (live real_key slot_three)) 2 (empty filler)

-- ---- what is computed

-- the ledger's own key has its checksum, whatever the suite
own_key : (table : Table) (l : Ledger) → matches (ledger_facts table l) l.input.key ≡ true
unfolding matches ledger_facts ledger_drive drive_facts
own_key table l = same_refl _

-- what the ledgers hold
record Held : Type 0 where
  one_live : entry_of l₁ 1 ≡ live real_key slot_one
  two_live : entry_of l₄ 2 ≡ live real_key slot_two
  one_empty : entry_of l₅ 1 ≡ empty filler
  two_empty : entry_of l₅ 2 ≡ empty filler
  three_live : entry_of l₅ 3 ≡ live real_key slot_three
  unit_1 : sector_entry_of l₂ 1 ≡ last_writing real_key (bytes 512 0x2A)
  unit_1_still : sector_entry_of l₅ 1 ≡ last_writing real_key (bytes 512 0x2A)

held : Held
unfolding splice set_slot set_sectors writings bytes
held = record { one_live = refl; two_live = refl; one_empty = refl; two_empty = refl; three_live = refl; unit_1 = refl; unit_1_still = refl }

-- ---- the list on a drive that format laid out with alignment A

module _ (A : ℕ) (least : 1 ≤ A) (most : A < 2 ^ 32) (image : List ℕ) (yes' : (format (aligned built A) real_input image).code ≡ 0)
    (starts : start_ledger (aligned built A) real_input image ≡ l₀) where
  -- the table that format went by
  abbrev table : Table
  table = aligned built A

  lawful : LawfulTable table
  lawful = aligned-lawful built A built-lawful least most

  -- the checks of each call, on the ledger before it
  record Checked : Type 0 where
    add-passes : Pass (checks (ledger_facts table l₀) adding)
    write-passes : Pass (checks (ledger_facts table l₁) writing)
    add-again : first (checks (ledger_facts table l₂) adding) ≡ 15
    revoke-only : first (checks (ledger_facts table l₂) revoking) ≡ 18
    add-two-passes : Pass (checks (ledger_facts table l₂) adding_two)
    revoke-passes : Pass (checks (ledger_facts table l₃) revoking)
    open-revoked : first (checks (ledger_facts table l₄) opening) ≡ 15
    change-passes : candidate (ledger_facts table l₄) 2 two ≡ real_key → Pass (checks (ledger_facts table l₄) changing)

  checked : Checked
  unfolding first checks early_checks late_checks range_checks slot_number_ok is_enabled slot_of no_slot key_ok passphrase_ok count_ok random_ok filler_ok list_ok area_count slot_count any_enabled other_enabled
      flatten zeros splice profile_at aes_xts_row rows area_sectors round_up area_start areas_end payload_start ledger_facts ledger_drive content_of state_of sector_of drive_facts map_from content_facts
      set_slot set_sectors writings bytes one two three slot_buffer change_buffer real_input real_key slot_one slot_two slot_three filler
  checked =
      record {
        add-passes = (refl, (refl, (refl, (refl, (refl, (refl, (refl, (own_key table l₀, tt))))))));
        write-passes = (refl, (refl, (refl, (own_key table l₁, tt))));
        add-again = refl;
        revoke-only = refl;
        add-two-passes = (refl, (refl, (refl, (refl, (refl, (refl, (refl, (own_key table l₂, tt))))))));
        revoke-passes = (refl, (refl, (refl, (refl, (refl, tt)))));
        open-revoked = refl;
        change-passes = λ e. (refl, (refl, (refl, (refl, (refl, (refl, (ap (matches (ledger_facts table l₄)) e ∙ own_key table l₄, tt)))))));
      }

  -- ---- the ledger, call by call

  good₀ : GoodLedger table l₀
  good₀ = subst (GoodLedger table) starts (start-good table lawful real_input input_typed image yes')

  add-said : Enters table l₀ adding (said 0 []) l₁
  unfolding answer done ledger_after said
  add-said = entered table l₀ adding checked.add-passes

  good₁ : GoodLedger table l₁
  unfolding real_calls
  good₁ = enter-good table l₀ adding _ l₁ add-said good₀ typed.0

  open_said : Enters table l₁ opening (real_opened 1) l₁
  unfolding ledger_after profile_at aes_xts_row rows set_slot real_input slot_one real_opened
  open_said = enter-kept table l₁ opening _ refl (live-answer table l₁ good₁ 1 (omega arith) (omega arith) real_key slot_one held.one_live)

  write-said : Enters table l₁ writing (said 0 []) l₂
  unfolding answer done ledger_after said
  write-said = entered table l₁ writing checked.write-passes

  good₂ : GoodLedger table l₂
  unfolding real_calls
  good₂ = enter-good table l₁ writing _ l₂ write-said good₁ typed.1.1.0

  read-said : Enters table l₂ reading (said 0 (bytes 512 0x2A)) l₂
  unfolding ledger_after said
  read-said = enter-kept table l₂ reading _ refl (written-answer table l₂ good₂ 1 real_key (bytes 512 0x2A) held.unit_1 (zeros 512) (length-zeros 512))

  add-again-said : Enters table l₂ adding (said 15 []) l₂
  unfolding refused no_key_bytes said
  add-again-said = enter-refused table l₂ adding 15 (omega arith) checked.add-again

  revoke_only_said : Enters table l₂ revoking (said 18 []) l₂
  unfolding refused no_key_bytes said
  revoke_only_said = enter-refused table l₂ revoking 18 (omega arith) checked.revoke-only

  add-two-said : Enters table l₂ adding_two (said 0 []) l₃
  unfolding answer done ledger_after said
  add-two-said = entered table l₂ adding_two checked.add-two-passes

  good₃ : GoodLedger table l₃
  unfolding real_calls
  good₃ = enter-good table l₂ adding_two _ l₃ add-two-said good₂ typed.1.1.1.1.1.1.0

  revoke-said : Enters table l₃ revoking (said 0 []) l₄
  unfolding answer done ledger_after said
  revoke-said = entered table l₃ revoking checked.revoke-passes

  good₄ : GoodLedger table l₄
  good₄ = enter-good table l₃ revoking _ l₄ revoke-said good₃ tt

  open_revoked_said : Enters table l₄ opening (no_open 15) l₄
  unfolding refused no_key_bytes no_open
  open_revoked_said = enter-refused table l₄ opening 15 (omega arith) checked.open-revoked

  -- the key that the change carries
  carried : candidate (ledger_facts table l₄) 2 two ≡ real_key
  unfolding slot_two
  carried = live-candidate table l₄ good₄ 2 (omega arith) (omega arith) real_key slot_two held.two_live

  change-said : Enters table l₄ changing (said 0 []) l₅
  unfolding answer done ledger_after said
  change-said =
      entered table l₄ changing (checked.change-passes carried)
      ∙ (λ i. record { said = said 0 []; ledger = set_slot (set_slot l₄ 3 (live (carried i) slot_three)) 2 (empty filler) })

  ends : enter_all table l₀ real_calls ≡ record { answers = real_answers; ledger = l₅ }
  unfolding real_calls real_answers
  ends =
      enter_all-cons table l₀ adding _ l₁ add-said _ _ l₅
      (enter_all-cons table l₁ opening _ l₁ open_said _ _ l₅
      (enter_all-cons table l₁ writing _ l₂ write-said _ _ l₅
      (enter_all-cons table l₂ reading _ l₂ read-said _ _ l₅
      (enter_all-cons table l₂ adding _ l₂ add-again-said _ _ l₅
      (enter_all-cons table l₂ revoking _ l₂ revoke_only_said _ _ l₅
      (enter_all-cons table l₂ adding_two _ l₃ add-two-said _ _ l₅
      (enter_all-cons table l₃ revoking _ l₄ revoke-said _ _ l₅
      (enter_all-cons table l₄ opening _ l₄ open_revoked_said _ _ l₅
      (enter_all-cons table l₄ changing _ l₅ change-said [] [] l₅ (enter_all-nil table l₅))))))))))

  ends_so : enter_all table (start_ledger table real_input image) real_calls ≡ record { answers = real_answers; ledger = l₅ }
  ends_so = ap (λ l. enter_all table l real_calls) starts ∙ ends

  -- ---- the theorem

  theorem : Demand3 table real_input image real_calls
  theorem = demand_3 table lawful real_input input_typed image yes' real_calls typed

  -- the built table's calls are those of the table with another alignment
  runs : run table (format table real_input image).image real_calls ≡ real_run A image
  runs = run-aligned built A _ real_calls

  end_is : real_ledger A image ≡ l₅
  end_is = ap (λ r. r.ledger) ends_so

  answers : answers_given table real_input image real_calls ≡ real_answers
  answers = theorem.answers_are ∙ ap (λ r. r.answers) ends_so

  three_live : entry_of (real_ledger A image) 3 ≡ live real_key slot_three
  three_live = ap (λ l. entry_of l 3) end_is ∙ held.three_live

  opens_3 : (step built (real_run A image).image (open_slot 3 three)).said ≡ real_opened 3
  unfolding profile_at aes_xts_row rows real_input slot_three real_opened
  opens_3 =
      ap (λ r. (step built r.image (open_slot 3 three)).said) (sym runs) ∙ ap (λ (a : After). a.said) (sym (step-aligned built A _ _))
      ∙ theorem.live_opens 3 (omega arith) (omega arith) real_key slot_three three_live

  reads_1 : (buffer : List ℕ) → length buffer ≡ 512 → (step built (real_run A image).image (read real_key 1 1 buffer)).said ≡ said 0 (bytes 512 0x2A)
  unfolding said
  reads_1 buffer h =
      ap (λ r. (step built r.image (read real_key 1 1 buffer)).said) (sym runs) ∙ ap (λ (a : After). a.said) (sym (step-aligned built A _ _))
      ∙ theorem.written_reads 1 real_key (bytes 512 0x2A) (ap (λ l. sector_entry_of l 1) end_is ∙ held.unit_1_still) buffer h

  some-accepted : add_accepted real_calls real_answers ≡ true
  unfolding add_accepted is_add real_calls real_answers said
  some-accepted = refl

  real_drive : RealDrive A image
  real_drive =
      record {
        input_typed = input_typed;
        calls_typed = typed;
        accepted = yes';
        answers_are = ap (λ r. r.answers) (sym runs) ∙ answers;
        image_is = ap (λ r. r.image) (sym runs) ∙ theorem.image_is;
        slot_1 = ap (λ l. entry_of l 1) end_is ∙ held.one_empty;
        slot_2 = ap (λ l. entry_of l 2) end_is ∙ held.two_empty;
        slot_3 = three_live;
        opens_3 = opens_3;
        reads_1 = reads_1;
        some_live = theorem.some_live (ap (add_accepted real_calls) answers ∙ some-accepted);
      }

-- ---- both drives

-- the image of the new one is never laid out byte by byte: its length is known, and so is what is left of it behind the payload's start
length-image : length real_image ≡ 1049600
unfolding real_image
length-image = length-zeros (2050 * 512)

payload-image : drop 1048576 real_image ≡ zeros 1024
unfolding real_image
payload-image = drop-zeros (2048 * 512) (2050 * 512)

-- format accepts a drive of each built profile
pub each_formats : EachFormats
unfolding first profile_at known aes_xts_row rows area_sectors round_up area_start areas_end payload_start size_ok printable format_checks settle_format format bytes real_key long_key
each_formats = record { accepted_1 = rw length-image; accepted_2 = rw length-image; accepted_3 = rw length-image; accepted_4 = rw length-image }

new-accepted : (format built real_input real_image).code ≡ 0
unfolding real_input
new-accepted = each_formats.accepted_1

new_starts : start_ledger built real_input real_image ≡ l₀
unfolding zeros profile_at aes_xts_row rows area_sectors round_up area_start areas_end payload_start sectors_in start_ledger real_input
new_starts = rw (length-image, payload-image)

old-accepted : (format (aligned built 1) real_input old_image).code ≡ 0
unfolding zeros first profile_at known aes_xts_row rows area_sectors round_up area_start areas_end payload_start size_ok printable format_checks settle_format format bytes real_key
    real_input old_image
old-accepted = refl

old_starts : start_ledger (aligned built 1) real_input old_image ≡ l₀
unfolding zeros profile_at aes_xts_row rows area_sectors round_up area_start areas_end payload_start sectors_in start_ledger real_input old_image
old_starts = refl

pub both_drives : BothDrives
unfolding zeros first profile_at known aes_xts_row rows area_sectors round_up area_start areas_end payload_start size_ok printable format_checks settle_format format bytes real_key
    real_input old_image
both_drives =
    record {
      new_start = refl;
      new_drive = real_drive alignment (omega arith) (omega arith) real_image new-accepted new_starts;
      old_start = refl;
      old_drive = real_drive 1 (omega arith) (omega arith) old_image old-accepted old_starts;
      old_short = refl;
    }
