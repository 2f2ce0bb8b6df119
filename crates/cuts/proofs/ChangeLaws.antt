-- Wish 5 of 02 for a good ledger's drive, and a change whose checks pass on it.
use mathlib.Core.Path.{◌≡◌, refl, sym, ap, ap₂, subst, ◌∙◌}
use mathlib.Core.Logic.{◌≢◌, ◌⊎◌, inl, inr}
use mathlib.Core.List.{List, ◌++◌}
use mathlib.Core.Bool.{true, false, not}
use Prim.Native.Nat.{ℕ, ◌-◌, ◌*◌, ◌≤◌}
use native.Mathlib.Omega.{arith}
use lib.ListN.{length}
use lib.Seq.{get_or-set_other}
use borrow.Author.Tests.{not-true}
use Rattle.octets.proofs.BoolLaws.{and_split, no}
use Rattle.rules.specs.Profiles.{Table}
use Rattle.rules.specs.Facts.{Facts, SlotInput, is_enabled, slot_of, candidate, facts_of}
use Rattle.rules.specs.Sectors.{entry_bytes, slot_count, slot_list}
use Rattle.rules.specs.Calls.{Call, change, revoke, open_slot, slot_number_ok, passphrase_ok, early_checks, late_checks, checks, answer, opened}
use Rattle.rules.specs.Step.{step, written, disable_writes}
use Rattle.rules.specs.Lists.{enabled_image, disabled_image, list_of}
use Rattle.rules.specs.Format.{key_bytes_of}
use Rattle.rules.proofs.ChecksLaws.{Pass}
use Rattle.rules.proofs.ArgumentLaws.{number_in}
use Rattle.ledger.specs.Drive.{SlotContent, Drive, drive_image, drive_facts}
use Rattle.ledger.specs.Ledger.{Ledger, empty, live, ledger_drive, set_slot, ledger_after, enter}
use Rattle.ledger.specs.Demand3.{Typed, no_entry, entry_of}
use Rattle.ledger.proofs.DriveLaws.{GoodDrive, GoodContent, content_at, content_ok}
use Rattle.ledger.proofs.ReadingLaws.{facts-read, start-at}
use Rattle.ledger.proofs.WritingLaws.{set_content}
use Rattle.ledger.proofs.LedgerLaws.{GoodLedger, GoodSlot, content_in, drive_good, entry-good, slot-good}
use Rattle.cuts.specs.Cuts.{carried_out}
use Rattle.cuts.specs.CutSafe.{StageImage, gives, Reaches, AtCut}
use Rattle.cuts.proofs.CarryLaws.{carried-append}
use Rattle.cuts.proofs.RoomLaws.{set_back}
use Rattle.cuts.proofs.StageLaws.{stage-full, at_each}
use Rattle.cuts.proofs.PrefixLaws.{two_prefix}
use Rattle.cuts.proofs.AgainLaws.{header_ok, drive_accepted, count_at, put-good, other-slot, same_count, same-state, open_same}
use Rattle.cuts.proofs.ReachLaws.{reaches_list, between_is, after_is, change_reaches, new-enabled, finish_reaches}
use Rattle.cuts.proofs.OneSlotLaws.{Safe, drive_set, entry_is, not_live, opens-live, content_in_lem, after-good, ledger-after, not-disabled}

module _ (table : Table) (l : Ledger) (g : GoodLedger table l) where
  -- the ledger's drive
  abbrev d : Drive
  d = ledger_drive table l

  -- it is good
  abbrev gd : GoodDrive table d
  gd = drive_good table l g

  -- its image
  abbrev image : List ℕ
  image = drive_image table d

  -- its facts
  abbrev f : Facts
  f = drive_facts table d

  -- good contents of the drive
  abbrev Good : SlotContent → Type 0
  Good c = GoodContent l.input.stripes (key_bytes_of table l.input) c

  module _ (k : ℕ) (passphrase : List ℕ) (to : ℕ) (x : SlotInput) (filler list : List ℕ) (t : Typed (change k passphrase to x filler list))
      (c : Pass (checks f (change k passphrase to x filler list))) where
    -- the call
    abbrev call : Call
    call = change k passphrase to x filler list

    -- the key that it carries over
    abbrev key : List ℕ
    key = candidate f k passphrase

    first_slot : (1 ≤ k) × (k ≤ 8)
    unfolding checks early_checks
    first_slot = number_in k (and_split (slot_number_ok k) (slot_number_ok to) c.0).0

    second-slot : (1 ≤ to) × (to ≤ 8)
    unfolding checks early_checks
    second-slot = number_in to (and_split (slot_number_ok k) (slot_number_ok to) c.0).1

    first-enabled : is_enabled (slot_of f k) ≡ true
    unfolding checks early_checks
    first-enabled = (and_split (is_enabled (slot_of f k)) (not (is_enabled (slot_of f to))) c.1.0).0

    second-disabled : is_enabled (slot_of f to) ≡ false
    unfolding checks early_checks
    second-disabled = not-true _ (and_split (is_enabled (slot_of f k)) (not (is_enabled (slot_of f to))) c.1.0).1

    apart : k ≢ to
    apart q = no (sym second-disabled ∙ ap (λ (y : ℕ). is_enabled (slot_of f y)) (sym q) ∙ first-enabled)

    -- the ledger between the add and the revoke
    abbrev lb : Ledger
    lb = set_slot l to (live key x)

    lb-entry : entry_of lb to ≡ live key x
    lb-entry = entry_is l to (live key x) (let h = second-slot in omega (arith, g.eight))

    end-good : GoodLedger table (set_slot lb k (empty filler))
    unfolding ledger_after
    end-good = after-good table l g call t c

    end-entry : entry_of (set_slot lb k (empty filler)) to ≡ live key x
    unfolding set_slot
    end-entry =
        let h = second-slot in
        let i = first_slot in
        get_or-set_other lb.slot_entries (k - 1) (to - 1) (empty filler) no_entry (λ e. apart (omega arith)) ∙ lb-entry

    lb-good : GoodLedger table lb
    unfolding set_slot
    lb-good =
        slot-good table l g to (live key x)
        (subst (GoodSlot table l.input) end-entry (entry-good table (set_slot lb k (empty filler)) end-good (to - 1) (let h = second-slot in omega arith)))

    -- the second slot's content afterwards
    abbrev fresh : SlotContent
    fresh = content_in table l.input (live key x)

    -- and the first one's
    abbrev void : SlotContent
    void = content_in table l.input (empty filler)

    fresh_ok : Good fresh
    fresh_ok = content_in_lem table l g to second-slot.0 second-slot.1 (live key x) lb-good

    void-ok : Good void
    unfolding set_slot
    void-ok = content_in_lem table lb lb-good k first_slot.0 first_slot.1 (empty filler) end-good

    -- the drive between
    abbrev mid : Drive
    mid = set_content d to fresh

    -- and after
    abbrev end : Drive
    end = set_content mid k void

    mid-good : GoodDrive table mid
    unfolding ledger_drive
    mid-good = put-good table d gd to second-slot.0 second-slot.1 fresh fresh_ok

    first-written : enabled_image f to key x image ≡ drive_image table mid
    unfolding ledger_drive
    first-written = between_is table d gd k to first_slot.0 first_slot.1 second-slot.0 second-slot.1 apart passphrase x filler list c fresh_ok void-ok

    pub second_written : disabled_image f k filler (enabled_image f to key x image) ≡ drive_image table end
    unfolding ledger_drive
    second_written =
        ap (written (disable_writes f k filler)) first-written
        ∙ after_is table d gd k to first_slot.0 first_slot.1 second-slot.0 second-slot.1 apart passphrase x filler list c fresh_ok void-ok

    -- the slot changed to is enabled from then on
    mid-enabled : is_enabled (slot_of (drive_facts table mid) to) ≡ true
    unfolding ledger_drive
    mid-enabled = new-enabled table d gd k to first_slot.0 first_slot.1 second-slot.0 second-slot.1 apart passphrase x filler list c fresh_ok void-ok

    -- a slot that is live after the call is not the first
    not_first : (j : ℕ) (key' : List ℕ) (x' : SlotInput) → entry_of (enter table l call).ledger j ≡ live key' x' → j ≢ k
    unfolding ledger_after
    not_first j key' x' e q =
        not_live lb k filler (let h = first_slot in omega (arith, lb-good.eight)) key' x'
        (ap₂ (λ (m : Ledger) (y : ℕ). entry_of m y) (sym (ledger-after table l g call c)) (sym q) ∙ e)

    first-opens : (step table image (open_slot k passphrase)).said ≡ gives f k key
    unfolding checks early_checks late_checks answer opened
    first-opens =
        ap (λ s. s.said) (drive_accepted table d gd (open_slot k passphrase) (
          (and_split (slot_number_ok k) (slot_number_ok to) c.0).0,
          ((and_split (passphrase_ok passphrase) (passphrase_ok x.passphrase) c.1.1.0).0, (first-enabled, (c.1.1.1.1.1.1.0, tt))),
        ))

    second-opens : (step table (drive_image table mid) (open_slot to x.passphrase)).said ≡ gives f to key
    unfolding drive_facts ledger_drive set_slot
    second-opens =
        ap (λ y. (step table (drive_image table y) (open_slot to x.passphrase)).said) (drive_set table l to (live key x))
        ∙ opens-live table lb lb-good to second-slot.0 second-slot.1 key x lb-entry

    -- ---- a cut in the add

    module _ (b : SlotContent) (okb : Good b) (w : (b ≡ fresh) ⊎ (b.state ≡ (content_at d (to - 1)).state)) where
      -- the image there
      abbrev z₁ : List ℕ
      z₁ = drive_image table (set_content d to b)

      z₁-facts : facts_of table z₁ ≡ drive_facts table (set_content d to b)
      unfolding ledger_drive
      z₁-facts = facts-read table (set_content d to b) (put-good table d gd to second-slot.0 second-slot.1 b okb)

      -- the slot is enabled where its content is the new one, and else disabled
      z₁-on : b ≡ fresh → is_enabled (slot_of (facts_of table z₁) to) ≡ true
      z₁-on e = ap (λ (y : Facts). is_enabled (slot_of y to)) z₁-facts ∙ ap (λ (y : SlotContent). is_enabled (slot_of (drive_facts table (set_content d to y)) to)) e ∙ mid-enabled

      z₁-off : b.state ≡ (content_at d (to - 1)).state → is_enabled (slot_of (facts_of table z₁) to) ≡ false
      unfolding ledger_drive
      z₁-off e = ap (λ (y : Facts). is_enabled (slot_of y to)) z₁-facts ∙ same-state table d gd to second-slot.0 second-slot.1 b okb e ∙ second-disabled

      first-once : (b ≡ fresh) ⊎ (b.state ≡ (content_at d (to - 1)).state) → is_enabled (slot_of (facts_of table z₁) to) ≡ false → Reaches table z₁ call (drive_image table end)
      unfolding ledger_drive
      first-once (inl e) off = no (sym off ∙ z₁-on e)
      first-once (inr e) off =
          change_reaches table d gd k to first_slot.0 first_slot.1 second-slot.0 second-slot.1 apart passphrase x filler list c fresh_ok void-ok b okb e

      -- the first slot's list has as many writes as before
      z₁-count : slot_count (facts_of table z₁) k ≡ slot_count f k
      unfolding ledger_drive
      z₁-count = ap (λ (y : Facts). slot_count y k) z₁-facts ∙ same_count table d gd to second-slot.0 second-slot.1 b okb k first_slot.0 first_slot.1

      first-finish : (b ≡ fresh) ⊎ (b.state ≡ (content_at d (to - 1)).state) → is_enabled (slot_of (facts_of table z₁) to) ≡ true
          → (list' : List ℕ) → length list' ≡ slot_count (facts_of table z₁) k * entry_bytes → Reaches table z₁ (revoke k filler list') (drive_image table end)
      unfolding ledger_drive set_content
      first-finish (inl e) on list' h =
          subst (λ (y : Drive). Reaches table (drive_image table y) (revoke k filler list') (drive_image table end)) (set_back mid k ∙ ap (λ (y : SlotContent). set_content d to y) (sym e))
          (finish_reaches table d gd k to first_slot.0 first_slot.1 second-slot.0 second-slot.1 apart passphrase x filler list c fresh_ok void-ok
          (content_at mid (k - 1)) (content_ok table mid mid-good (k - 1) (let h = first_slot in omega arith)) (inr refl) list' (h ∙ ap (λ (n : ℕ). n * entry_bytes) z₁-count))
      first-finish (inr e) on list' h = no (sym (z₁-off e) ∙ on)

      first-at : AtCut table f l call (drive_image table end) z₁
      unfolding ledger_drive
      first-at =
          record {
            header = header_ok table (set_content d to b) (put-good table d gd to second-slot.0 second-slot.1 b okb);
            live_opens = λ j h i key' x' e e'.
                open_same table d gd to second-slot.0 second-slot.1 b okb j h i (not-disabled table l g to second-disabled j h i key' x' e) x'.passphrase
                ∙ opens-live table l g j h i key' x' e;
            old_or_new = inl (open_same table d gd to second-slot.0 second-slot.1 b okb k first_slot.0 first_slot.1 apart passphrase ∙ first-opens);
            once_more = λ off list' h. reaches_list table z₁ call list' h (drive_image table end) (first-once w off);
            finished = first-finish w;
          }

    -- ---- a cut in the revoke

    module _ (b : SlotContent) (okb : Good b) (w : (b ≡ void) ⊎ (b.state ≡ (content_at mid (k - 1)).state)) where
      -- the image there
      abbrev z₂ : List ℕ
      z₂ = drive_image table (set_content mid k b)

      z₂-enabled : is_enabled (slot_of (facts_of table z₂) to) ≡ true
      unfolding ledger_drive set_content
      z₂-enabled =
          ap (λ (y : Facts). is_enabled (slot_of y to)) (facts-read table (set_content mid k b) (put-good table mid mid-good k first_slot.0 first_slot.1 b okb))
          ∙ ap is_enabled (other-slot table mid mid-good k first_slot.0 first_slot.1 b okb to second-slot.0 second-slot.1 (λ q. apart (sym q)))
          ∙ mid-enabled

      z₂-count : slot_count (facts_of table z₂) k ≡ slot_count f k
      unfolding ledger_drive set_content
      z₂-count =
          ap (λ (y : Facts). slot_count y k) (facts-read table (set_content mid k b) (put-good table mid mid-good k first_slot.0 first_slot.1 b okb))
          ∙ same_count table mid mid-good k first_slot.0 first_slot.1 b okb k first_slot.0 first_slot.1
          ∙ same_count table d gd to second-slot.0 second-slot.1 fresh fresh_ok k first_slot.0 first_slot.1

      second_at : AtCut table f l call (drive_image table end) z₂
      unfolding ledger_drive set_content
      second_at =
          record {
            header = header_ok table (set_content mid k b) (put-good table mid mid-good k first_slot.0 first_slot.1 b okb);
            live_opens = λ j h i key' x' e e'.
                open_same table mid mid-good k first_slot.0 first_slot.1 b okb j h i (not_first j key' x' e') x'.passphrase
                ∙ open_same table d gd to second-slot.0 second-slot.1 fresh fresh_ok j h i (not-disabled table l g to second-disabled j h i key' x' e) x'.passphrase
                ∙ opens-live table l g j h i key' x' e;
            old_or_new = inr
                (open_same table mid mid-good k first_slot.0 first_slot.1 b okb to second-slot.0 second-slot.1 (λ q. apart (sym q)) x.passphrase ∙ second-opens);
            once_more = λ off list' h. no (sym off ∙ z₂-enabled);
            finished = λ on list' h.
                finish_reaches table d gd k to first_slot.0 first_slot.1 second-slot.0 second-slot.1 apart passphrase x filler list c fresh_ok void-ok b okb w list'
                (h ∙ ap (λ (n : ℕ). n * entry_bytes) z₂-count);
          }

    -- ---- the change's list

    first-full : carried_out (slot_list f to (drive_image table mid)) image ≡ drive_image table mid
    unfolding ledger_drive
    first-full =
        stage-full table d gd to second-slot.0 second-slot.1 fresh fresh_ok f
        (start-at table d gd to second-slot.0 second-slot.1) (count_at table d gd to second-slot.0 second-slot.1)

    second-full : carried_out (slot_list f k (drive_image table end)) (drive_image table mid) ≡ drive_image table end
    unfolding ledger_drive set_content
    second-full =
        stage-full table mid mid-good k first_slot.0 first_slot.1 void void-ok f
        (start-at table d gd k first_slot.0 first_slot.1) (count_at table d gd k first_slot.0 first_slot.1)

    -- the image between, as the call writes it
    abbrev between : List ℕ
    between = enabled_image f to key x image

    -- and after
    abbrev after : List ℕ
    after = disabled_image f k filler between

    change-full : carried_out (slot_list f to between ++ slot_list f k after) image ≡ drive_image table end
    change-full =
        ap₂ (λ (u v : List ℕ). carried_out (slot_list f to u ++ slot_list f k v) image) first-written second_written
        ∙ carried-append (slot_list f to (drive_image table mid)) (slot_list f k (drive_image table end)) image
        ∙ ap (carried_out (slot_list f k (drive_image table end))) first-full
        ∙ second-full

    change-cut : (z : List ℕ) → StageImage f to between image z ⊎ StageImage f k after between z → AtCut table f l call (drive_image table end) z
    unfolding ledger_drive set_content
    change-cut z (inl v) =
        at_each table d gd to second-slot.0 second-slot.1 fresh fresh_ok f
        (start-at table d gd to second-slot.0 second-slot.1) (count_at table d gd to second-slot.0 second-slot.1)
        (AtCut table f l call (drive_image table end)) first-at between z first-written v
    change-cut z (inr v) =
        at_each table mid mid-good k first_slot.0 first_slot.1 void void-ok f
        (start-at table d gd k first_slot.0 first_slot.1) (count_at table d gd k first_slot.0 first_slot.1)
        (AtCut table f l call (drive_image table end)) second_at after z second_written (subst (λ (y : List ℕ). StageImage f k after y z) first-written v)

    pub change-safe : Safe table f image l (change k passphrase to x filler list) (drive_image table end)
    unfolding list_of
    change-safe = (
      change-full,
      change-cut,
      λ j. two_prefix f to k between after image (ap (λ (y : List ℕ). carried_out (slot_list f to y) image) first-written ∙ first-full ∙ sym first-written) j,
    )
