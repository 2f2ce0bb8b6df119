-- The list of an accepted call, read back and carried out in full, on any image of bytes: also on drives that other tools wrote.
use mathlib.Core.Path.{◌≡◌, refl, sym, ap, ◌∙◌}
use mathlib.Core.List.{List}
use mathlib.Core.Bool.{true}
use Prim.Native.Nat.{ℕ, ◌+◌, ◌-◌, ◌*◌, ◌/◌, ◌%◌, ◌^◌, ◌≤◌, ◌<◌}
use native.Mathlib.Omega.{arith}
use lib.ListN.{length, drop}
use borrow.Author.Tests.{eqb-true}
use Rattle.octets.specs.Octets.{Bytes, Str, zeros, be32_at}
use Rattle.octets.specs.Splice.{part}
use Rattle.octets.proofs.BoolLaws.{and_split, no}
use Rattle.octets.proofs.OctetsLaws.{length-zeros, bytes_take, bytes_drop}
use Rattle.octets.proofs.SpliceLaws.{length_part}
use Rattle.suite.specs.Suite.{LawfulSuite}
use Rattle.rules.specs.Checks.{first}
use Rattle.rules.specs.Profiles.{Table, known}
use Rattle.rules.specs.Lawful.{LawfulTable}
use Rattle.rules.specs.Facts.{Facts, SlotFacts, SlotInput, enabled, disabled, slot_of, slot_at, profile_in, facts_of, key_material, candidate}
use Rattle.rules.specs.Sectors.{sectors_from, encoded, entry_bytes, area_count, area_list, head_list, slot_list}
use Rattle.rules.specs.Header.{header_checks}
use Rattle.rules.specs.Calls.{Call, add, change, revoke, open_slot, open_any, read, write, slot_number_ok, key_ok, random_ok, filler_ok, early_checks, late_checks, checks}
use Rattle.rules.specs.Step.{written, record_head, slot_writes, enable_writes, disable_writes, writes, step}
use Rattle.rules.specs.Lists.{enabled_image, disabled_image, list_of}
use Rattle.rules.proofs.ChecksLaws.{Pass}
use Rattle.rules.proofs.ArgumentLaws.{number_in}
use Rattle.rules.proofs.StepLaws.{written-append, slot_of-image}
use Rattle.rules.proofs.SoundLaws.{SlotSound, header-sound}
use Rattle.rules.proofs.SectorLaws.{sectors-end, sectors-inside}
use Rattle.rules.proofs.FormatLaws.{length-record_head}
use Rattle.rules.proofs.RowLaws.{lawful-row, known_in, key_in}
use Rattle.ledger.specs.Demand3.{SlotTyped, Typed}
use Rattle.ledger.proofs.AllLaws.{All, all_append}
use Rattle.ledger.proofs.AreaLaws.{str_key_material, str_candidate_of}
use Rattle.cuts.specs.Cuts.{carried_out, decoded}
use Rattle.cuts.specs.CutSafe.{gives_list}
use Rattle.cuts.proofs.CarryLaws.{carried-append, length-written, slot-carried}
use Rattle.cuts.proofs.EntryLaws.{Whole, be32_at-most, run-whole, head-whole, read_back}
use Rattle.cuts.proofs.AcceptedLaws.{header-accepted, checks_pass, image-after}

module _ (table : Table) (lawful : LawfulTable table) (image : List ℕ) (bytes : Bytes image) (ok : first (header_checks table image) ≡ 0) where
  -- the image's facts
  abbrev f : Facts
  f = facts_of table image

  -- its key bytes
  abbrev L : ℕ
  L = f.profile.key_bytes

  row-known : known table.rows (profile_in table.rows image) ≡ true
  row-known = known_in table.rows lawful.rows_ok image (header-sound table image ok).found

  blocks : f.profile.key_bytes % 16 ≡ 0
  unfolding facts_of
  blocks = (lawful-row table.rows lawful.rows_ok (profile_in table.rows image) row-known).blocks

  suite_ok : LawfulSuite f.suite f.profile.key_bytes
  unfolding facts_of
  suite_ok = lawful.suites (profile_in table.rows image) row-known

  payload_most : f.payload_at < 2 ^ 32
  unfolding facts_of
  payload_most = be32_at-most image bytes 104

  -- ---- slot k

  module _ (k : ℕ) (h : slot_number_ok k ≡ true) where
    -- its stripes
    abbrev n : ℕ
    n = (slot_of f k).stripes

    sound : SlotSound f k
    sound = (header-sound table image ok).slot k h

    area_is : (slot_of f k).area ≡ part image ((slot_of f k).start * 512) (n * L)
    unfolding slot_at facts_of
    area_is =
        let s = slot_of-image table image k (number_in k h).0 (number_in k h).1 in
        ap (λ (x : SlotFacts). x.area) s
        ∙ sym (ap (λ (x : SlotFacts). part image (x.start * 512) (x.stripes * be32_at image 108)) s)
        ∙ ap (λ (y : ℕ). part image ((slot_of f k).start * 512) (n * y)) (sym (key_in table.rows lawful.rows_ok image (header-sound table image ok).found))

    str-area : Str (n * L) (slot_of f k).area
    unfolding part
    str-area =
        let at = (slot_of f k).start * 512 in
        record {
          len = ap length area_is ∙ length_part image at (n * L) (omega (arith, sound.area_ends, (header-sound table image ok).payload_ends));
          byte = rw area_is (bytes_take (n * L) (drop at image) (bytes_drop at image bytes));
        }

    str_candidate : (passphrase : List ℕ) → Str L (candidate f k passphrase)
    unfolding candidate
    str_candidate passphrase = str_candidate_of f.suite L blocks suite_ok n sound.stripes_least passphrase _ _ _ str-area

    -- an area and a record's head written on an image y of the same length
    module _ (y area : List ℕ) (state count : ℕ) (salt : List ℕ) (e : length y ≡ length image) (a : length area ≡ n * L) (s : length salt ≡ 32) where
      -- the head
      abbrev head : List ℕ
      head = record_head state count salt

      room : ((slot_of f k).start + area_count f k) * 512 ≤ length y
      room = omega (arith, e, sectors-inside table image ok k h)

      fits : length area ≤ area_count f k * 512
      unfolding area_count
      fits = omega (arith, a)

      most : 208 + (k - 1) * 48 + length head ≤ 1024
      most = omega (arith, (number_in k h).1, length-record_head state count salt, s)

      work-carried : carried_out (slot_list f k (written (slot_writes f k area (record_head state count salt)) y)) y ≡ written (slot_writes f k area (record_head state count salt)) y
      work-carried = slot-carried f k y area head sound.start_least room fits most

      length-work : length (written (slot_writes f k area (record_head state count salt)) y) ≡ length y
      length-work = length-written f k y area head sound.start_least room fits most

    -- made live
    module _ (key : List ℕ) (x : SlotInput) (s : Str L key) (t : SlotTyped x) (r : random_ok f k x.random ≡ true) where
      material_is : length (key_material f.suite L n key x) ≡ n * L
      unfolding random_ok
      material_is = (str_key_material f.suite L blocks suite_ok n sound.stripes_least key x (record { len = eqb-true _ _ r; byte = t.random_bytes }) s).len

      enabled-carried : carried_out (slot_list f k (enabled_image f k key x image)) image ≡ enabled_image f k key x image
      unfolding enable_writes
      enabled-carried = work-carried image (key_material f.suite L n key x) enabled x.count x.salt refl material_is t.salt_is

      length-enabled : length (enabled_image f k key x image) ≡ length image
      unfolding enable_writes
      length-enabled = length-work image (key_material f.suite L n key x) enabled x.count x.salt refl material_is t.salt_is

    -- made empty
    disabled-carried : (y filler : List ℕ) → length y ≡ length image → filler_ok f k filler ≡ true → carried_out (slot_list f k (disabled_image f k filler y)) y ≡ disabled_image f k filler y
    unfolding disable_writes filler_ok
    disabled-carried y filler e r = work-carried y filler disabled 0 (zeros 32) e (eqb-true _ _ r) (length-zeros 32)

    length-disabled : (y filler : List ℕ) → length y ≡ length image → filler_ok f k filler ≡ true → length (disabled_image f k filler y) ≡ length image
    unfolding disable_writes filler_ok
    length-disabled y filler e r = length-work y filler disabled 0 (zeros 32) e (eqb-true _ _ r) (length-zeros 32) ∙ e

    -- the entries of its list, with the bytes of an image y of the same length
    slot_whole : (y : List ℕ) → length y ≡ length image → All Whole (slot_list f k y)
    unfolding slot_list area_list
    slot_whole y e =
        all_append Whole (sectors_from y (slot_of f k).start (area_count f k)) (head_list y)
        (run-whole y (slot_of f k).start (area_count f k) (omega (arith, e, sectors-inside table image ok k h)) (omega (arith, sectors-end table image ok k h, payload_most)))
        (head-whole y (omega (arith, e, (header-sound table image ok).size)))

  -- ---- the three calls

  full : (c : Call) → gives_list c ≡ true → Typed c → Pass (checks f c) → carried_out (list_of f c image) image ≡ written (writes f c) image
  unfolding gives_list list_of writes checks early_checks late_checks key_ok
  full (add k key x list) h t c = enabled-carried k c.0 key x (record { len = eqb-true _ _ c.1.1.0; byte = t.0 }) t.1 c.1.1.1.1.1.0
  full (change k passphrase to x filler list) h t c =
      let key = candidate f k passphrase in
      let between = enabled_image f to key x image in
      let numbers = and_split (slot_number_ok k) (slot_number_ok to) c.0 in
      let lengths = and_split (random_ok f to x.random) (filler_ok f k filler) c.1.1.1.1.0 in
      let s = str_candidate k numbers.0 passphrase in
      carried-append (slot_list f to between) (slot_list f k (disabled_image f k filler between)) image
      ∙ ap (carried_out (slot_list f k (disabled_image f k filler between))) (enabled-carried to numbers.1 key x s t lengths.0)
      ∙ disabled-carried k numbers.0 between filler (length-enabled to numbers.1 key x s t lengths.0) lengths.1
      ∙ sym (written-append (enable_writes f to key x) (disable_writes f k filler) image)
  full (revoke k filler list) h t c = disabled-carried k c.0 image filler refl c.1.1.1.0
  full (open_slot k passphrase) h t c = no h
  full (open_any passphrase) h t c = no h
  full (read key u m buffer) h t c = no h
  full (write key u m buffer) h t c = no h

  whole : (c : Call) → gives_list c ≡ true → Typed c → Pass (checks f c) → All Whole (list_of f c image)
  unfolding gives_list list_of checks early_checks late_checks key_ok
  whole (add k key x list) h t c =
      slot_whole k c.0 _ (length-enabled k c.0 key x (record { len = eqb-true _ _ c.1.1.0; byte = t.0 }) t.1 c.1.1.1.1.1.0)
  whole (change k passphrase to x filler list) h t c =
      let key = candidate f k passphrase in
      let between = enabled_image f to key x image in
      let numbers = and_split (slot_number_ok k) (slot_number_ok to) c.0 in
      let lengths = and_split (random_ok f to x.random) (filler_ok f k filler) c.1.1.1.1.0 in
      let e = length-enabled to numbers.1 key x (str_candidate k numbers.0 passphrase) t lengths.0 in
      all_append Whole (slot_list f to between) (slot_list f k (disabled_image f k filler between)) (slot_whole to numbers.1 between e)
      (slot_whole k numbers.0 _ (length-disabled k numbers.0 between filler e lengths.1))
  whole (revoke k filler list) h t c = slot_whole k c.0 _ (length-disabled k c.0 image filler refl c.1.1.1.0)
  whole (open_slot k passphrase) h t c = no h
  whole (open_any passphrase) h t c = no h
  whole (read key u m buffer) h t c = no h
  whole (write key u m buffer) h t c = no h

-- the list's bytes read back are the list: no number is cut short, and no entry
pub list-read_back : (table : Table) → LawfulTable table → (image : List ℕ) → Bytes image → (c : Call) → gives_list c ≡ true → Typed c → (step table image c).said.code ≡ 0
    → let ws = list_of (facts_of table image) c image in decoded (length (encoded ws) / entry_bytes) (encoded ws) ≡ ws
list-read_back table lawful image bytes c h t yes' =
    read_back (list_of (facts_of table image) c image) (whole table lawful image bytes (header-accepted table image c yes') c h t (checks_pass table image c yes'))

-- 02, Wish 5: "Carried out in full, it turns the image before the call into the one after"
pub list-carried-out : (table : Table) → LawfulTable table → (image : List ℕ) → Bytes image → (c : Call) → gives_list c ≡ true → Typed c → (step table image c).said.code ≡ 0
    → carried_out (list_of (facts_of table image) c image) image ≡ (step table image c).image
list-carried-out table lawful image bytes c h t yes' =
    full table lawful image bytes (header-accepted table image c yes') c h t (checks_pass table image c yes') ∙ sym (image-after table image c yes')
