-- Each call on a ledger's image does what the ledger says: one answer, and the image of the ledger after the call.
use mathlib.Core.Path.{◌≡◌, refl, sym, ap, ◌∙◌}
use mathlib.Core.List.{List, [], ◌∷◌, map}
use mathlib.Core.Bool.{Bool, true, false, not}
use Prim.Native.Nat.{ℕ, ◌+◌, ◌-◌, ◌*◌, ◌/◌, ◌≤◌}
use native.Mathlib.Nat.{zero-add}
use native.Mathlib.Omega.{arith}
use lib.Dec.{eqb, leb}
use lib.ListN.{length, length-map, get_or-map}
use borrow.Author.Tests.{eqb-true, leb-true}
use Rattle.octets.specs.Octets.{Str}
use Rattle.octets.proofs.BoolLaws.{and_split}
use Rattle.octets.proofs.OctetsLaws.{same-eq}
use Rattle.suite.specs.Suite.{Suite}
use Rattle.rules.specs.Checks.{first}
use Rattle.rules.specs.Profiles.{Table}
use Rattle.rules.specs.Layout.{area_start}
use Rattle.rules.specs.Facts.{Facts, SlotInput, slot_of, no_slot, is_enabled, enabled, matches, key_material, candidate}
use Rattle.rules.specs.Header.{header_checks}
use Rattle.rules.specs.Calls.{Call, add, change, revoke, open_slot, open_any, read, write, slot_number_ok, passphrase_ok}
use Rattle.rules.specs.Calls.{key_ok, count_ok, random_ok, filler_ok, range_checks, early_checks, late_checks, checks, answer}
use Rattle.rules.specs.Step.{written, record_head, slot_writes, enable_writes, disable_writes, writes, settle, step, run}
use Rattle.rules.specs.Format.{key_bytes_of, suite_for}
use Rattle.rules.proofs.ChecksLaws.{Pass, accepted, first-append}
use Rattle.rules.proofs.StepLaws.{numbered-checks, written-append}
use Rattle.rules.proofs.ArgumentLaws.{number_in, passphrase_in}
use Rattle.ledger.specs.Drive.{content_facts, drive_facts}
use Rattle.ledger.specs.Ledger.{Ledger, SlotEntry, empty, live, state_of, count_of, salt_of, area_of, content_of, ledger_drive}
use Rattle.ledger.specs.Ledger.{ledger_image, ledger_facts, set_slot, ledger_after, settle_entry, enter, enter_all}
use Rattle.ledger.specs.Demand3.{SlotTyped, Typed, AllTyped, no_entry, entry_of}
use Rattle.ledger.proofs.PartsLaws.{get_d_map_from}
use Rattle.ledger.proofs.AreaLaws.{str_key_material, str_candidate_of}
use Rattle.ledger.proofs.ReadingLaws as reading
use Rattle.ledger.proofs.LedgerLaws.{Matches, GoodLive, GoodSlot, GoodLedger, content_in, drive_good, facts_are, header-accepted, entry-good}
use Rattle.ledger.proofs.LedgerLaws.{length-payload, slot-good, slot-written, writing-good, payload-written}

-- ---- the facts of a good ledger

module _ (table : Table) (l : Ledger) (g : GoodLedger table l) where
  -- the drive's suite
  abbrev S : Suite
  S = suite_for table l.input

  -- its stripes
  abbrev n : ℕ
  n = l.input.stripes

  -- its key bytes
  abbrev L : ℕ
  L = key_bytes_of table l.input

  -- what the rules read of the ledger
  abbrev f : Facts
  f = ledger_facts table l

  pub slot_is : (k : ℕ) → 1 ≤ k → k ≤ 8 → slot_of (ledger_facts table l) k ≡ content_facts n L (k - 1) (content_in table l.input (entry_of l k))
  unfolding slot_of ledger_facts drive_facts ledger_drive
  slot_is k h i =
      let c = content_in table l.input in
      let e = length-map l.slot_entries c in
      get_d_map_from (content_facts n L) 0 (map c l.slot_entries) (k - 1) (c no_entry) no_slot (omega (arith, g.eight))
      ∙ rw (zero-add, get_or-map c l.slot_entries (k - 1) no_entry)

  pub start-at : (k : ℕ) → 1 ≤ k → k ≤ 8 → (slot_of (ledger_facts table l) k).start ≡ area_start l.input.stripes (key_bytes_of table l.input) (k - 1)
  unfolding ledger_facts ledger_drive
  start-at k h i = reading.start-at table (ledger_drive table l) (drive_good table l g) k h i

  pub stripes-at : (k : ℕ) → 1 ≤ k → k ≤ 8 → (slot_of (ledger_facts table l) k).stripes ≡ l.input.stripes
  unfolding ledger_facts ledger_drive
  stripes-at k h i = reading.stripes-at table (ledger_drive table l) (drive_good table l g) k h i

  matches-key : (key : List ℕ) → matches f key ≡ true → Matches table l.input key
  unfolding matches ledger_facts drive_facts ledger_drive
  matches-key key h = same-eq _ _ h

  live-area : (s : SlotEntry) → GoodSlot table l.input s → state_of s ≡ enabled → Str (n * L) (area_of S L n s)
  unfolding state_of area_of
  live-area (empty area) h e = absurd (omega arith)
  live-area (live key x) h e =
      str_key_material S L g.input_ok.row.blocks g.input_ok.suite n g.input_ok.stripes_least key x h.random_str h.key_str

  str_candidate : (k : ℕ) (passphrase : List ℕ) → 1 ≤ k → k ≤ 8 → is_enabled (slot_of f k) ≡ true → Str L (candidate f k passphrase)
  unfolding candidate is_enabled content_facts ledger_facts drive_facts ledger_drive content_of
  str_candidate k passphrase h i o =
      let e = slot_is k h i in
      let t : eqb (state_of (entry_of l k)) enabled ≡ true = sym (ap is_enabled e) ∙ o in
      rw e (str_candidate_of S L g.input_ok.row.blocks g.input_ok.suite n g.input_ok.stripes_least passphrase _ _ _
      (live-area (entry_of l k) (entry-good table l g (k - 1) (omega arith)) (eqb-true _ _ t)))

  -- ---- what an accepted call enters is good

  live-good : (k : ℕ) (key : List ℕ) (x : SlotInput) → 1 ≤ k → k ≤ 8 → SlotTyped x → Str L key → passphrase_ok x.passphrase ≡ true → count_ok f x.count ≡ true
      → random_ok f k x.random ≡ true → matches f key ≡ true → GoodLive table l.input key x
  unfolding count_ok random_ok ledger_facts drive_facts ledger_drive
  live-good k key x h i t s po co ro m =
      let q = passphrase_in x.passphrase po in
      let least = leb-true _ x.count co in
      record {
        key_str = s;
        passphrase_least = q.0;
        passphrase_most = q.1;
        salt_is = t.salt_is;
        count_least = omega (arith, least, g.input_ok.row.slot_count);
        count_most = t.count_most;
        random_str = record { len = eqb-true _ _ ro ∙ ap (λ m. (m - 1) * L) (stripes-at k h i); byte = t.random_bytes };
        key_matches = matches-key key m;
      }

  empty-good : (k : ℕ) (filler : List ℕ) → 1 ≤ k → k ≤ 8 → filler_ok f k filler ≡ true → length filler ≡ n * L
  unfolding filler_ok ledger_facts drive_facts ledger_drive
  empty-good k filler h i e = eqb-true _ _ e ∙ ap (λ m. m * L) (stripes-at k h i)

  room_of : (u m : ℕ) → leb (u + m) (length f.payload / 512) ≡ true → u + m ≤ length l.sector_entries
  room_of u m h =
      let a = leb-true (u + m) (length f.payload / 512) h in
      let b = length-payload table l g in
      omega arith

  -- ---- and is written as it is entered

  enabled_is : (k : ℕ) → 1 ≤ k → k ≤ 8 → (key : List ℕ) (x : SlotInput) → GoodLive table l.input key x
      → written (enable_writes f k key x) (ledger_image table l) ≡ ledger_image table (set_slot l k (live key x))
  unfolding enable_writes ledger_facts drive_facts ledger_drive state_of count_of salt_of area_of
  enabled_is k h i key x ok =
      ap (λ m. written (slot_writes (ledger_facts table l) k (key_material S L m key x) (record_head enabled x.count x.salt)) (ledger_image table l)) (stripes-at k h i)
      ∙ slot-written table l g k h i (live key x) ok (ledger_facts table l) (start-at k h i)

  -- on the image of a ledger m after l with l's format
  disabled-is : (m : Ledger) → GoodLedger table m → m.input ≡ l.input → (k : ℕ) → 1 ≤ k → k ≤ 8 → (filler : List ℕ) → GoodSlot table m.input (empty filler)
      → written (disable_writes f k filler) (ledger_image table m) ≡ ledger_image table (set_slot m k (empty filler))
  unfolding disable_writes state_of count_of salt_of area_of
  disabled-is m gm e k h i filler ok =
      slot-written table m gm k h i (empty filler) ok f
      (start-at k h i ∙ ap (λ a. area_start a.stripes (key_bytes_of table a) (k - 1)) (sym e))

-- the image and the ledger after an accepted call
record Follows (table : Table) (f : Facts) (c : Call) (image : List ℕ) (l : Ledger) : Type 0 where
  image_is : written (writes f c) image ≡ ledger_image table (ledger_after f c l)
  good : GoodLedger table (ledger_after f c l)

module _ (table : Table) (l : Ledger) (g : GoodLedger table l) where
  change-follows : (k : ℕ) (passphrase : List ℕ) (to : ℕ) (x : SlotInput) (filler list : List ℕ) → 1 ≤ to → to ≤ 8 → 1 ≤ k → k ≤ 8
      → GoodLive table l.input (candidate (ledger_facts table l) k passphrase) x → GoodSlot table l.input (empty filler)
      → Follows table (ledger_facts table l) (change k passphrase to x filler list) (ledger_image table l) l
  unfolding writes ledger_after set_slot
  change-follows k passphrase to x filler list a b h i new old =
      let f = ledger_facts table l in
      let key = candidate f k passphrase in
      let gm = slot-good table l g to (live key x) new in
      record {
        image_is = written-append (enable_writes f to key x) (disable_writes f k filler) (ledger_image table l)
            ∙ ap (written (disable_writes f k filler)) (enabled_is table l g to a b key x new)
            ∙ disabled-is table l g (set_slot l to (live key x)) gm refl k h i filler old;
        good = slot-good table (set_slot l to (live key x)) gm k (empty filler) old;
      }

  follows : (c : Call) → Typed c → Pass (checks (ledger_facts table l) c) → Follows table (ledger_facts table l) c (ledger_image table l) l
  unfolding checks early_checks late_checks range_checks writes written ledger_after ledger_facts drive_facts ledger_drive key_ok
  follows (add k key x list) t c =
      let r = number_in k c.0 in
      let s : Str (key_bytes_of table l.input) key = record { len = eqb-true _ _ c.1.1.0; byte = t.0 } in
      let ok = live-good table l g k key x r.0 r.1 t.1 s c.1.1.1.0 c.1.1.1.1.0 c.1.1.1.1.1.0 c.1.1.1.1.1.1.1.0 in
      record { image_is = enabled_is table l g k r.0 r.1 key x ok; good = slot-good table l g k (live key x) ok }
  follows (change k passphrase to x filler list) t c =
      let f = ledger_facts table l in
      let numbers = and_split (slot_number_ok k) (slot_number_ok to) c.0 in
      let r = number_in k numbers.0 in
      let v = number_in to numbers.1 in
      let states = and_split (is_enabled (slot_of f k)) (not (is_enabled (slot_of f to))) c.1.0 in
      let passphrases = and_split (passphrase_ok passphrase) (passphrase_ok x.passphrase) c.1.1.0 in
      let lengths = and_split (random_ok f to x.random) (filler_ok f k filler) c.1.1.1.1.0 in
      let s = str_candidate table l g k passphrase r.0 r.1 states.0 in
      let new = live-good table l g to (candidate f k passphrase) x v.0 v.1 t s passphrases.1 c.1.1.1.0 lengths.0 c.1.1.1.1.1.1.0 in
      change-follows k passphrase to x filler list v.0 v.1 r.0 r.1 new (empty-good table l g k filler r.0 r.1 lengths.1)
  follows (revoke k filler list) t c =
      let r = number_in k c.0 in
      let ok = empty-good table l g k filler r.0 r.1 c.1.1.1.0 in
      record { image_is = disabled-is table l g l g refl k r.0 r.1 filler ok; good = slot-good table l g k (empty filler) ok }
  follows (open_slot k passphrase) t c = record { image_is = refl; good = g }
  follows (open_any passphrase) t c = record { image_is = refl; good = g }
  follows (read key u n buffer) t c = record { image_is = refl; good = g }
  follows (write key u n buffer) t c =
      let s : Str (key_bytes_of table l.input) key = record { len = eqb-true _ _ c.0; byte = t.0 } in
      let b : Str (512 * n) buffer = record { len = eqb-true _ _ c.1.1.0; byte = t.1 } in
      let room = room_of table l g u n c.1.0 in
      let m = matches-key table l g key c.1.1.1.0 in
      record { image_is = payload-written table l g key u n buffer s m b room; good = writing-good table l g key u n buffer s m b room }

  -- ---- a call

  settled : (c : Call) → Typed c → (b : Bool) → eqb (first (checks (ledger_facts table l) c)) 0 ≡ b → (r : ℕ)
      → (settle (ledger_facts table l) c (ledger_image table l) r b
      ≡ record { said = (settle_entry (ledger_facts table l) c l r b).said; image = ledger_image table (settle_entry (ledger_facts table l) c l r b).ledger })
      × GoodLedger table (settle_entry (ledger_facts table l) c l r b).ledger
  unfolding settle settle_entry
  settled c t true e r =
      let s = follows c t (accepted (checks (ledger_facts table l) c) (numbered-checks (ledger_facts table l) c) (eqb-true _ _ e)) in
      (λ i. record { said = answer (ledger_facts table l) c; image = s.image_is i }, s.good)
  settled c t false e r = (refl, g)

  pub step_follows : (c : Call) → Typed c
      → (step table (ledger_image table l) c ≡ record { said = (enter table l c).said; image = ledger_image table (enter table l c).ledger }) × GoodLedger table (enter table l c).ledger
  unfolding step enter
  step_follows c t =
      let f = ledger_facts table l in
      let r = first (checks f c) in
      let z = settled c t (eqb r 0) refl r in
      (rw (facts_are table l g, first-append (header_checks table (ledger_image table l)) (checks f c) (header-accepted table l g)) z.0, z.1)

-- ---- a list of calls

pub run-follows : (table : Table) (l : Ledger) (cs : List Call) → GoodLedger table l → AllTyped cs
    → (run table (ledger_image table l) cs ≡ record { answers = (enter_all table l cs).answers; image = ledger_image table (enter_all table l cs).ledger })
    × GoodLedger table (enter_all table l cs).ledger
unfolding run enter_all
run-follows table l [] g t = (refl, g)
run-follows table l (c ∷ cs) g t =
    let s = step_follows table l g c t.0 in
    let r = run-follows table (enter table l c).ledger cs s.1 t.1 in
    (rw s.0 (rw r.0), r.1)
