-- Good ledgers: their drives are good, and what a call does to the ledger it does to the ledger's image.
use mathlib.Core.Path.{◌≡◌, refl, ap, ◌∙◌}
use mathlib.Core.List.{List, [], ◌∷◌, ◌++◌, map, flatten}
use Prim.Native.Nat.{ℕ, zero, suc, ◌+◌, ◌-◌, ◌*◌, ◌/◌, ◌^◌, ◌≤◌, ◌<◌}
use native.Mathlib.Omega.{arith}
use lib.ListN.{length, take, drop, get_or, set, length-set, length-map}
use borrow.Author.Tests.{ne_eqb}
use Rattle.octets.specs.Octets.{Str}
use Rattle.octets.specs.Splice.{splice}
use Rattle.octets.specs.Pieces.{pieces, in_pieces}
use Rattle.octets.proofs.OctetsLaws.{length-zeros, str_cast, str_take, str_drop}
use Rattle.suite.specs.Suite.{Suite}
use Rattle.suite.specs.Units.{in_units}
use Rattle.rules.specs.Profiles.{Table}
use Rattle.rules.specs.Layout.{area_start}
use Rattle.rules.specs.Facts.{Facts, SlotInput, slot_of, checksum_of, facts_of}
use Rattle.rules.specs.Header.{header_checks}
use Rattle.rules.specs.Step.{written, record_head, slot_writes}
use Rattle.rules.specs.Format.{FormatInput, key_bytes_of, suite_for, payload_start_of}
use Rattle.rules.proofs.ChecksLaws.{Pass}
use Rattle.ledger.specs.Drive.{SlotContent, map_from, drive_image, drive_facts}
use Rattle.ledger.specs.Ledger.{Ledger, SlotEntry, empty, live, SectorEntry, at_format, last_writing, state_of, count_of, salt_of, area_of}
use Rattle.ledger.specs.Ledger.{content_of, sector_of, ledger_drive, ledger_image, ledger_facts, set_slot, set_sectors, writings}
use Rattle.ledger.specs.Demand3.{no_entry}
use Rattle.ledger.proofs.PartsLaws.{length-map_from, map_from-splice}
use Rattle.ledger.proofs.AllLaws.{All, all_get, all_set, all_append, all_take, all_drop}
use Rattle.ledger.proofs.AreaLaws.{str_key_material}
use Rattle.ledger.proofs.DriveLaws.{GoodInput, GoodContent, GoodDrive, Sector, length-sectors}
use Rattle.ledger.proofs.ReadingLaws.{facts-read, header_passes}
use Rattle.ledger.proofs.WritingLaws.{set_content, slot-put, set_bytes, payload-put}

-- ---- good ledgers

-- the key has the checksum of format's key
abbrev pub Matches : Table → FormatInput → List ℕ → Type 0
Matches table a key = checksum_of (suite_for table a) a.salt a.count key ≡ checksum_of (suite_for table a) a.salt a.count a.key

-- a live slot's key and what it was added with
pub record GoodLive (table : Table) (a : FormatInput) (key : List ℕ) (x : SlotInput) : Type 0 where
  pub key_str : Str (key_bytes_of table a) key
  pub passphrase_least : 1 ≤ length x.passphrase
  pub passphrase_most : length x.passphrase ≤ 512
  pub salt_is : length x.salt ≡ 32
  pub count_least : 1 ≤ x.count
  pub count_most : x.count < 2 ^ 32
  pub random_str : Str ((a.stripes - 1) * key_bytes_of table a) x.random
  pub key_matches : Matches table a key

-- a slot's entry
abbrev pub GoodSlot : Table → FormatInput → SlotEntry → Type 0
GoodSlot table a (empty area) = length area ≡ a.stripes * key_bytes_of table a
GoodSlot table a (live key x) = GoodLive table a key x

-- a sector's last writing
pub record GoodWriting (table : Table) (a : FormatInput) (key plain : List ℕ) : Type 0 where
  pub key_str : Str (key_bytes_of table a) key
  pub plain_str : Str 512 plain
  pub key_matches : Matches table a key

-- a sector's entry
abbrev pub GoodSector : Table → FormatInput → SectorEntry → Type 0
GoodSector table a (at_format bytes) = length bytes ≡ 512
GoodSector table a (last_writing key plain) = GoodWriting table a key plain

-- a ledger
pub record GoodLedger (table : Table) (l : Ledger) : Type 0 where
  pub input_ok : GoodInput table l.input
  pub eight : length l.slot_entries ≡ 8
  pub slots_ok : All (GoodSlot table l.input) l.slot_entries
  pub sectors_ok : All (GoodSector table l.input) l.sector_entries

-- ---- a good ledger's drive is good

-- an entry's content, on a drive of this format
abbrev pub content_in : Table → FormatInput → SlotEntry → SlotContent
content_in table a = content_of (suite_for table a) (key_bytes_of table a) a.stripes

pub content-good : (table : Table) (a : FormatInput) (g : GoodInput table a) (s : SlotEntry) → GoodSlot table a s
    → GoodContent a.stripes (key_bytes_of table a) (content_in table a s)
unfolding content_of state_of count_of salt_of area_of
content-good table a g (empty area) h =
    record { state_is = refl; state_most = omega arith; count_most = omega arith; enabled_count = refl; salt_is = length-zeros 32; area_is = h }
content-good table a g (live key x) h =
    record {
      state_is = refl;
      state_most = omega arith;
      count_most = h.count_most;
      enabled_count = rw (ne_eqb x.count 0 (λ e. omega (arith, h.count_least)));
      salt_is = h.salt_is;
      area_is = (str_key_material _ _ g.row.blocks g.suite a.stripes g.stripes_least key x h.random_str h.key_str).len;
    }

contents-good : (table : Table) (a : FormatInput) (g : GoodInput table a) (xs : List SlotEntry) → All (GoodSlot table a) xs
    → All (GoodContent a.stripes (key_bytes_of table a)) (map (content_in table a) xs)
contents-good table a g [] h = tt
contents-good table a g (x ∷ xs) h = (content-good table a g x h.0, contents-good table a g xs h.1)

pub sectors-good : (table : Table) (a : FormatInput) (g : GoodInput table a) (u : ℕ) (xs : List SectorEntry) → All (GoodSector table a) xs
    → All Sector (map_from (sector_of (suite_for table a)) u xs)
unfolding map_from sector_of
sectors-good table a g u [] h = tt
sectors-good table a g u (at_format bytes ∷ xs) h = (h.0, sectors-good table a g (suc u) xs h.1)
sectors-good table a g u (last_writing key plain ∷ xs) h =
    ((g.suite.str_encipher key h.0.key_str _ 512 plain (omega arith) refl h.0.plain_str).len, sectors-good table a g (suc u) xs h.1)

pub drive_good : (table : Table) (l : Ledger) → GoodLedger table l → GoodDrive table (ledger_drive table l)
unfolding ledger_drive
drive_good table l g =
    record {
      input_ok = g.input_ok;
      eight = length-map l.slot_entries (content_in table l.input) ∙ g.eight;
      contents_ok = contents-good table l.input g.input_ok l.slot_entries g.slots_ok;
      sectors_ok = sectors-good table l.input g.input_ok 0 l.sector_entries g.sectors_ok;
    }

-- ---- its image

module _ (table : Table) (l : Ledger) (g : GoodLedger table l) where
  pub facts_are : facts_of table (ledger_image table l) ≡ ledger_facts table l
  unfolding ledger_image ledger_facts
  facts_are = facts-read table (ledger_drive table l) (drive_good table l g)

  pub header-accepted : Pass (header_checks table (ledger_image table l))
  unfolding ledger_image
  header-accepted = header_passes table (ledger_drive table l) (drive_good table l g)

  -- slot k's entry, k from 0
  pub entry-good : (k : ℕ) → k < 8 → GoodSlot table l.input (get_or l.slot_entries k no_entry)
  entry-good k h = all_get (GoodSlot table l.input) l.slot_entries k no_entry g.slots_ok (omega (arith, g.eight))

  pub length-payload : length (ledger_facts table l).payload ≡ length l.sector_entries * 512
  unfolding ledger_facts drive_facts ledger_drive
  length-payload = length-sectors table (ledger_drive table l) (drive_good table l g) ∙ ap (λ x. x * 512) (length-map_from (sector_of (suite_for table l.input)) 0 l.sector_entries)

-- ---- a slot

pub map-set : {A B : Type 0} (f : A → B) (xs : List A) (k : ℕ) (y : A) → set (map f xs) k (f y) ≡ map f (set xs k y)
map-set f [] k y = refl
map-set f (x ∷ xs) zero y = refl
map-set f (x ∷ xs) (suc k) y = ap (λ r. f x ∷ r) (map-set f xs k y)

pub slot-good : (table : Table) (l : Ledger) (g : GoodLedger table l) (k : ℕ) (s : SlotEntry) → GoodSlot table l.input s → GoodLedger table (set_slot l k s)
unfolding set_slot
slot-good table l g k s h =
    record {
      input_ok = g.input_ok;
      eight = length-set l.slot_entries (k - 1) s ∙ g.eight;
      slots_ok = all_set (GoodSlot table l.input) l.slot_entries (k - 1) s g.slots_ok h;
      sectors_ok = g.sectors_ok;
    }

pub slot-written : (table : Table) (l : Ledger) (g : GoodLedger table l) (k : ℕ) → 1 ≤ k → k ≤ 8 → (s : SlotEntry) → GoodSlot table l.input s
    → (f : Facts) → (slot_of f k).start ≡ area_start l.input.stripes (key_bytes_of table l.input) (k - 1)
    → written (slot_writes f k (area_of (suite_for table l.input) (key_bytes_of table l.input) l.input.stripes s) (record_head (state_of s) (count_of s) (salt_of s))) (ledger_image table l)
    ≡ ledger_image table (set_slot l k s)
unfolding ledger_image ledger_drive set_slot set_content content_of
slot-written table l g k h i s ok f e =
    let content = content_in table l.input in
    slot-put table (ledger_drive table l) (drive_good table l g) k h i (content s) (content-good table l.input g.input_ok s ok) f e
    ∙ ap (λ x. drive_image table (record { input = l.input; contents = x; sectors = map_from (sector_of (suite_for table l.input)) 0 l.sector_entries }))
    (map-set content l.slot_entries (k - 1) s)

-- ---- the payload

length-writings : (key : List ℕ) (n : ℕ) (x : List ℕ) → length (writings key n x) ≡ n
unfolding writings
length-writings key zero x = refl
length-writings key (suc n) x = ap suc (length-writings key n (drop 512 x))

writings-good : (table : Table) (a : FormatInput) (key : List ℕ) (n : ℕ) (x : List ℕ) → Str (key_bytes_of table a) key → Matches table a key → Str (512 * n) x
    → All (GoodSector table a) (writings key n x)
unfolding writings
writings-good table a key zero x h m s = tt
writings-good table a key (suc n) x h m s =
    let t : Str (512 + 512 * n) x = str_cast (omega arith) s in
    (record { key_str = h; plain_str = str_take 512 (512 * n) t; key_matches = m }, writings-good table a key n (drop 512 x) h m (str_drop 512 (512 * n) t))

units_are : (S : Suite) (key : List ℕ) (u n : ℕ) (x : List ℕ) → pieces 512 (S.encipher key) u n x ≡ flatten (map_from (sector_of S) u (writings key n x))
unfolding pieces writings map_from flatten sector_of
units_are S key u zero x = refl
units_are S key u (suc n) x = ap (λ y. S.encipher key u (take 512 x) ++ y) (units_are S key (suc u) n (drop 512 x))

-- whole units, enciphered, are the sectors of their entries
enciphered_are : (S : Suite) (key : List ℕ) (u n : ℕ) (x : List ℕ) → length x ≡ 512 * n → in_units (S.encipher key) u x ≡ flatten (map_from (sector_of S) u (writings key n x))
unfolding in_pieces
enciphered_are S key u n x e = let c : (length x + 511) / 512 ≡ n = omega arith in ap (λ (m : ℕ). pieces 512 (S.encipher key) u m x) c ∙ units_are S key u n x

module _ (table : Table) (l : Ledger) (g : GoodLedger table l) (key : List ℕ) (u n : ℕ) (buffer : List ℕ) (h : Str (key_bytes_of table l.input) key)
    (m : Matches table l.input key) (b : Str (512 * n) buffer) (room : u + n ≤ length l.sector_entries) where
  pub writing-good : GoodLedger table (set_sectors l (splice l.sector_entries u (writings key n buffer)))
  unfolding set_sectors splice
  writing-good =
      let P = GoodSector table l.input in
      record {
        input_ok = g.input_ok;
        eight = g.eight;
        slots_ok = g.slots_ok;
        sectors_ok = all_append P (take u l.sector_entries) _ (all_take P u l.sector_entries g.sectors_ok)
            (all_append P (writings key n buffer) _ (writings-good table l.input key n buffer h m b)
            (all_drop P (u + length (writings key n buffer)) l.sector_entries g.sectors_ok));
      }

  pub payload-written : splice (ledger_image table l) (payload_start_of table l.input * 512 + u * 512) (in_units ((suite_for table l.input).encipher key) u buffer)
      ≡ ledger_image table (set_sectors l (splice l.sector_entries u (writings key n buffer)))
  unfolding ledger_image ledger_drive set_sectors set_bytes
  payload-written =
      let S = suite_for table l.input in
      let ws = writings key n buffer in
      let wl = length-writings key n buffer in
      let il = length-map_from (sector_of S) u ws in
      let sl = length-map_from (sector_of S) 0 l.sector_entries in
      ap (λ x. splice (ledger_image table l) (payload_start_of table l.input * 512 + u * 512) x) (enciphered_are S key u n buffer b.len)
      ∙ payload-put table (ledger_drive table l) (drive_good table l g) u (map_from (sector_of S) u ws)
      (sectors-good table l.input g.input_ok u ws (writings-good table l.input key n buffer h m b)) (omega arith)
      ∙ ap (λ x. drive_image table (record { input = l.input; contents = map (content_in table l.input) l.slot_entries; sectors = x }))
      (map_from-splice (sector_of S) l.sector_entries u ws (omega arith))
