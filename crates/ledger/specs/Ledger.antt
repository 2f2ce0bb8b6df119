-- The ledger (01, "The ledger"): what it holds, its image, and each call as a step from ledger to answer and ledger.
use Rattle.std.specs.Prelude.{List, [], ◌∷◌, map, Bool, true, false, ℕ, zero, suc, ◌-◌, ◌*◌, ◌/◌, eqb, length, take, drop, set, replicate}
use Rattle.octets.specs.Octets.{zeros}
use Rattle.octets.specs.Splice.{splice}
use Rattle.suite.specs.Suite.{Suite}
use Rattle.rules.specs.Checks.{first}
use Rattle.rules.specs.Profiles.{Table}
use Rattle.rules.specs.Facts.{Facts, SlotInput, enabled, disabled, key_material, candidate}
use Rattle.rules.specs.Calls.{Call, add, change, revoke, open_slot, open_any, read, write, checks, Answer, answer, refused}
use Rattle.rules.specs.Format.{FormatInput, key_bytes_of, suite_for, payload_start_of}
use Rattle.ledger.specs.Drive.{SlotContent, Drive, map_from, drive_image, drive_facts}

-- "for each slot empty (zeros or the last filler), or live with key, passphrase, salt, count and random stripes"
pub data SlotEntry : Type 0 where
  empty : (area : List ℕ) → SlotEntry
  live : (key : List ℕ) (x : SlotInput) → SlotEntry

-- "for each payload sector its bytes at format, or key and plaintext of the last writing"
pub data SectorEntry : Type 0 where
  at_format : (bytes : List ℕ) → SectorEntry
  last_writing : (key plain : List ℕ) → SectorEntry

-- 01's ledger: "It holds format's arguments (profile, stripes, key, checksum salt and count, UUID)", the slots' entries and the sectors'
pub record Ledger : Type 0 where
  pub input : FormatInput
  pub slot_entries : List SlotEntry
  pub sector_entries : List SectorEntry

-- ---- "Its image is built by the rules above from the ledger alone"

-- "State 0x00AC71F3 is enabled, 0x0000DEAD disabled"
unfoldable pub state_of : SlotEntry → ℕ
state_of (empty area) = disabled
state_of (live key x) = enabled

-- an empty slot's count is zero
unfoldable pub count_of : SlotEntry → ℕ
count_of (empty area) = 0
count_of (live key x) = x.count

-- an empty slot's salt is zeros
unfoldable pub salt_of : SlotEntry → List ℕ
salt_of (empty area) = zeros 32
salt_of (live key x) = x.salt

-- "Add splits the key, enciphers n × L bytes under PBKDF2 of the passphrase"
unfoldable pub area_of : Suite → ℕ → ℕ → SlotEntry → List ℕ
area_of S L n (empty area) = area
area_of S L n (live key x) = key_material S L n key x

-- the bytes of unit u of the payload: "Units count ... from 0 at the payload"
unfoldable pub sector_of : Suite → ℕ → SectorEntry → List ℕ
sector_of S u (at_format bytes) = bytes
sector_of S u (last_writing key plain) = S.encipher key u plain

-- what the entry puts into the slot's record and its area
unfoldable pub content_of : Suite → ℕ → ℕ → SlotEntry → SlotContent
content_of S L n s = record { state = state_of s; count = count_of s; salt = salt_of s; area = area_of S L n s }

-- the ledger's drive
unfoldable pub ledger_drive : Table → Ledger → Drive
ledger_drive table l =
    let a = l.input in
    let S = suite_for table a in
    record { input = a; contents = map (content_of S (key_bytes_of table a) a.stripes) l.slot_entries; sectors = map_from (sector_of S) 0 l.sector_entries }

-- 01's "ledger's image"
unfoldable pub ledger_image : Table → Ledger → List ℕ
ledger_image table l = drive_image table (ledger_drive table l)

-- what the rules read of the ledger
unfoldable pub ledger_facts : Table → Ledger → Facts
ledger_facts table l = drive_facts table (ledger_drive table l)

-- ---- what an accepted call does to the ledger

-- slot k, 1 to 8
unfoldable pub set_slot : Ledger → ℕ → SlotEntry → Ledger
set_slot l k s = record { input = l.input; slot_entries = set l.slot_entries (k - 1) s; sector_entries = l.sector_entries }

-- the payload's sectors
unfoldable pub set_sectors : Ledger → List SectorEntry → Ledger
set_sectors l s = record { input = l.input; slot_entries = l.slot_entries; sector_entries = s }

-- the entries of n sectors, from a buffer of 512 × n bytes
unfoldable pub writings : List ℕ → ℕ → List ℕ → List SectorEntry
writings key zero x = []
writings key (suc n) x = last_writing key (take 512 x) ∷ writings key n (drop 512 x)

-- "An accepted add makes its slot live, revoke makes it empty, change does both with the first slot's candidate as key,
-- write replaces sectors, open and read alter nothing"
-- f are the facts of the ledger before the call
unfoldable pub ledger_after : Facts → Call → Ledger → Ledger
ledger_after f (add k key x list) l = set_slot l k (live key x)
ledger_after f (change k passphrase to x filler list) l = set_slot (set_slot l to (live (candidate f k passphrase) x)) k (empty filler)
ledger_after f (revoke k filler list) l = set_slot l k (empty filler)
ledger_after f (open_slot k passphrase) l = l
ledger_after f (open_any passphrase) l = l
ledger_after f (read key u n buffer) l = l
ledger_after f (write key u n buffer) l = set_sectors l (splice l.sector_entries u (writings key n buffer))

-- the answer and the ledger after a call
pub record Entered : Type 0 where
  pub said : Answer
  pub ledger : Ledger

-- r is the number of the first check that fails; "no refused call alters anything"
unfoldable pub settle_entry : Facts → Call → Ledger → ℕ → Bool → Entered
settle_entry f c l r true = record { said = answer f c; ledger = ledger_after f c l }
settle_entry f c l r false = record { said = refused r c; ledger = l }

-- "Acceptance and answers are judged by the rules of this paper over the ledger as it stands before the call";
-- a ledger has no header to check
unfoldable pub enter : Table → Ledger → Call → Entered
enter table l c =
    let f = ledger_facts table l in
    let r = first (checks f c) in
    settle_entry f c l r (eqb r 0)

-- the answers and the ledger after a list of calls
pub record EnteredAll : Type 0 where
  pub answers : List Answer
  pub ledger : Ledger

-- the calls, one after the other
unfoldable pub enter_all : Table → Ledger → List Call → EnteredAll
enter_all table l [] = record { answers = []; ledger = l }
enter_all table l (c ∷ cs) =
    let a = enter table l c in
    let t = enter_all table a.ledger cs in
    record { answers = a.said ∷ t.answers; ledger = t.ledger }

-- ---- "fed only what format is given, its image included"

-- m sectors, as they are at format
unfoldable pub sectors_in : ℕ → List ℕ → List SectorEntry
sectors_in zero x = []
sectors_in (suc m) x = at_format (take 512 x) ∷ sectors_in m (drop 512 x)

-- the ledger of an accepted format: eight empty slots, zeros in their areas, and the payload as it was
unfoldable pub start_ledger : Table → FormatInput → List ℕ → Ledger
start_ledger table a image =
    let L = key_bytes_of table a in
    let start = payload_start_of table a in
    record {
      input = a;
      slot_entries = replicate 8 (empty (zeros (a.stripes * L)));
      sector_entries = sectors_in (length image / 512 - start) (drop (start * 512) image);
    }
