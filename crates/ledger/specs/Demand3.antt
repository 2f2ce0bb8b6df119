-- Demand 3 (01, "The ledger"), as a statement about a table, an accepted format and a list of calls.
use Rattle.std.specs.Prelude.{◌≡◌, List, [], ◌∷◌, Bool, true, false, ◌&&◌, ◌||◌, ℕ, ◌-◌, ◌^◌, ◌≤◌, ◌<◌, eqb, length, get_or}
use Rattle.octets.specs.Octets.{Bytes, padded}
use Rattle.rules.specs.Profiles.{Table}
use Rattle.rules.specs.Facts.{SlotInput}
use Rattle.rules.specs.Calls.{Call, add, change, revoke, open_slot, open_any, read, write, Answer}
use Rattle.rules.specs.Step.{step, run}
use Rattle.rules.specs.Format.{FormatInput, key_bytes_of, format}
use Rattle.ledger.specs.Ledger.{Ledger, SlotEntry, empty, live, SectorEntry, at_format, last_writing, ledger_image, enter_all, start_ledger}

-- ---- arguments as Rattle's types have them: "Salts are 32 bytes, counts 32 bits"; what is not said here is not needed

-- format's
pub record FormatTyped (a : FormatInput) : Type 0 where
  pub salt_is : length a.salt ≡ 32
  pub count_most : a.count < 2 ^ 32

-- those that make a slot live
pub record SlotTyped (x : SlotInput) : Type 0 where
  pub salt_is : length x.salt ≡ 32
  pub count_most : x.count < 2 ^ 32
  pub random_bytes : Bytes x.random

-- a call's
abbrev pub Typed : Call → Type 0
Typed (add k key x list) = Bytes key × SlotTyped x
Typed (change k passphrase to x filler list) = SlotTyped x
Typed (revoke k filler list) = Unit {0}
Typed (open_slot k passphrase) = Unit {0}
Typed (open_any passphrase) = Unit {0}
Typed (read key u n buffer) = Unit {0}
Typed (write key u n buffer) = Bytes key × Bytes buffer

-- each call's
abbrev pub AllTyped : List Call → Type 0
AllTyped [] = Unit {0}
AllTyped (c ∷ cs) = Typed c × AllTyped cs

-- ---- the end of a list

-- beyond the slots' entries
abbrev pub no_entry : SlotEntry
no_entry = empty []

-- beyond the sectors' entries
abbrev pub no_sector : SectorEntry
no_sector = at_format []

-- slot k, 1 to 8
abbrev pub entry_of : Ledger → ℕ → SlotEntry
entry_of l k = get_or l.slot_entries (k - 1) no_entry

-- sector u of the payload, from 0
abbrev pub sector_entry_of : Ledger → ℕ → SectorEntry
sector_entry_of l u = get_or l.sector_entries u no_sector

-- the call is an add
unfoldable pub is_add : Call → Bool
is_add (add k key x list) = true
is_add (change k passphrase to x filler list) = false
is_add (revoke k filler list) = false
is_add (open_slot k passphrase) = false
is_add (open_any passphrase) = false
is_add (read key u n buffer) = false
is_add (write key u n buffer) = false

-- an add of the list was accepted
unfoldable pub add_accepted : List Call → List Answer → Bool
add_accepted [] rs = false
add_accepted (c ∷ cs) [] = false
add_accepted (c ∷ cs) (r ∷ rs) = (is_add c && eqb r.code 0) || add_accepted cs rs

-- some slot is live: its number, its key and what it was added with, as live-opens below takes them
pub record SomeLive (l : Ledger) : Type 0 where
  pub slot : ℕ
  pub least : 1 ≤ slot
  pub most : slot ≤ 8
  pub key : List ℕ
  pub input : SlotInput
  pub entry_is : entry_of l slot ≡ live key input

-- format on an image, then the list of calls on the image that format left
module _ (table : Table) (a : FormatInput) (image : List ℕ) (cs : List Call) where
  -- what the calls answer
  abbrev pub answers_given : List Answer
  answers_given = (run table (format table a image).image cs).answers

  -- the image that they leave
  abbrev pub last_image : List ℕ
  last_image = (run table (format table a image).image cs).image

  -- what the ledger, fed the same, answers
  abbrev pub ledger_answers : List Answer
  ledger_answers = (enter_all table (start_ledger table a image) cs).answers

  -- and what it holds at the end
  abbrev pub last_ledger : Ledger
  last_ledger = (enter_all table (start_ledger table a image) cs).ledger

-- ---- the statement

-- what holds after every list of calls that follows an accepted format
pub record Demand3 (table : Table) (a : FormatInput) (image : List ℕ) (cs : List Call) : Type 0 where
  -- the whole image after the list is the ledger's, byte for byte
  pub image_is : last_image table a image cs ≡ ledger_image table (last_ledger table a image cs)
  -- every call gave the ledger's answer
  pub answers_are : answers_given table a image cs ≡ ledger_answers table a image cs
  -- each live slot opens by its number and passphrase with the key it was added with
  pub live_opens : (k : ℕ) → 1 ≤ k → k ≤ 8 → (key : List ℕ) (x : SlotInput) → entry_of (last_ledger table a image cs) k ≡ live key x
      → (step table (last_image table a image cs) (open_slot k x.passphrase)).said
      ≡ record { code = 0; slot = k; key_length = key_bytes_of table a; key = padded 64 key; bytes = [] }
  -- each written sector reads back under the key of its last writing as it was written
  pub written_reads : (u : ℕ) (key plain : List ℕ) → sector_entry_of (last_ledger table a image cs) u ≡ last_writing key plain
      → (buffer : List ℕ) → length buffer ≡ 512
      → (step table (last_image table a image cs) (read key u 1 buffer)).said ≡ record { code = 0; slot = 0; key_length = 0; key = []; bytes = plain }
  -- two lists that end in one ledger end in one image, also after two different formats
  pub one_image : (a' : FormatInput) → FormatTyped a' → (image' : List ℕ) → (format table a' image').code ≡ 0 → (cs' : List Call) → AllTyped cs'
      → last_ledger table a image cs ≡ last_ledger table a' image' cs' → last_image table a image cs ≡ last_image table a' image' cs'
  -- after an accepted add some slot is live
  pub some_live : add_accepted cs (answers_given table a image cs) ≡ true → SomeLive (last_ledger table a image cs)
