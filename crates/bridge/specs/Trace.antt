-- A list of calls as the functions make it: each returns and leaves what its contract says, on the image that the one before it left.
use Rattle.std.specs.Prelude.{◌≡◌, List, [], ◌∷◌, map, true, cond, ℕ, ◌≤◌, eqb, length}
use Rattle.octets.specs.Octets.{padded}
use Rattle.rules.specs.Profiles.{Table}
use Rattle.rules.specs.Facts.{SlotInput}
use Rattle.rules.specs.Calls.{Call, add, change, revoke, open_slot, open_any, read, write, Answer}
use Rattle.rules.specs.Format.{FormatInput, key_bytes_of}
use Rattle.rules.specs.Promises.{Does, DoesListed, DoesOpen, DoesRead, DoesFormat}
use Rattle.profiles.specs.Suites.{built}
use Rattle.ledger.specs.Ledger.{live, last_writing, ledger_image}
use Rattle.ledger.specs.Demand3.{FormatTyped, AllTyped, entry_of, sector_entry_of, add_accepted, SomeLive, ledger_answers, last_ledger}

-- what a function returned, with the number of HMAC values that it made, and what it left in what it was lent
pub data Returned : Type 0 where
  listed : (code : ℕ) (image list : List ℕ) (values : ℕ) → Returned  -- adding::add, changing::change, revoking::revoke
  changed : (code : ℕ) (image : List ℕ) (values : ℕ) → Returned  -- payload::write
  opened : (code slot key_length : ℕ) (key : List ℕ) (values : ℕ) → Returned  -- opening::open_slot, opening::open
  filled : (code : ℕ) (buffer : List ℕ) (values : ℕ) → Returned  -- payload::read

-- calls that are lent the image to change it, with a buffer for the list of writes or without, that open it, and that read it into a buffer
pub data Kind : Type 0 where
  listing changing opening reading : Kind

-- the kind of a call
abbrev pub kind_of : Call → Kind
kind_of (add k key x list) = listing
kind_of (change k passphrase to x filler list) = listing
kind_of (revoke k filler list) = listing
kind_of (open_slot k passphrase) = opening
kind_of (open_any passphrase) = opening
kind_of (read key u n buffer) = reading
kind_of (write key u n buffer) = changing

-- the buffer that a call is lent to fill it
abbrev pub buffer_of : Call → List ℕ
buffer_of (add k key x list) = list
buffer_of (change k passphrase to x filler list) = list
buffer_of (revoke k filler list) = list
buffer_of (open_slot k passphrase) = []
buffer_of (open_any passphrase) = []
buffer_of (read key u n buffer) = buffer
buffer_of (write key u n buffer) = []

-- the `ensures` of the function of a call on an image
abbrev pub Ensured : List ℕ → Call → Returned → Type 0
Ensured image c (listed r after list v) = (kind_of c ≡ listing) × DoesListed built image c r after (buffer_of c) list v
Ensured image c (changed r after v) = (kind_of c ≡ changing) × Does built image c r after v
Ensured image c (opened r slot key_length key v) = (kind_of c ≡ opening) × DoesOpen built image c r slot key_length key v
Ensured image c (filled r after v) = (kind_of c ≡ reading) × DoesRead built image c r (buffer_of c) after v

-- openings and reads are lent the image shared, and leave it
abbrev pub image_left : List ℕ → Returned → List ℕ
image_left image (listed r after list v) = after
image_left image (changed r after v) = after
image_left image (opened r slot key_length key v) = image
image_left image (filled r buffer v) = image

-- the answer (01, "The answer that demand 3 compares") in what was returned
unfoldable pub answer_in : Returned → Answer
answer_in (listed r after list v) = record { code = r; slot = 0; key_length = 0; key = []; bytes = [] }
answer_in (changed r after v) = record { code = r; slot = 0; key_length = 0; key = []; bytes = [] }
answer_in (opened r slot key_length key v) = record { code = r; slot = slot; key_length = key_length; key = key; bytes = [] }
answer_in (filled r buffer v) = record { code = r; slot = 0; key_length = 0; key = []; bytes = cond (eqb r 0) buffer [] }

-- the number in it: 0, or the refusal's
abbrev pub number_in : Returned → ℕ
number_in r = (answer_in r).code

-- the number of values (02, Wish 6), which is no part of the answer
unfoldable pub values_in : Returned → ℕ
values_in (listed r after list v) = v
values_in (changed r after v) = v
values_in (opened r slot key_length key v) = v
values_in (filled r buffer v) = v

-- calls one after the other, each with what it returned
abbrev pub Trace : List ℕ → List Call → List Returned → Type 0
Trace image [] [] = Unit {0}
Trace image [] (r ∷ rs) = ⊥
Trace image (c ∷ cs) [] = ⊥
Trace image (c ∷ cs) (r ∷ rs) = Ensured image c r × Trace (image_left image r) cs rs

-- the image that the last of them left
abbrev pub last_left : List ℕ → List Returned → List ℕ
last_left image [] = image
last_left image (r ∷ rs) = last_left (image_left image r) rs

-- what the theorem says of them after an accepted format by the rules of a table: all that demand 3 says, of what the functions returned and left
pub record FollowsLedger (table : Table) (a : FormatInput) (image after : List ℕ) (cs : List Call) (rs : List Returned) : Type 0 where
  -- the whole image that they left is the ledger's, byte for byte
  pub image_is : last_left after rs ≡ ledger_image table (last_ledger table a image cs)
  -- each returned the ledger's answer
  pub answers_are : map answer_in rs ≡ ledger_answers table a image cs
  -- each live slot opens: open_slot, called on the image that they left with the slot's number and passphrase, returns 0, the slot, L and the key it was added with
  pub live_opens : (k : ℕ) → 1 ≤ k → k ≤ 8 → (key : List ℕ) (x : SlotInput) → entry_of (last_ledger table a image cs) k ≡ live key x
      → (r : Returned) → Ensured (last_left after rs) (open_slot k x.passphrase) r → r ≡ opened 0 k (key_bytes_of table a) (padded 64 key) (values_in r)
  -- each written sector reads back: read, called there with the key of its last writing, returns 0 and leaves in the buffer what was written
  pub written_reads : (u : ℕ) (key plain : List ℕ) → sector_entry_of (last_ledger table a image cs) u ≡ last_writing key plain
      → (buffer : List ℕ) → length buffer ≡ 512 → (r : Returned) → Ensured (last_left after rs) (read key u 1 buffer) r → r ≡ filled 0 plain (values_in r)
  -- functions called one after the other that end in one ledger leave one image, also after two different formats
  pub one_image : (a' : FormatInput) → FormatTyped a' → (image' after' : List ℕ) (v' : ℕ) → DoesFormat table a' image' 0 after' v'
      → (cs' : List Call) → AllTyped cs' → (rs' : List Returned) → Trace after' cs' rs'
      → last_ledger table a image cs ≡ last_ledger table a' image' cs' → last_left after rs ≡ last_left after' rs'
  -- after an add that returned 0 some slot is live
  pub some_live : add_accepted cs (map answer_in rs) ≡ true → SomeLive (last_ledger table a image cs)
