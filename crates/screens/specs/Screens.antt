-- The two screens of a drive's key slots (02, "Wish 2"), and what each tells of an image.
use Rattle.std.specs.Prelude.{◌≡◌, List, map, true, cond, ℕ, eqb, replicate}
use Rattle.rules.specs.Checks.{first}
use Rattle.rules.specs.Profiles.{Table}
use Rattle.rules.specs.Facts.{Facts, SlotFacts, is_enabled, slot_of, facts_of}
use Rattle.rules.specs.Header.{header_checks}
use Rattle.rules.specs.Calls.{slot_number_ok}

-- "the refusal number and eight entries"
pub record Screen (E : Type 0) : Type 0 where
  pub code : ℕ
  pub entries : List E

-- the screen of an image, with an entry for each slot; "zeros after a header refusal"
module _ {E : Type 0} where
  unfoldable pub screen : (SlotFacts → E) → E → Table → List ℕ → Screen E
  screen entry zero table image =
      let r = first (header_checks table image) in
      record { code = r; entries = cond (eqb r 0) (map entry (facts_of table image).slot_facts) (replicate 8 zero) }

-- "1 or 0 for enabled"
unfoldable pub enabled_bit : SlotFacts → ℕ
enabled_bit s = cond (is_enabled s) 1 0

-- "on the second screen also these three numbers": counts, area starts and stripes
pub record Details : Type 0 where
  pub enabled : ℕ
  pub count : ℕ
  pub start : ℕ  -- in sectors of the image
  pub stripes : ℕ

-- "as the header has them, disabled slots too"
unfoldable pub details_of : SlotFacts → Details
details_of s = record { enabled = enabled_bit s; count = s.count; start = s.start; stripes = s.stripes }

-- zeros
unfoldable pub no_details : Details
no_details = record { enabled = 0; count = 0; start = 0; stripes = 0 }

-- the first screen: "Station staff should see only which slots are enabled"
abbrev pub slot_screen : Table → List ℕ → Screen ℕ
slot_screen = screen enabled_bit 0

-- the second screen: "Our service people also see counts, area starts and stripes"
abbrev pub detail_screen : Table → List ℕ → Screen Details
detail_screen = screen details_of no_details

-- what the contracts say: number and entries are the screen's
pub record Shows {E : Type 0} (s : Screen E) (code : ℕ) (entries : List E) : Type 0 where
  pub code_is : code ≡ s.code
  pub entries_are : entries ≡ s.entries

-- the second screen for C, its entries in four arrays
pub record ShowsArrays (s : Screen Details) (code : ℕ) (enabled counts starts stripes : List ℕ) : Type 0 where
  pub code_is : code ≡ s.code
  pub enabled_are : enabled ≡ map (λ e. e.enabled) s.entries
  pub counts_are : counts ≡ map (λ e. e.count) s.entries
  pub starts_are : starts ≡ map (λ e. e.start) s.entries
  pub stripes_are : stripes ≡ map (λ e. e.stripes) s.entries

-- ---- "Images that pass the header check give the same screen exactly when they agree in its fields"

-- two drives agree in a field of each of the eight slots
abbrev pub SameIn : {A : Type 0} → (SlotFacts → A) → Facts → Facts → Type 0
SameIn field f g = (k : ℕ) → slot_number_ok k ≡ true → field (slot_of f k) ≡ field (slot_of g k)

-- the second screen's fields
pub record SameDetails (f g : Facts) : Type 0 where
  pub state_same : SameIn (λ s. s.state) f g
  pub count_same : SameIn (λ s. s.count) f g
  pub start_same : SameIn (λ s. s.start) f g
  pub stripes_same : SameIn (λ s. s.stripes) f g

-- the statement, of two images that pass the header check
pub record ScreensTell (table : Table) (image other : List ℕ) : Type 0 where
  -- the first screens are the same where the same slots are enabled: the screen tells nothing else of the drive
  pub slots_same : SameIn is_enabled (facts_of table image) (facts_of table other) → slot_screen table image ≡ slot_screen table other
  -- and only there: the screen tells each slot that is enabled
  pub slots_told : slot_screen table image ≡ slot_screen table other → SameIn is_enabled (facts_of table image) (facts_of table other)
  -- the second screens are the same where the drives agree in state, count, start and stripes of every slot
  pub details_same : SameDetails (facts_of table image) (facts_of table other) → detail_screen table image ≡ detail_screen table other
  -- and only there
  pub details_told : detail_screen table image ≡ detail_screen table other → SameDetails (facts_of table image) (facts_of table other)
