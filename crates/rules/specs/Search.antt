-- The search (01: "Opening with no slot number tries enabled slots from 1 to 8 and stops at the first whose candidate has the header's checksum"), as
-- a statement about `seek` and about what a search answers; demand 2: it is refused with 17 "exactly when no enabled slot yields a key with the header's checksum".
use Rattle.std.specs.Prelude.{◌≡◌, ◌≢◌, List, true, false, ℕ, ◌≤◌}
use Rattle.rules.specs.Checks.{first}
use Rattle.rules.specs.Profiles.{Table}
use Rattle.rules.specs.Facts.{Facts, is_enabled, slot_of, matches, candidate, facts_of}
use Rattle.rules.specs.Header.{header_checks}
use Rattle.rules.specs.Calls.{passphrase_ok, seek, Answer, opened}

-- slot k is one of the "enabled slots from 1 to 8", and its candidate under the passphrase "has the header's checksum"
pub record SlotOpens (f : Facts) (passphrase : List ℕ) (k : ℕ) : Type 0 where
  pub least : 1 ≤ k
  pub most : k ≤ 8
  pub enabled_is : is_enabled (slot_of f k) ≡ true
  pub matches_is : matches f (candidate f k passphrase) ≡ true

-- no slot does
abbrev pub NoneOpens : Facts → List ℕ → Type 0
NoneOpens f passphrase = (k : ℕ) → SlotOpens f passphrase k → ⊥

-- slot k does, and is the first
pub record FirstOpens (f : Facts) (passphrase : List ℕ) (k : ℕ) : Type 0 where
  pub opens_itself : SlotOpens f passphrase k
  pub none_before : (j : ℕ) → SlotOpens f passphrase j → k ≤ j

-- the law of `seek`
pub record Seeks (f : Facts) (passphrase : List ℕ) : Type 0 where
  -- it gives 0 where no slot opens, and only there
  pub none_found : NoneOpens f passphrase → seek f passphrase 1 8 ≡ 0
  pub found_none : seek f passphrase 1 8 ≡ 0 → NoneOpens f passphrase
  -- and a slot's number where that slot is the first that opens, and only there
  pub first_found : (k : ℕ) → FirstOpens f passphrase k → seek f passphrase 1 8 ≡ k
  pub found_first : seek f passphrase 1 8 ≢ 0 → FirstOpens f passphrase (seek f passphrase 1 8)

-- the checks before 17 pass: the header check, and 14
pub record Past (table : Table) (image passphrase : List ℕ) : Type 0 where
  pub header_passes : first (header_checks table image) ≡ 0
  pub passphrase_passes : passphrase_ok passphrase ≡ true

-- a search on an image answered a
pub record Searched (table : Table) (image passphrase : List ℕ) (a : Answer) : Type 0 where
  -- 17 where no slot opens, past the earlier checks
  pub none_refused : Past table image passphrase → NoneOpens (facts_of table image) passphrase → a.code ≡ 17
  -- and only there
  pub refused_none : a.code ≡ 17 → Past table image passphrase × NoneOpens (facts_of table image) passphrase
  -- "17, also where no slot is enabled"
  pub none_enabled : Past table image passphrase → ((k : ℕ) → 1 ≤ k → k ≤ 8 → is_enabled (slot_of (facts_of table image) k) ≡ false) → a.code ≡ 17
  -- accepted where a slot opens: it is the first, with its candidate
  pub first_opened : (k : ℕ) → Past table image passphrase → FirstOpens (facts_of table image) passphrase k → a ≡ opened (facts_of table image) k passphrase
  -- and only there: the slot answered is the first
  pub opened_first : a.code ≡ 0 → Past table image passphrase × FirstOpens (facts_of table image) passphrase a.slot
