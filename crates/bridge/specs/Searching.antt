-- The search (01: "Opening with no slot number tries enabled slots from 1 to 8 and stops at the first whose candidate has the header's checksum"), of
-- what its function, opening::open, returns on any image; demand 2: 17 "exactly when no enabled slot yields a key with the header's checksum".
use Rattle.std.specs.Prelude.{◌≡◌, List, false, ℕ, ◌≤◌}
use Rattle.octets.specs.Octets.{zeros, padded}
use Rattle.rules.specs.Facts.{is_enabled, slot_of, candidate, facts_of}
use Rattle.rules.specs.Calls.{open_any}
use Rattle.rules.specs.Search.{NoneOpens, FirstOpens, Past}
use Rattle.profiles.specs.Suites.{built}
use Rattle.bridge.specs.Trace.{Returned, opened, Ensured, values_in}

-- a search with a passphrase
pub record SearchReturns (image passphrase : List ℕ) : Type 0 where
  -- past the earlier checks it returns 17, with zeros, where no enabled slot's candidate has the header's checksum
  pub none_refused : Past built image passphrase → NoneOpens (facts_of built image) passphrase
      → (r : Returned) → Ensured image (open_any passphrase) r → r ≡ opened 17 0 0 (zeros 64) (values_in r)
  -- and only there
  pub refused_none : (slot key_length : ℕ) (key : List ℕ) (v : ℕ) → Ensured image (open_any passphrase) (opened 17 slot key_length key v)
      → Past built image passphrase × NoneOpens (facts_of built image) passphrase
  -- "17, also where no slot is enabled"
  pub none_enabled : Past built image passphrase → ((k : ℕ) → 1 ≤ k → k ≤ 8 → is_enabled (slot_of (facts_of built image) k) ≡ false)
      → (r : Returned) → Ensured image (open_any passphrase) r → r ≡ opened 17 0 0 (zeros 64) (values_in r)
  -- where slot k is the first enabled one whose candidate has it, it returns 0, slot k, L and that candidate
  pub first_opened : (k : ℕ) → Past built image passphrase → FirstOpens (facts_of built image) passphrase k → (r : Returned) → Ensured image (open_any passphrase) r
      → r ≡ opened 0 k (facts_of built image).profile.key_bytes (padded 64 (candidate (facts_of built image) k passphrase)) (values_in r)
  -- and only there: the slot returned is the first
  pub opened_first : (slot key_length : ℕ) (key : List ℕ) (v : ℕ) → Ensured image (open_any passphrase) (opened 0 slot key_length key v)
      → Past built image passphrase × FirstOpens (facts_of built image) passphrase slot
