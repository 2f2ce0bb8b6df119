-- The numbers that the functions returned (02, "Wish 6. How long an opening takes"): each is the ledger's, and an opening's has a bound.
use Rattle.std.specs.Prelude.{◌≡◌, List, map, ℕ, ◌≤◌}
use Rattle.rules.specs.Profiles.{Table}
use Rattle.rules.specs.Facts.{facts_of}
use Rattle.rules.specs.Calls.{Call, open_any}
use Rattle.rules.specs.Format.{FormatInput}
use Rattle.rules.specs.Costs.{checksum_cost, trials_cost}
use Rattle.profiles.specs.Suites.{built}
use Rattle.ledger.specs.Ledger.{ledger_facts, start_ledger}
use Rattle.ledger.specs.Costs.{ledger_values}
use Rattle.bridge.specs.Trace.{Returned, opened, opening, kind_of, Ensured, values_in}

-- format's function accepted by the rules of a table and returned v, and calls followed one after the other: the ledger alone foretells each number
pub record CountsFollow (table : Table) (a : FormatInput) (image : List ℕ) (v : ℕ) (cs : List Call) (rs : List Returned) : Type 0 where
  pub format_is : v ≡ checksum_cost (ledger_facts table (start_ledger table a image))
  pub values_are : map values_in rs ≡ ledger_values table a image cs

-- on any image, also one that another tool wrote: "An opening's total is at most the sum of trials over all enabled slots, and a search refused
-- with 17 reaches that sum"
pub record OpeningsCounted (image : List ℕ) : Type 0 where
  pub opening_most : (c : Call) → kind_of c ≡ opening → (r : Returned) → Ensured image c r → values_in r ≤ trials_cost (facts_of built image) 1 8
  pub refused_reaches : (passphrase : List ℕ) (slot key_length : ℕ) (key : List ℕ) (v : ℕ) → Ensured image (open_any passphrase) (opened 17 slot key_length key v)
      → v ≡ trials_cost (facts_of built image) 1 8
  -- and one that opens a slot costs the sum up to that slot, and with it
  pub opened_reaches : (passphrase : List ℕ) (slot key_length : ℕ) (key : List ℕ) (v : ℕ) → Ensured image (open_any passphrase) (opened 0 slot key_length key v)
      → v ≡ trials_cost (facts_of built image) 1 slot
