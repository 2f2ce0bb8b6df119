-- How many values of HMAC a call makes (02, "Wish 6. How long an opening takes"), by one definition over facts and call.
use Rattle.std.specs.Prelude.{◌≡◌, List, cond, ℕ, zero, suc, ◌+◌, ◌≤◌, eqb}
use Rattle.rules.specs.Checks.{first}
use Rattle.rules.specs.Profiles.{Table}
use Rattle.rules.specs.Facts.{Facts, slot_of, facts_of}
use Rattle.rules.specs.Header.{header_checks}
use Rattle.rules.specs.Calls.{Call, add, change, revoke, open_slot, open_any, read, write, tried, opens, early_checks, late_checks}
use Rattle.rules.specs.Step.{step}
use Rattle.rules.specs.Format.{FormatInput, suite_for, format_checks}

-- one checksum: 20 bytes, with the header's count
unfoldable pub checksum_cost : Facts → ℕ
checksum_cost f = f.suite.made f.checksum_count 20

-- a derivation from a passphrase: L bytes, with a slot's count
unfoldable pub derivation_cost : Facts → ℕ → ℕ
derivation_cost f count = f.suite.made count f.profile.key_bytes

-- "A trial of one slot costs the slot's derivation and one checksum"
unfoldable pub trial_cost : Facts → ℕ → ℕ
trial_cost f k = derivation_cost f (slot_of f k).count + checksum_cost f

-- slot k where it is tried: a disabled slot is not
unfoldable pub enabled_cost : Facts → ℕ → ℕ
enabled_cost f k = cond (tried f k) (trial_cost f k) 0

-- "the sum of trials over all enabled slots" among the m slots from k
unfoldable pub trials_cost : Facts → ℕ → ℕ → ℕ
trials_cost f k zero = 0
trials_cost f k (suc m) = enabled_cost f k + trials_cost f (suc k) m

-- "Each slot that a call tries costs one trial": a search among the m slots from k tries the enabled ones up to the first that opens
unfoldable pub search_cost : Facts → List ℕ → ℕ → ℕ → ℕ
search_cost f passphrase k zero = 0
search_cost f passphrase k (suc m) = enabled_cost f k + cond (opens f k passphrase) 0 (search_cost f passphrase (suc k) m)

-- what 17 costs: "each given key that 17 tests one checksum", and each slot that is tried one trial
unfoldable pub test_cost : Facts → Call → ℕ
test_cost f (add k key x list) = checksum_cost f
test_cost f (change k passphrase to x filler list) = trial_cost f k
test_cost f (revoke k filler list) = 0
test_cost f (open_slot k passphrase) = trial_cost f k
test_cost f (open_any passphrase) = search_cost f passphrase 1 8
test_cost f (read key u n buffer) = checksum_cost f
test_cost f (write key u n buffer) = checksum_cost f

-- "an accepted add or change one derivation more"
unfoldable pub work_cost : Facts → Call → ℕ
work_cost f (add k key x list) = derivation_cost f x.count
work_cost f (change k passphrase to x filler list) = derivation_cost f x.count
work_cost f (revoke k filler list) = 0
work_cost f (open_slot k passphrase) = 0
work_cost f (open_any passphrase) = 0
work_cost f (read key u n buffer) = 0
work_cost f (write key u n buffer) = 0

-- a call on a drive whose header is accepted; "all else 0"
unfoldable pub cost : Facts → Call → ℕ
cost f c = cond (eqb (first (early_checks f c)) 0) (test_cost f c + cond (eqb (first (late_checks f c)) 0) (work_cost f c) 0) 0

-- a call on an image
unfoldable pub cost_on : Table → List ℕ → Call → ℕ
cost_on table image c = cond (eqb (first (header_checks table image)) 0) (cost (facts_of table image) c) 0

-- "an accepted format ... one checksum"
unfoldable pub format_cost : Table → FormatInput → List ℕ → ℕ
format_cost table a image = cond (eqb (first (format_checks table a image)) 0) ((suite_for table a).made a.count 20) 0

-- "An opening's total is at most the sum of trials over all enabled slots, and a search refused with 17 reaches that sum"
pub record OpeningCosts (table : Table) : Type 0 where
  pub slot_most : (image : List ℕ) (k : ℕ) (passphrase : List ℕ) → cost_on table image (open_slot k passphrase) ≤ trials_cost (facts_of table image) 1 8
  pub search_most : (image passphrase : List ℕ) → cost_on table image (open_any passphrase) ≤ trials_cost (facts_of table image) 1 8
  pub refused_reaches : (image passphrase : List ℕ) → (step table image (open_any passphrase)).said.code ≡ 17
      → cost_on table image (open_any passphrase) ≡ trials_cost (facts_of table image) 1 8
