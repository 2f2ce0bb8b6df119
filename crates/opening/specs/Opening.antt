-- The code's answers of an opening beside the rules' words.
use Rattle.std.specs.Prelude.{◌≡◌, List, Option, Some, None, Result, Ok, Err, is_some, IfSome, ℕ, ltb}
use Rattle.octets.specs.Octets.{zeros, padded}
use Rattle.rules.specs.Facts.{Facts, candidate}
use Rattle.rules.specs.Calls.{seek}
use Rattle.rules.specs.Costs.{search_cost}
use Rattle.header.specs.declared.refusal.Refused.{Refused}
use Rattle.header.specs.declared.slot.SlotNumber.{SlotNumber}
use Rattle.hmac.specs.declared.Counted.{Counted}
use Rattle.opening.specs.declared.Opened.{Opened}

-- ---- what an opening answers (01: "refused, all of these are zero")

abbrev pub slot_in : Result Opened Refused → ℕ
slot_in (Ok o) = o.slot
slot_in (Err r) = 0

abbrev pub length_in : Result Opened Refused → ℕ
length_in (Ok o) = o.key_length
length_in (Err r) = 0

abbrev pub key_in : Result Opened Refused → List ℕ
key_in (Ok o) = o.key
key_in (Err r) = zeros 64

-- how many values of HMAC it made, accepted or refused
abbrev pub values_in : Result Opened Refused → ℕ
values_in (Ok o) = o.values
values_in (Err r) = r.values

-- ---- a search

-- the slot found, counted from 1, or 0
abbrev pub slot_found : Option (SlotNumber × List ℕ) → ℕ
slot_found None = 0
slot_found (Some found) = found.0.number

-- a search: whether any slot opens, the first that does, its key, and what the search cost
pub record IsFound (s : Counted (Option (SlotNumber × List ℕ))) (f : Facts) (passphrase : List ℕ) : Type 0 where
  pub any_is : is_some s.value ≡ ltb 0 (seek f passphrase 1 8)
  pub slot_is : slot_found s.value ≡ seek f passphrase 1 8
  pub key_is : IfSome s.value (λ found. found.1 ≡ padded 64 (candidate f (seek f passphrase 1 8) passphrase))
  pub values_are : s.made ≡ search_cost f passphrase 1 8
