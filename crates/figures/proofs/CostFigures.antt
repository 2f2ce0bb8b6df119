-- The figures of Wish 6 of 02: the largest sum of trials, and that 64 bits hold the number of every call.
use mathlib.Core.Path.{◌≡◌}
use mathlib.Core.List.{List, [], ◌∷◌, map}
use mathlib.Core.Bool.{Bool, true, false, cond}
use Prim.Native.Nat.{ℕ, zero, suc, ◌+◌, ◌-◌, ◌*◌, ◌^◌, ◌≤◌, ◌<◌}
use native.Mathlib.Nat.{suc-mul, mul-le-mul}
use native.Mathlib.Omega.{arith}
use lib.Dec.{eqb}
use lib.ListN.{get_or, drop}
use Rattle.octets.specs.Octets.{Bytes, be32_at}
use Rattle.octets.specs.Splice.{part}
use Rattle.octets.proofs.OctetsLaws.{bytes_take, bytes_drop}
use Rattle.hash.specs.Hash.{digest_of}
use Rattle.pbkdf2.specs.Pbkdf2.{values_made}
use Rattle.rules.specs.Checks.{first}
use Rattle.rules.specs.Profiles.{Profile, no_profile, profile_at}
use Rattle.rules.specs.Layout.{slots}
use Rattle.rules.specs.Facts.{Facts, is_enabled, no_slot, slot_of, slot_at, profile_in, facts_of}
use Rattle.rules.specs.Header.{header_checks}
use Rattle.rules.specs.Calls.{Call, add, change, revoke, open_slot, open_any, read, write, early_checks, late_checks}
use Rattle.rules.specs.Format.{FormatInput, format_checks}
use Rattle.rules.specs.Costs.{checksum_cost, derivation_cost, trial_cost, enabled_cost, trials_cost, test_cost, work_cost, cost, cost_on, format_cost}
use Rattle.rules.proofs.CostLaws.{search_most}
use Rattle.profiles.specs.Rows.{hash_of, aes_xts_row, rows}
use Rattle.profiles.specs.Suites.{aes_xts, suite_of, built}
use Rattle.profiles.proofs.CostLaws.{checksum-made, blocks-most, key_blocks, checksum-cost, derivation_cost_lem}
use Rattle.ledger.specs.Demand3.{FormatTyped, Typed}
use Rattle.cuts.proofs.EntryLaws.{be32_at-most}
use Rattle.figures.specs.Figures.{Largest, largest_sum}

-- ---- sums of m slots from k

module _ (f : Facts) (t : ℕ) where
  trials_same : (k m : ℕ) → ((j : ℕ) → k ≤ j → j < k + m → enabled_cost f j ≡ t) → trials_cost f k m ≡ m * t
  unfolding trials_cost
  trials_same k zero h = omega arith
  trials_same k (suc m) h =
      let a = h k (omega arith) (omega arith) in
      let b = trials_same (suc k) m (λ j l n. h j (omega arith) (omega arith)) in
      omega (arith, suc-mul m t)

  trials_bound : ((j : ℕ) → enabled_cost f j ≤ t) → (k m : ℕ) → trials_cost f k m ≤ m * t
  unfolding trials_cost
  trials_bound h k zero = omega arith
  trials_bound h k (suc m) = omega (arith, h k, trials_bound h (suc k) m, suc-mul m t)

-- ---- the largest

pub largest_trials : (f : Facts) → Largest f → trials_cost f 1 8 ≡ largest_sum
unfolding enabled_cost trial_cost derivation_cost checksum_cost suite_of aes_xts hash_of values_made
largest_trials f h =
    trials_same f 21474836475 1 8
    (λ j l n. rw (h.enabled_all j l (omega arith), h.counts_are j l (omega arith), h.suite_is, h.key_is, h.checksum_is))

-- ---- no drive's is larger

either-most : (b : Bool) (p q : Profile) → p.key_bytes ≤ 64 → q.key_bytes ≤ 64 → (cond b p q).key_bytes ≤ 64
either-most true p q h k = h
either-most false p q h k = k

key_most : (k : ℕ) → (profile_at rows k).key_bytes ≤ 64
unfolding profile_at rows aes_xts_row no_profile
key_most k =
    either-most (eqb 1 k) (aes_xts_row 1 32) _ (omega arith)
    (either-most (eqb 2 k) (aes_xts_row 2 64) _ (omega arith)
    (either-most (eqb 3 k) (aes_xts_row 3 32) _ (omega arith) (either-most (eqb 4 k) (aes_xts_row 4 64) no_profile (omega arith) (omega arith))))

module _ (image : List ℕ) (bytes : Bytes image) where
  abbrev f : Facts
  f = facts_of built image

  -- the largest count
  abbrev C : ℕ
  C = 2 ^ 32 - 1

  checksum-most : checksum_cost f ≤ C
  unfolding facts_of
  checksum-most = omega (arith, checksum-cost image, be32_at-most image bytes 164)

  derivation_most : (count : ℕ) → count ≤ C → derivation_cost f count ≤ C * 4
  unfolding facts_of
  derivation_most count h =
      let b : key_blocks image ≤ 4 = blocks-most (hash_of (profile_in rows image)) _ (key_most (profile_in rows image)) in
      omega (arith, derivation_cost_lem image count, mul-le-mul h b)

  slot-count-most : (L i : ℕ) → (slot_at image L i).count ≤ C
  unfolding slot_at part
  slot-count-most L i = omega (arith, be32_at-most (part image (208 + i * 48) 48) (bytes_take 48 (drop (208 + i * 48) image) (bytes_drop (208 + i * 48) image bytes)) 4)

  counts_most : (L : ℕ) (is : List ℕ) (j : ℕ) → (get_or (map (slot_at image L) is) j no_slot).count ≤ C
  unfolding no_slot
  counts_most L [] j = omega arith
  counts_most L (i ∷ is) zero = slot-count-most L i
  counts_most L (i ∷ is) (suc j) = counts_most L is j

  trial-most : (k : ℕ) → trial_cost f k ≤ C * 5
  unfolding trial_cost facts_of slot_of
  trial-most k = omega (arith, derivation_most (slot_of f k).count (counts_most (be32_at image 108) slots (k - 1)), checksum-most)

  enabled-most : (k : ℕ) → enabled_cost f k ≤ C * 5
  unfolding enabled_cost
  enabled-most k = go (is_enabled (slot_of f k))
    where
      go : (b : Bool) → cond b (trial_cost f k) 0 ≤ C * 5
      go true = trial-most k
      go false = omega arith

  pub trials_most : trials_cost (facts_of built image) 1 8 ≤ largest_sum
  trials_most = trials_bound f (C * 5) enabled-most 1 8

  -- ---- nor is any call's number beyond 64 bits

  test-most : (c : Call) → test_cost f c ≤ largest_sum
  unfolding test_cost
  test-most (add k key x list) = omega (arith, checksum-most)
  test-most (change k passphrase to x filler list) = omega (arith, trial-most k)
  test-most (revoke k filler list) = omega arith
  test-most (open_slot k passphrase) = omega (arith, trial-most k)
  test-most (open_any passphrase) = omega (arith, search_most f passphrase 1 8, trials_most)
  test-most (read key u n buffer) = omega (arith, checksum-most)
  test-most (write key u n buffer) = omega (arith, checksum-most)

  work_most : (c : Call) → Typed c → work_cost f c ≤ C * 4
  unfolding work_cost
  work_most (add k key x list) t = derivation_most x.count (omega (arith, t.1.count_most))
  work_most (change k passphrase to x filler list) t = derivation_most x.count (omega (arith, t.count_most))
  work_most (revoke k filler list) t = omega arith
  work_most (open_slot k passphrase) t = omega arith
  work_most (open_any passphrase) t = omega arith
  work_most (read key u n buffer) t = omega arith
  work_most (write key u n buffer) t = omega arith

  pub values_most : (c : Call) → Typed c → cost_on built image c < 2 ^ 64
  unfolding cost_on cost
  values_most c t = go (eqb (first (header_checks built image)) 0) (eqb (first (early_checks f c)) 0) (eqb (first (late_checks f c)) 0)
    where
      go : (h e l : Bool) → cond h (cond e (test_cost f c + cond l (work_cost f c) 0) 0) 0 < 2 ^ 64
      go true true true = omega (arith, test-most c, work_most c t)
      go true true false = omega (arith, test-most c)
      go true false l = omega arith
      go false e l = omega arith

pub format_values_most : (a : FormatInput) (image : List ℕ) → FormatTyped a → format_cost built a image < 2 ^ 64
unfolding format_cost suite_of aes_xts
format_values_most a image t = go (eqb (first (format_checks built a image)) 0)
  where
    go : (b : Bool) → cond b (values_made (digest_of (hash_of a.profile)).size a.count 20) 0 < 2 ^ 64
    go true = omega (arith, checksum-made (hash_of a.profile) a.count, t.count_most)
    go false = omega arith
