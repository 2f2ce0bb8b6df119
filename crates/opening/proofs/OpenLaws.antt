-- What a refused opening returns, a trial of the slot asked for, and the search over the slots with what it costs.
use mathlib.Core.Path.{◌≡◌, refl, sym, ap, subst, ◌∙◌}
use mathlib.Core.List.{List}
use mathlib.Core.Bool.{true, false}
use Prim.Native.Nat.{ℕ, suc, ◌+◌, ◌-◌, ◌≤◌}
use native.Mathlib.Numerals.{add-one}
use native.Mathlib.Omega.{arith}
use Rattle.std.specs.Prelude.{Option, None, ok_or, Result, Ok, Err, IsErrAnd}
use Rattle.octets.specs.Octets.{zeros}
use Rattle.rules.specs.Facts.{Facts}
use Rattle.rules.specs.Calls.{Call, open_slot, open_any, opens, seek, refused, no_key_bytes}
use Rattle.rules.specs.Costs.{enabled_cost, search_cost}
use Rattle.rules.specs.Promises.{DoesOpen}
use Rattle.rules.proofs.StepLaws as steps
use Rattle.rules.proofs.StepLaws.{opens_as}
use Rattle.rules.proofs.CostLaws.{search_here, search_on}
use Rattle.profiles.specs.Suites.{built}
use Rattle.header.specs.declared.refusal.Refused.{Refused}
use Rattle.header.specs.declared.slot.SlotNumber.{SlotNumber}
use Rattle.header.specs.Refusals.{number, answered}
use Rattle.hmac.specs.declared.Counted.{Counted}
use Rattle.slots.specs.Trials.{IsTrial}
use Rattle.opening.specs.declared.Opened.{Opened}
use Rattle.opening.specs.Opening.{IsFound, slot_in, length_in, key_in, values_in}

-- ---- refused openings

pub no-key-slot : (k : ℕ) (p : List ℕ) → no_key_bytes (open_slot k p) ≡ zeros 64
unfolding no_key_bytes
no-key-slot k p = refl

pub no-key_any : (p : List ℕ) → no_key_bytes (open_any p) ≡ zeros 64
unfolding no_key_bytes
no-key_any p = refl

-- refused with e, all else is zero
pub opens-refused : (image : List ℕ) (c : Call) → no_key_bytes c ≡ zeros 64 → (o : Result Opened Refused) (e : Refused) → IsErrAnd o (λ f. f ≡ e)
    → (r v : ℕ) → number e.refusal ≡ r → e.values ≡ v → steps.Refused built image c r v
    → DoesOpen built image c (answered o) (slot_in o) (length_in o) (key_in o) (values_in o)
unfolding refused
opens-refused image c n (Ok o) e h r v er ev q = absurd h
opens-refused image c n (Err f) e h r v er ev q =
    opens_as built image c _ _ (q.0, ap (λ (g : Refused). g.values) h ∙ ev ∙ q.1) _ _ _ _ (ap (λ (g : Refused). number g.refusal) h ∙ er) refl refl (sym n)

-- an accepted image is the one that was lent
pub opens_on : (i m : List ℕ) → i ≡ m → (c : Call) (r slot l : ℕ) (key : List ℕ) (v : ℕ) → DoesOpen built i c r slot l key v → DoesOpen built m c r slot l key v
opens_on i m e c r slot l key v = subst (λ (x : List ℕ). DoesOpen built x c r slot l key v) e

-- what `ok_or` refuses with
err_or : {A : Type 0} → Result A Refused → Refused → Refused
err_or (Ok x) d = d
err_or (Err e) d = e

pub refused_with : {A : Type 0} (o : Option A) (e d : Refused) → Err e ≡ ok_or o d → o ≡ None → e ≡ d
unfolding err_or
refused_with {A} o e d h n = ap (λ (r : Result A Refused). err_or r d) (h ∙ ap (λ (p : Option A). ok_or p d) n)

-- ---- a trial of the slot that was asked for, with the passphrase that was given

pub trial_as : (t : Counted (Option (List ℕ))) (f : Facts) (j k : ℕ) (q p : List ℕ) → j ≡ k → q ≡ p → IsTrial t f j q → IsTrial t f k p
trial_as t f j k q p ej eq h = subst (λ (x : ℕ). IsTrial t f x p) ej (subst (λ (x : List ℕ). IsTrial t f j x) eq h)

-- ---- a search with the passphrase that was given

pub found_as : (s : Counted (Option (SlotNumber × List ℕ))) (f : Facts) (q p : List ℕ) → q ≡ p → IsFound s f q → IsFound s f p
found_as s f q p e = subst (λ (x : List ℕ). IsFound s f x) e

-- ---- the search, where the slots below this one have been tried

module _ (f : Facts) (p : List ℕ) (slot n : ℕ) (e : seek f p slot (9 - slot) ≡ n) where
  pub seek_hit : slot ≤ 8 → opens f slot p ≡ true → slot ≡ n
  unfolding seek
  seek_hit h t =
      let m : 9 - slot ≡ suc (8 - slot) = omega arith in
      sym (ap (seek f p slot) m ∙ rw t) ∙ e

  pub seek_miss : slot ≤ 8 → opens f slot p ≡ false → seek f p (slot + 1) (9 - (slot + 1)) ≡ n
  unfolding seek
  seek_miss h t =
      let m : 9 - slot ≡ suc (9 - (slot + 1)) = omega arith in
      ap (λ (k : ℕ). seek f p k (9 - (slot + 1))) (add-one slot) ∙ sym (ap (seek f p slot) m ∙ rw t) ∙ e

  pub seek_none : slot ≡ 9 → 0 ≡ n
  unfolding seek
  seek_none h = sym (ap (λ (k : ℕ). seek f p k (9 - k)) h) ∙ e

-- ---- what it costs, where the slots below this one have cost v

module _ (f : Facts) (p : List ℕ) (slot v n : ℕ) (e : v + search_cost f p slot (9 - slot) ≡ n) where
  pub cost_hit : (w : ℕ) → slot ≤ 8 → opens f slot p ≡ true → w ≡ enabled_cost f slot → v + w ≡ n
  cost_hit w h t ew =
      let m : 9 - slot ≡ suc (8 - slot) = omega arith in
      omega (arith, ap (search_cost f p slot) m, search_here f p slot (8 - slot) t)

  pub cost_miss : (w : ℕ) → slot ≤ 8 → opens f slot p ≡ false → w ≡ enabled_cost f slot → v + w + search_cost f p (slot + 1) (9 - (slot + 1)) ≡ n
  cost_miss w h t ew =
      let m : 9 - slot ≡ suc (9 - (slot + 1)) = omega arith in
      let a = ap (λ (k : ℕ). search_cost f p k (9 - (slot + 1))) (add-one slot) in
      omega (arith, ap (search_cost f p slot) m, search_on f p slot (9 - (slot + 1)) t, a)

  pub cost_none : slot ≡ 9 → v ≡ n
  unfolding search_cost
  cost_none h =
      let x : v + 0 ≡ n = ap (λ (k : ℕ). v + search_cost f p k (9 - k)) (sym h) ∙ e in
      omega arith
