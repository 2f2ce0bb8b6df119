-- Laws of revoke: a slot other than this one that is enabled, and the room that the filler has.
use mathlib.Core.Path.{◌≡◌, refl, ap, ◌∙◌}
use mathlib.Core.Logic.{◌≢◌}
use mathlib.Core.List.{List, [], ◌∷◌}
use mathlib.Core.Bool.{Bool, true, false, ◌||◌}
use Prim.Native.Nat.{ℕ, zero, suc, ◌+◌, ◌-◌, ◌*◌, ◌≤◌, ◌<◌}
use native.Mathlib.Omega.{arith}
use lib.ListN.{length, get_or}
use borrow.Author.Tests.{eqb-true}
use Rattle.octets.proofs.BoolLaws.{or_yes, or_no}
use Rattle.rules.specs.Facts.{SlotFacts, facts_of, slot_of, is_enabled, no_slot}
use Rattle.rules.specs.Calls.{slot_number_ok, any_enabled, other_enabled, filler_ok}
use Rattle.header.specs.Records.{facts_in, HeaderOk}
use Rattle.rules.proofs.ArgumentLaws.{number_in}
use Rattle.header.proofs.CheckLaws.{at_index}
use Rattle.header.proofs.SoundLaws.{sound}

-- ---- a slot that is enabled, in a list of them

or_right : (a b : Bool) → true ≡ b → true ≡ (a || b)
or_right true b e = refl
or_right false b e = e

any_at : (xs : List SlotFacts) (j : ℕ) → j < length xs → is_enabled (get_or xs j no_slot) ≡ true → true ≡ any_enabled xs
unfolding any_enabled
any_at [] j h t = absurd (omega arith)
any_at (x ∷ xs) zero h t = or_yes (is_enabled x) (any_enabled xs) t
any_at (x ∷ xs) (suc j) h t = or_right (is_enabled x) (any_enabled xs) (any_at xs j (omega arith) t)

other_at : (xs : List SlotFacts) (k j : ℕ) → j < length xs → j ≢ k → is_enabled (get_or xs j no_slot) ≡ true → true ≡ other_enabled xs k
unfolding other_enabled
other_at [] k j h n t = absurd (omega arith)
other_at (x ∷ xs) zero zero h n t = absurd (n refl)
other_at (x ∷ xs) zero (suc j) h n t = any_at xs j (omega arith) t
other_at (x ∷ xs) (suc k) zero h n t = or_yes (is_enabled x) (other_enabled xs k) t
other_at (x ∷ xs) (suc k) (suc j) h n t = or_right (is_enabled x) (other_enabled xs k) (other_at xs k j (omega arith) (λ e. n (ap suc e)) t)

any_not : (xs : List SlotFacts) → ((j : ℕ) → j < length xs → is_enabled (get_or xs j no_slot) ≡ false) → false ≡ any_enabled xs
unfolding any_enabled
any_not [] t = refl
any_not (x ∷ xs) t = or_no (is_enabled x) (any_enabled xs) false (t 0 (omega arith)) (any_not xs (λ j h. t (suc j) (omega arith)))

other_not : (xs : List SlotFacts) (k : ℕ) → ((j : ℕ) → j < length xs → j ≢ k → is_enabled (get_or xs j no_slot) ≡ false) → false ≡ other_enabled xs k
unfolding other_enabled
other_not [] k t = refl
other_not (x ∷ xs) zero t = any_not xs (λ j h. t (suc j) (omega arith) (λ e. absurd (omega (arith, e))))
other_not (x ∷ xs) (suc k) t =
    or_no (is_enabled x) (other_enabled xs k) false (t 0 (omega arith) (λ e. absurd (omega (arith, e))))
    (other_not xs k (λ j h n. t (suc j) (omega arith) (λ e. n (omega (arith, e)))))

-- ---- a slot by its number, 1 to 8

-- no slot below this number but s is enabled
abbrev pub NoneBelow : List ℕ → ℕ → ℕ → Type 0
NoneBelow image s n = (k : ℕ) → 1 ≤ k → k < n → k ≢ s → is_enabled (slot_of (facts_in image) k) ≡ false

module _ (image : List ℕ) (s : ℕ) (h : slot_number_ok s ≡ true) where
  -- such a slot
  pub other_yes : (k : ℕ) → 1 ≤ k → k < 9 → k ≢ s → is_enabled (slot_of (facts_in image) k) ≡ true → true ≡ other_enabled (facts_in image).slot_facts (s - 1)
  unfolding slot_of facts_of
  other_yes k l m n t = other_at (facts_in image).slot_facts (s - 1) (k - 1) (omega arith) (λ e. n (omega (arith, e, (number_in s h).0))) t

  -- none
  pub other_none : NoneBelow image s 9 → false ≡ other_enabled (facts_in image).slot_facts (s - 1)
  unfolding facts_of
  other_none t =
      other_not (facts_in image).slot_facts (s - 1)
      (λ j l n. ap is_enabled (at_index image j) ∙ t (j + 1) (omega arith) (omega (arith, l)) (λ e. n (omega (arith, e))))

-- ---- the filler

pub filler-room : (image : List ℕ) → HeaderOk image → (slot : ℕ) → slot_number_ok slot ≡ true → (filler : List ℕ) → filler_ok (facts_in image) slot filler ≡ true
    → (slot_of (facts_in image) slot).start * 512 + length filler ≤ length image
unfolding filler_ok
filler-room image ok slot h filler e =
    let s = sound image ok in
    let l = eqb-true (length filler) ((slot_of (facts_in image) slot).stripes * (facts_in image).profile.key_bytes) e in
    omega (arith, l, (s.slot slot h).area_ends, s.payload_ends)
