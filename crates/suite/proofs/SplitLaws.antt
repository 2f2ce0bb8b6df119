-- Laws of the splitter over any diffusion function that keeps lengths: merging undoes splitting; stripes one after the other.
use mathlib.Core.Path.{◌≡◌, sym, ap, ap₂, ◌∙◌}
use mathlib.Core.List.{List, [], ◌∷◌, ◌++◌}
use Prim.Native.Nat.{ℕ, zero, suc, ◌+◌, ◌-◌, ◌*◌, ◌≤◌, ◌<◌}
use native.Mathlib.Nat.{mul-le-mul_right}
use native.Mathlib.Omega.{arith}
use lib.ListN.{length, take, drop, length-drop}
use lib.Seq.{take_at, drop_at, take-append-le, drop-append-le, take-append-add, drop-append-add, drop-drop}
use Rattle.octets.specs.Octets.{Str, xors, zeros}
use Rattle.octets.proofs.OctetsLaws.{str_cast, str_append, str_take, str_drop, str_zeros, str_xors, xors_cancel}
use Rattle.suite.specs.Split.{running, split, merge_from, merge}

-- n stripes are n − 1 and the last
pub last-stripe : (n L : ℕ) → 1 ≤ n → (n - 1) * L + L ≡ n * L
last-stripe n L h =
    let e : n ≡ suc (n - 1) = omega arith in
    let f : n * L ≡ suc (n - 1) * L = ap (λ k. k * L) e in
    omega arith

-- stripe m lies within count stripes
pub stripe-inside : (L m count : ℕ) → m < count → m * L + L ≤ count * L
stripe-inside L m count h = let k : (m + 1) * L ≤ count * L = mul-le-mul_right L (let j : m + 1 ≤ count = omega arith in j) in omega arith

-- ---- merging undoes splitting

module _ (H : List ℕ → List ℕ) (keeps : (n : ℕ) (x : List ℕ) → Str n x → Str n (H x)) (L : ℕ) where
  str_running : (m : ℕ) (d s : List ℕ) → Str L d → Str (m * L) s → Str L (running H L d m s)
  unfolding running
  str_running zero d s h k = h
  str_running (suc m) d s h k =
      let k' : Str (L + m * L) s = str_cast (omega arith) k in
      str_running m (H (xors d (take L s))) (drop L s) (keeps L (xors d (take L s)) (str_xors (take L s) h (str_take L (m * L) k').byte)) (str_drop L (m * L) k')

  module _ (n : ℕ) (l : 1 ≤ n) where
    pub str_split : (random key : List ℕ) → Str ((n - 1) * L) random → Str L key → Str (n * L) (split H L n random key)
    unfolding split
    str_split random key h k =
        str_cast (last-stripe n L l) (str_append h (str_xors key (str_running (n - 1) (zeros L) random (str_zeros L) h) k.byte))

    pub str_merge : (s : List ℕ) → Str (n * L) s → Str L (merge H L n s)
    unfolding merge merge_from
    str_merge s h =
        let h' : Str ((n - 1) * L + L) s = str_cast (sym (last-stripe n L l)) h in
        str_xors (drop ((n - 1) * L) s) (str_running (n - 1) (zeros L) (take ((n - 1) * L) s) (str_zeros L) (str_take ((n - 1) * L) L h'))
        (str_drop ((n - 1) * L) L h').byte

    pub merge-split : (random key : List ℕ) → Str ((n - 1) * L) random → Str L key → merge H L n (split H L n random key) ≡ key
    unfolding merge merge_from split
    merge-split random key h k =
        let d = running H L (zeros L) (n - 1) random in
        let dh : Str L d = str_running (n - 1) (zeros L) random (str_zeros L) h in
        rw (take_at random (xors d key) ((n - 1) * L) h.len, drop_at random (xors d key) ((n - 1) * L) h.len)
        (xors_cancel d key (dh.len ∙ sym k.len))

-- ---- stripes one after the other

module _ (H : List ℕ → List ℕ) (L : ℕ) where
  -- a turn of a loop over stripes that ends in q
  pub running-step : (m count at : ℕ) (d d' s q : List ℕ) → m < count → d' ≡ H (xors d (take L (drop at s)))
      → running H L d (count - m) (drop at s) ≡ q → running H L d' (count - (m + 1)) (drop (at + L) s) ≡ q
  unfolding running
  running-step m count at d d' s q h ed e =
      let a : count - m ≡ suc (count - (m + 1)) = omega arith in
      ap₂ (λ (x y : List ℕ). running H L x (count - (m + 1)) y) ed (sym (drop-drop L at s))
      ∙ ap (λ (n : ℕ). running H L d n (drop at s)) (sym a) ∙ e

  pub running-end : (m count : ℕ) (d s q : List ℕ) → count ≤ m → running H L d (count - m) s ≡ q → d ≡ q
  unfolding running
  running-end m count d s q h e =
      let a : count - m ≡ 0 = omega arith in
      ap (λ (n : ℕ). running H L d n s) (sym a) ∙ e

  running-append : (m k : ℕ) (d y z : List ℕ) → length y ≡ m * L → running H L d (m + k) (y ++ z) ≡ running H L (running H L d m y) k z
  unfolding running
  running-append zero k d [] z l = ap (λ (n : ℕ). running H L d n z) (let e : 0 + k ≡ k = omega arith in e)
  running-append zero k d (x ∷ y) z l = absurd (omega arith)
  running-append (suc m) k d y z l =
      let e : suc m + k ≡ suc (m + k) = omega arith in
      let ly : length (drop L y) ≡ m * L = length-drop L y ∙ omega arith in
      ap (λ (n : ℕ). running H L d n (y ++ z)) e
      ∙ ap₂ (λ (a b : List ℕ). running H L (H (xors d a)) (m + k) b) (take-append-le L y z (omega arith)) (drop-append-le L y z (omega arith))
      ∙ running-append m k (H (xors d (take L y))) (drop L y) z ly

  -- whole stripes in front of what is merged
  pub merge_from-append : (j m : ℕ) (d y z : List ℕ) → m ≤ j → length y ≡ m * L
      → merge_from H L d j (y ++ z) ≡ merge_from H L (running H L d m y) (j - m) z
  unfolding merge_from
  merge_from-append j m d y z h l =
      let e : j ≡ m + (j - m) = omega arith in
      let f : j * L ≡ length y + (j - m) * L = ap (λ (n : ℕ). n * L) e ∙ omega (arith, l) in
      ap (λ (n : ℕ). xors (running H L d j (take n (y ++ z))) (drop n (y ++ z))) f
      ∙ ap₂ (λ (a b : List ℕ). xors (running H L d j a) b) (take-append-add y z ((j - m) * L)) (drop-append-add y z ((j - m) * L))
      ∙ ap (λ (n : ℕ). xors (running H L d n (y ++ take ((j - m) * L) z)) (drop ((j - m) * L) z)) e
      ∙ ap (λ (x : List ℕ). xors x (drop ((j - m) * L) z)) (running-append m (j - m) d y (take ((j - m) * L) z) l)
