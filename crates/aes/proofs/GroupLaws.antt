-- Words in groups: word i of group k has index a k i. A loop that replaces one group after the other.
use mathlib.Core.Path.{◌≡◌, refl, sym, ap, ap₂, ◌∙◌}
use mathlib.Core.Logic.{◌≢◌, ⊎_elim}
use mathlib.Core.List.{List, [], ◌∷◌}
use Prim.Native.Nat.{ℕ, zero, suc, ◌+◌, ◌*◌, ◌<◌, ◌≤◌}
use native.Mathlib.Nat.{eq-or-lt_of_le}
use native.Mathlib.Omega.{arith}
use lib.ListN.{length, get_or, set, length-set}
use lib.Seq.{get_or-set_same, get_or-set_other}
use Rattle.bitslice.specs.Words.{ones}
use Rattle.aes.specs.Planes.{cell}
use Rattle.aes.specs.Columns.{elems, at4}
use Rattle.aes.proofs.ListLaws.{eights}

module _ (a : ℕ → ℕ → ℕ) where
  -- q with words of group k replaced, from the one at i
  abbrev puts : ℕ → ℕ → List ℕ → List ℕ → List ℕ
  puts k i [] q = q
  puts k i (r ∷ rs) q = puts k (suc i) rs (set q (a k i) r)

  length-puts : (k i : ℕ) (rs q : List ℕ) → length (puts k i rs q) ≡ length q
  length-puts k i [] q = refl
  length-puts k i (r ∷ rs) q = length-puts k (suc i) rs (set q (a k i) r) ∙ length-set q (a k i) r

  puts-other : (k i v : ℕ) (rs q : List ℕ) → ((m : ℕ) → i ≤ m → m < i + length rs → v ≢ a k m) → get_or (puts k i rs q) v 0 ≡ get_or q v 0
  puts-other k i v [] q h = refl
  puts-other k i v (r ∷ rs) q h =
      puts-other k (suc i) v rs (set q (a k i) r) (λ m l u. h m (omega arith) (omega arith))
      ∙ get_or-set_other q (a k i) v r 0 (h i (omega arith) (omega arith))

  pub elem_at : (k i m n : ℕ) (q : List ℕ) → m < n → get_or (elems a k i n q) m 0 ≡ get_or q (a k (i + m)) 0
  elem_at k i m zero q h = absurd (omega arith)
  elem_at k i zero (suc n) q h = let e : i ≡ i + 0 = omega arith in ap (λ (x : ℕ). get_or q (a k x) 0) e
  elem_at k i (suc m) (suc n) q h =
      let e : suc i + m ≡ i + suc m = omega arith in
      elem_at k (suc i) m n q (omega arith) ∙ ap (λ (x : ℕ). get_or q (a k x) 0) e

  -- g groups of n words each, no two of which have a word in common
  pub record Apart (g n : ℕ) : Type 0 where
    pub inside : (k i : ℕ) → k < g → i < n → a k i < 128
    pub inner : (k i j : ℕ) → k < g → i < j → j < n → a k i ≢ a k j
    pub outer : (k l i j : ℕ) → k < g → l < g → i < n → j < n → k ≢ l → a k i ≢ a l j

  module _ (g n : ℕ) (s : Apart g n) where
    here : (k i m : ℕ) (rs q : List ℕ) → k < g → i + m ≡ n → length rs ≡ m → length q ≡ 128 → elems a k i m (puts k i rs q) ≡ rs
    here k i zero [] q hk e l lq = refl
    here k i zero (r ∷ rs) q hk e l lq = absurd (omega arith)
    here k i (suc m) [] q hk e l lq = absurd (omega arith)
    here k i (suc m) (r ∷ rs) q hk e l lq =
        ap₂ ◌∷◌
        (puts-other k (suc i) (a k i) rs (set q (a k i) r) (λ j h u. s.inner k i j hk h (omega arith))
        ∙ get_or-set_same q (a k i) r 0 (let b : a k i < 128 = s.inside k i hk (omega arith) in omega arith))
        (here k (suc i) m rs (set q (a k i) r) hk (omega arith) (omega arith) (length-set q (a k i) r ∙ lq))

    there : (k l i m : ℕ) (rs q : List ℕ) → k < g → l < g → k ≢ l → i + m ≡ n → length rs ≡ n → elems a l i m (puts k 0 rs q) ≡ elems a l i m q
    there k l i zero rs q hk hl d e z = refl
    there k l i (suc m) rs q hk hl d e z =
        ap₂ ◌∷◌ (puts-other k 0 (a l i) rs q (λ j h u. s.outer l k i j hl hk (omega arith) (omega arith) (λ x. d (sym x))))
        (there k l (suc i) m rs q hk hl d (omega arith) z)

    -- the groups below p are replaced by F, and the others are as in R
    pub record Done (F R : ℕ → List ℕ) (p : ℕ) (q : List ℕ) : Type 0 where
      pub size : length q ≡ 128
      pub new : (m : ℕ) → m < p → elems a m 0 n q ≡ F m
      pub old : (m : ℕ) → p ≤ m → m < g → elems a m 0 n q ≡ R m

    pub done_none : (F R : ℕ → List ℕ) (q : List ℕ) → length q ≡ 128 → ((m : ℕ) → elems a m 0 n q ≡ R m) → Done F R 0 q
    done_none F R q l e = record { size = l; new = λ m h. absurd (omega arith); old = λ m h u. e m }

    pub done_more : (F R : ℕ → List ℕ) (p : ℕ) (rs q : List ℕ) → p < g → length rs ≡ n → rs ≡ F p → Done F R p q → Done F R (p + 1) (puts p 0 rs q)
    done_more F R p rs q hp l e d = record {
      size = length-puts p 0 rs q ∙ d.size;
      new = λ m h. ⊎_elim
          (λ z. ap (λ (x : ℕ). elems a x 0 n (puts p 0 rs q)) z ∙ here p 0 n rs q hp (omega arith) l d.size ∙ e ∙ ap F (sym z))
          (λ z. there p m 0 n rs q hp (omega arith) (λ x. absurd (omega arith)) (omega arith) l ∙ d.new m z)
          (eq-or-lt_of_le (below m h));
      old = λ m h u. there p m 0 n rs q hp u (λ x. absurd (omega arith)) (omega arith) l ∙ d.old m (omega arith) u;
    }
      where
        below : (m : ℕ) → m < p + 1 → m ≤ p
        below m h = omega arith

-- ---- the groups that AES has

-- the eight words of a byte: group k of 16
abbrev pub at16 : ℕ → ℕ → ℕ
at16 k zero = k
at16 k (suc i) = k + 16 * suc i

pub apart16 : Apart at16 16 8
apart16 = record { inside = in16; inner = inner16; outer = outer16 }
  where
    is : (k i : ℕ) → at16 k i ≡ k + 16 * i
    is k zero = omega arith
    is k (suc i) = refl

    in16 : (k i : ℕ) → k < 16 → i < 8 → at16 k i < 128
    in16 k i h l = let e : at16 k i ≡ k + 16 * i = is k i in omega arith

    inner16 : (k i j : ℕ) → k < 16 → i < j → j < 8 → at16 k i ≢ at16 k j
    inner16 k i j h l u x =
        let e : at16 k i ≡ k + 16 * i = is k i in let f : at16 k j ≡ k + 16 * j = is k j in absurd (omega (arith, x))

    outer16 : (k l i j : ℕ) → k < 16 → l < 16 → i < 8 → j < 8 → k ≢ l → at16 k i ≢ at16 l j
    outer16 k l i j hk hl hi hj d x =
        let e : at16 k i ≡ k + 16 * i = is k i in let f : at16 l j ≡ l + 16 * j = is l j in d (omega (arith, x))

-- one byte more through f, its eight words stored one by one
pub cell_more : (f : ℕ → List ℕ → List ℕ) → ((x : List ℕ) → length (f ones x) ≡ 8) → (q₀ q r : List ℕ) (p : ℕ) → p < 16
    → Done at16 16 8 apart16 (λ m. f ones (cell m q₀)) (λ m. cell m q₀) p q → r ≡ f ones (cell p q)
    → Done at16 16 8 apart16 (λ m. f ones (cell m q₀)) (λ m. cell m q₀) (p + 1)
    (puts at16 p 0 (get_or r 0 0 ∷ get_or r 1 0 ∷ get_or r 2 0 ∷ get_or r 3 0 ∷ get_or r 4 0 ∷ get_or r 5 0 ∷ get_or r 6 0 ∷ get_or r 7 0 ∷ []) q)
cell_more f lf q₀ q r p h d e =
    let rs : List ℕ = get_or r 0 0 ∷ get_or r 1 0 ∷ get_or r 2 0 ∷ get_or r 3 0 ∷ get_or r 4 0 ∷ get_or r 5 0 ∷ get_or r 6 0 ∷ get_or r 7 0 ∷ [] in
    done_more at16 16 8 apart16 (λ m. f ones (cell m q₀)) (λ m. cell m q₀) p rs q h refl
    (sym (eights (λ r. r ≡ get_or r 0 0 ∷ get_or r 1 0 ∷ get_or r 2 0 ∷ get_or r 3 0 ∷ get_or r 4 0 ∷ get_or r 5 0 ∷ get_or r 6 0 ∷ get_or r 7 0 ∷ [])
    (λ a b c d e f g h. refl) r (ap length e ∙ lf (cell p q)))
    ∙ e ∙ ap (f ones) (d.old p (omega arith) h)) d

-- the words of a column: group k of 4
pub at4-is : (k i : ℕ) → at4 k i ≡ k + 4 * i
at4-is k zero = omega arith
at4-is k (suc i) = refl

pub apart4 : Apart at4 4 32
apart4 = record {
  inside = λ k i h l. omega (arith, at4-is k i);
  inner = λ k i j h l u x. absurd (omega (arith, at4-is k i, at4-is k j, x));
  outer = λ k l i j hk hl hi hj d x. d (omega (arith, at4-is k i, at4-is l j, x));
}
