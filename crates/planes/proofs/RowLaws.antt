-- Rows of four neighbouring words: a loop that replaces one row after the other.
use mathlib.Core.Path.{◌≡◌, refl, sym, ap, ◌∙◌, subst}
use mathlib.Core.List.{List, [], ◌∷◌}
use Prim.Native.Nat.{ℕ, zero, suc, ◌+◌, ◌*◌, ◌<◌}
use native.Mathlib.Omega.{arith}
use lib.ListN.{length, get_or}
use Rattle.aes.proofs.ListLaws.{four}
use Rattle.aes.proofs.GroupLaws.{elem_at, Apart, Done, done_none, done_more}
use Rattle.planes.specs.Rows.{row_of, put_row}

-- word c of row g
abbrev pub row : ℕ → ℕ → ℕ
row g zero = 4 * g
row g (suc c) = 4 * g + suc c

row_is : (g c : ℕ) → row g c ≡ 4 * g + c
row_is g zero = omega arith
row_is g (suc c) = refl

pub apart-rows : Apart row 32 4
apart-rows = record {
  inside = λ k i h l. omega (arith, row_is k i);
  inner = λ k i j h l u x. absurd (omega (arith, row_is k i, row_is k j, x));
  outer = λ k l i j hk hl hi hj d x. d (omega (arith, row_is k i, row_is l j, x));
}

-- the rows below g are replaced by F, and the others are as in q₀
abbrev pub Rows : (F : ℕ → List ℕ) (q₀ : List ℕ) (g : ℕ) (q : List ℕ) → Type 0
Rows F q₀ g q = Done row 32 4 apart-rows F (λ m. row_of m q₀) g q

pub rows_none : (F : ℕ → List ℕ) (q : List ℕ) → length q ≡ 128 → Rows F q 0 q
rows_none F q l = done_none row 32 4 apart-rows F (λ m. row_of m q) q l (λ m. refl)

pub rows_more : (F : ℕ → List ℕ) (q₀ x q r : List ℕ) (g n : ℕ) → g < 32 → n ≡ g + 1 → length x ≡ 4 → x ≡ F g → r ≡ put_row g x q → Rows F q₀ g q → Rows F q₀ n r
rows_more F q₀ x q r g n h e l ex er d =
    subst (λ (m : ℕ). Rows F q₀ m r) (sym e) (subst (λ (s : List ℕ). Rows F q₀ (g + 1) s) (sym er)
    (done_more row 32 4 apart-rows F (λ m. row_of m q₀) g (get_or x 0 0 ∷ get_or x 1 0 ∷ get_or x 2 0 ∷ get_or x 3 0 ∷ []) q h refl
    (sym (four (λ x. x ≡ get_or x 0 0 ∷ get_or x 1 0 ∷ get_or x 2 0 ∷ get_or x 3 0 ∷ []) (λ a b c d. refl) x l) ∙ ex) d))

-- the words of a row, by number
pub row_word : (g c : ℕ) (q : List ℕ) → c < 4 → get_or (row_of g q) c 0 ≡ get_or q (4 * g + c) 0
row_word g c q h =
    let z : 0 + c ≡ c = omega arith in
    elem_at row g 0 c 4 q h ∙ ap (λ (m : ℕ). get_or q m 0) (ap (row g) z ∙ row_is g c)

-- after all rows, each word
pub rows-word : (F : ℕ → List ℕ) (r : List ℕ) → ((g : ℕ) → g < 32 → row_of g r ≡ F g) → (g c v : ℕ) → g < 32 → c < 4 → v ≡ 4 * g + c → get_or r v 0 ≡ get_or (F g) c 0
rows-word F r d g c v hg hc e =
    ap (λ (m : ℕ). get_or r m 0) e ∙ sym (row_word g c r hc) ∙ ap (λ (x : List ℕ). get_or x c 0) (d g hg)
