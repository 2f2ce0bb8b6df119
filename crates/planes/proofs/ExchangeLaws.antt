-- One exchange of the transposition, row by row.
use mathlib.Core.Path.{◌≡◌, refl, ap, ap₂, ◌∙◌}
use mathlib.Core.List.{List}
use Prim.Native.Nat.{ℕ, zero, suc, ◌+◌, ◌*◌, ◌/◌, ◌%◌, ◌<◌}
use native.Mathlib.Omega.{arith}
use lib.ListN.{get_or}
use Rattle.aes.specs.Planes.{exchanged, Exchanged}
use Rattle.planes.specs.Rows.{row_of, put_row, exchanged_row}
use Rattle.planes.proofs.RowLaws.{Rows, rows_more, row_word, rows-word}

exchanged-word : (h s m c : ℕ) (x y : List ℕ) → c < 4 → get_or (exchanged_row h s m x y) c 0 ≡ exchanged h s m (get_or x c 0) (get_or y c 0)
exchanged-word h s m zero x y l = refl
exchanged-word h s m (suc zero) x y l = refl
exchanged-word h s m (suc (suc zero)) x y l = refl
exchanged-word h s m (suc (suc (suc zero))) x y l = refl
exchanged-word h s m (suc (suc (suc (suc c)))) x y l = absurd (omega arith)

module _ (s m : ℕ) (q : List ℕ) where
  -- row g of the result
  abbrev pub halves : ℕ → List ℕ
  halves g = exchanged_row (g % 2) s m (row_of (g / 2) q) (row_of (g / 2 + 16) q)

  -- a pair of rows more
  pub pair_more : (x : ℕ) (d₀ d e f a b : List ℕ) → x < 16 → a ≡ row_of x q → b ≡ row_of (x + 16) q
      → e ≡ put_row (2 * x) (exchanged_row 0 s m a b) d → f ≡ put_row (2 * x + 1) (exchanged_row 1 s m a b) e
      → Rows halves d₀ (2 * x) d → Rows halves d₀ (2 * (x + 1)) f
  pair_more x d₀ d e f a b h ea eb ee ef p =
      rows_more halves d₀ (exchanged_row 1 s m a b) e f (2 * x + 1) (2 * (x + 1)) (omega arith) (omega arith) refl (half 1 (2 * x + 1) (omega arith) (omega arith)) ef
      (rows_more halves d₀ (exchanged_row 0 s m a b) d e (2 * x) (2 * x + 1) (omega arith) (omega arith) refl (half 0 (2 * x) (omega arith) (omega arith)) ee p)
    where
      half : (k g : ℕ) → k ≡ g % 2 → x ≡ g / 2 → exchanged_row k s m a b ≡ halves g
      half k g ek ex =
          ap₂ (exchanged_row k s m) ea eb
          ∙ ap₂ (λ (i j : ℕ). exchanged_row i s m (row_of j q) (row_of (j + 16) q)) ek ex

  pub all_exchanged : (r : List ℕ) → ((g : ℕ) → g < 32 → row_of g r ≡ halves g) → Exchanged s m q r
  all_exchanged r d v h =
      let g : ℕ = v / 4 in
      let c : ℕ = v % 4 in
      let hc : c < 4 = omega arith in
      let e : g / 2 ≡ v / 8 = omega arith in
      let f : 4 * (v / 8 + 16) + c ≡ 4 * (v / 8) + c + 64 = omega arith in
      rows-word halves r d g c v (omega arith) hc (omega arith)
      ∙ exchanged-word (g % 2) s m c (row_of (g / 2) q) (row_of (g / 2 + 16) q) hc
      ∙ ap₂ (exchanged (g % 2) s m) (row_word (g / 2) c q hc) (row_word (g / 2 + 16) c q hc)
      ∙ ap (λ (t : ℕ). exchanged (g % 2) s m (get_or q (4 * t + c) 0) (get_or q (4 * (t + 16) + c) 0)) e
      ∙ ap (λ (t : ℕ). exchanged (g % 2) s m (get_or q (4 * (v / 8) + c) 0) (get_or q t 0)) f
