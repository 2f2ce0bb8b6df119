-- SHIFTROWS and its inverse with a round key: the rows of each plane turned, as the state in each lane sees it.
use mathlib.Core.Path.{◌≡◌, refl, sym, ap, ap₂, ◌∙◌}
use mathlib.Core.List.{List, [], ◌∷◌, map}
use Prim.Native.Nat.{ℕ, zero, suc, ◌+◌, ◌*◌, ◌/◌, ◌%◌, ◌<◌}
use native.Mathlib.Nat.{mod-lt, zero-lt-suc}
use native.Mathlib.Omega.{arith}
use lib.Bits.{bit_xor}
use lib.ListN.{get_or}
use Rattle.octets.specs.Octets.{◌⊕◌, xors}
use Rattle.bitslice.specs.Words.{lane_byte, xor_words}
use Rattle.bitslice.proofs.LanesLaws.{xor-byte}
use Rattle.aes.specs.Aes.{shift_rows, inv_shift_rows}
use Rattle.aes.specs.Planes.{cell, places, state}
use Rattle.aes.proofs.PlaneLaws.{same-places}
use Rattle.planes.specs.Rows.{row_of, put_row, turned_sum}
use Rattle.planes.proofs.RowLaws.{Rows, rows_more, row_word, rows-word}

-- by how many words each row is turned to the left, by a list of four numbers
abbrev pub by : List ℕ → ℕ → ℕ
by m r = get_or m r 0

-- where the byte at p comes from, row r being turned by a r
abbrev from : (ℕ → ℕ) → ℕ → ℕ
from a p = 4 * (p / 4) + (a (p / 4) + p % 4) % 4

sum-word : (m n c : ℕ) (x y : List ℕ) → c < 4 → get_or (turned_sum m n x y) c 0 ≡ bit_xor (get_or x ((m + c) % 4) 0) (get_or y ((n + c) % 4) 0)
sum-word m n zero x y h =
    let e : m % 4 ≡ (m + 0) % 4 = omega arith in
    let f : n % 4 ≡ (n + 0) % 4 = omega arith in
    ap₂ (λ (i j : ℕ). bit_xor (get_or x i 0) (get_or y j 0)) e f
sum-word m n (suc zero) x y h = refl
sum-word m n (suc (suc zero)) x y h = refl
sum-word m n (suc (suc (suc zero))) x y h = refl
sum-word m n (suc (suc (suc (suc c)))) x y h = absurd (omega arith)

module _ (a b : ℕ → ℕ) (q₀ k : List ℕ) where
  -- row g of the result
  abbrev pub turned_row : ℕ → List ℕ
  turned_row g = turned_sum (a (g % 4)) (b (g % 4)) (row_of g q₀) (row_of g k)

  row_more : (g n r : ℕ) (q x : List ℕ) → g < 32 → n ≡ g + 1 → g % 4 ≡ r → x ≡ put_row g (turned_sum (a r) (b r) (row_of g q) (row_of g k)) q
      → Rows turned_row q₀ g q → Rows turned_row q₀ n x
  row_more g n r q x h e f ex d =
      rows_more turned_row q₀ (turned_sum (a r) (b r) (row_of g q) (row_of g k)) q x g n h e refl
      (ap₂ (λ (t : ℕ) (y : List ℕ). turned_sum (a t) (b t) y (row_of g k)) (sym f) (d.old g (omega arith) h)) ex d

  -- one plane more
  pub plane_more : (i : ℕ) (q x y z w : List ℕ) → i < 8 → x ≡ put_row (4 * i) (turned_sum (a 0) (b 0) (row_of (4 * i) q) (row_of (4 * i) k)) q
      → y ≡ put_row (4 * i + 1) (turned_sum (a 1) (b 1) (row_of (4 * i + 1) x) (row_of (4 * i + 1) k)) x
      → z ≡ put_row (4 * i + 2) (turned_sum (a 2) (b 2) (row_of (4 * i + 2) y) (row_of (4 * i + 2) k)) y
      → w ≡ put_row (4 * i + 3) (turned_sum (a 3) (b 3) (row_of (4 * i + 3) z) (row_of (4 * i + 3) k)) z
      → Rows turned_row q₀ (4 * i) q → Rows turned_row q₀ (4 * (i + 1)) w
  plane_more i q x y z w h ex ey ez ew d =
      row_more (4 * i + 3) (4 * (i + 1)) 3 z w (omega arith) (omega arith) (omega arith) ew
      (row_more (4 * i + 2) (4 * i + 3) 2 y z (omega arith) (omega arith) (omega arith) ez
      (row_more (4 * i + 1) (4 * i + 2) 1 x y (omega arith) (omega arith) (omega arith) ey
      (row_more (4 * i) (4 * i + 1) 0 q x (omega arith) (omega arith) (omega arith) ex d)))

  module _ (r : List ℕ) (d : (g : ℕ) → g < 32 → row_of g r ≡ turned_row g) where
    word : (i p v e f : ℕ) → i < 8 → p < 16 → v ≡ p + 16 * i → e ≡ from a p + 16 * i → f ≡ from b p + 16 * i
        → get_or r v 0 ≡ bit_xor (get_or q₀ e 0) (get_or k f 0)
    word i p v e f hi hp ev ee ef =
        let g : ℕ = 4 * i + p / 4 in
        let t : g % 4 ≡ p / 4 = omega arith in
        let m : ℕ = (a (p / 4) + p % 4) % 4 in
        let n : ℕ = (b (p / 4) + p % 4) % 4 in
        let hm : m < 4 = mod-lt (a (p / 4) + p % 4) (zero-lt-suc 3) in
        let hn : n < 4 = mod-lt (b (p / 4) + p % 4) (zero-lt-suc 3) in
        let em : 4 * g + m ≡ e = omega arith in
        let en : 4 * g + n ≡ f = omega arith in
        rows-word turned_row r d g (p % 4) v (omega arith) (omega arith) (omega arith)
        ∙ sum-word (a (g % 4)) (b (g % 4)) (p % 4) (row_of g q₀) (row_of g k) (omega arith)
        ∙ ap (λ (s : ℕ). bit_xor (get_or (row_of g q₀) ((a s + p % 4) % 4) 0) (get_or (row_of g k) ((b s + p % 4) % 4) 0)) t
        ∙ ap₂ bit_xor (row_word g m q₀ hm ∙ ap (λ (s : ℕ). get_or q₀ s 0) em) (row_word g n k hn ∙ ap (λ (s : ℕ). get_or k s 0) en)

    turned-cell : (p : ℕ) → p < 16 → cell p r ≡ xor_words (cell (from a p) q₀) (cell (from b p) k)
    unfolding xor_words
    turned-cell p h =
        ap₂ ◌∷◌ (word 0 p p (from a p) (from b p) (omega arith) h (omega arith) (omega arith) (omega arith)) (ap₂ ◌∷◌ (at 1 (omega arith))
        (ap₂ ◌∷◌ (at 2 (omega arith)) (ap₂ ◌∷◌ (at 3 (omega arith)) (ap₂ ◌∷◌ (at 4 (omega arith)) (ap₂ ◌∷◌ (at 5 (omega arith))
        (ap₂ ◌∷◌ (at 6 (omega arith)) (ap₂ ◌∷◌ (at 7 (omega arith)) refl)))))))
      where
        at : (i : ℕ) → i < 8 → get_or r (p + 16 * i) 0 ≡ bit_xor (get_or q₀ (from a p + 16 * i) 0) (get_or k (from b p + 16 * i) 0)
        at i l = word i p (p + 16 * i) (from a p + 16 * i) (from b p + 16 * i) l h refl refl refl

    turned-state : (j : ℕ) → state j r ≡ map (λ p. bit_xor (lane_byte j (cell (from a p) q₀)) (lane_byte j (cell (from b p) k))) places
    unfolding state
    turned-state j =
        same-places (λ p. lane_byte j (cell p r)) (λ p. bit_xor (lane_byte j (cell (from a p) q₀)) (lane_byte j (cell (from b p) k)))
        (λ p h. ap (lane_byte j) (turned-cell p h) ∙ xor-byte j (cell (from a p) q₀) (cell (from b p) k) refl)

-- SHIFTROWS
abbrev left : List ℕ
left = 0 ∷ 1 ∷ 2 ∷ 3 ∷ []

-- its inverse
abbrev right : List ℕ
right = 0 ∷ 3 ∷ 2 ∷ 1 ∷ []

-- not at all
abbrev still : List ℕ
still = 0 ∷ 0 ∷ 0 ∷ 0 ∷ []

pub shifted : (q k r : List ℕ) → ((g : ℕ) → g < 32 → row_of g r ≡ turned_row (by left) (by left) q k g) → (j : ℕ) → state j r ≡ shift_rows (xors (state j q) (state j k))
unfolding state shift_rows xors ◌⊕◌
shifted q k r d j = turned-state (by left) (by left) q k r d j

pub unshifted : (q k r : List ℕ) → ((g : ℕ) → g < 32 → row_of g r ≡ turned_row (by right) (by still) q k g) → (j : ℕ) → state j r ≡ xors (inv_shift_rows (state j q)) (state j k)
unfolding state inv_shift_rows xors ◌⊕◌
unshifted q k r d j = turned-state (by right) (by still) q k r d j
