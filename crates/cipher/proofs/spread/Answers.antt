-- Each word is the column of its place in the block.
use Rattle.std.proofs.Common.{◌≡◌, ℕ, ◌+◌, ◌*◌, ◌%◌, ◌<◌, ◌≤◌, List, [], ◌∷◌, length, get_or, set, sym, refl, ap, ap₂, ◌∙◌, ⊎_elim, eq-or-lt_of_le, length-set, get_or-set_same, get_or-set_other, arith}
use Rattle.cipher.proofs.RoundLaws.{block-spread}
use Rattle.cipher.proofs.spread.Goals as goal

module _ (x : List ℕ) where
  word_more : (q : List ℕ) (v : ℕ) → v < length q → ((m : ℕ) → m < v → get_or q m 0 ≡ get_or x (m % 4) 0) → (m : ℕ) → m < v + 1
      → get_or (set q v (get_or x (v % 4) 0)) m 0 ≡ get_or x (m % 4) 0
  word_more q v l e m h =
      let y : ℕ = get_or x (v % 4) 0 in
      ⊎_elim
      (λ z. ap (λ (n : ℕ). get_or (set q v y) n 0) z ∙ get_or-set_same q v y 0 l ∙ ap (λ (n : ℕ). get_or x (n % 4) 0) (sym z))
      (λ z. get_or-set_other q v m y 0 (λ n. absurd (omega arith)) ∙ e m z)
      (eq-or-lt_of_le (let n : m ≤ v = omega arith in n))

  four_words : (q : List ℕ) → ((m : ℕ) → m < 128 → get_or q m 0 ≡ get_or x (m % 4) 0) → (m : ℕ) → m < 32
      → get_or q (4 * m) 0 ∷ get_or q (4 * m + 1) 0 ∷ get_or q (4 * m + 2) 0 ∷ get_or q (4 * m + 3) 0 ∷ []
      ≡ get_or x 0 0 ∷ get_or x 1 0 ∷ get_or x 2 0 ∷ get_or x 3 0 ∷ []
  four_words q e m h =
      ap₂ ◌∷◌ (at (4 * m) 0 (omega arith) (omega arith)) (ap₂ ◌∷◌ (at (4 * m + 1) 1 (omega arith) (omega arith))
      (ap₂ ◌∷◌ (at (4 * m + 2) 2 (omega arith) (omega arith)) (ap₂ ◌∷◌ (at (4 * m + 3) 3 (omega arith) (omega arith)) refl)))
    where
      at : (v i : ℕ) → v < 128 → v % 4 ≡ i → get_or q v 0 ≡ get_or x i 0
      at v i l z = e v l ∙ ap (λ (n : ℕ). get_or x n 0) z

pub loop-v-preserved : goal.loop-v-preserved
loop-v-preserved c =
    let l = c.loop-v in
    let p : List ℕ = c.column_at.result ∷ c.column_at-2.result ∷ c.column_at-3.result ∷ c.column_at-4.result ∷ [] in
    (length-set l.q l.v _ ∙ l.invariant.0, word_more p l.q l.v (omega arith) l.invariant.1)

pub returns : goal.returns
returns c = λ j h.
    let a = c.args in
    let p : List ℕ = c.column_at.result ∷ c.column_at-2.result ∷ c.column_at-3.result ∷ c.column_at-4.result ∷ [] in
    block-spread a.w.now c.loop-v.q c.transpose.new.q a.at _ _ _ _ c.column_at.ensures c.column_at-2.ensures c.column_at-3.ensures c.column_at-4.ensures
    (four_words p c.loop-v.q (λ m l. c.loop-v.invariant.1 m (omega arith))) c.transpose.ensures j h
