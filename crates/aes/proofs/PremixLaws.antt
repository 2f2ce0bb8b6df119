-- INVMIXCOLUMNS in two steps on bit planes: each byte with 4 times its sum with the byte two rows below, and then MIXCOLUMNS.
use mathlib.Core.Path.{◌≡◌, refl, sym, ap, ap₂, ◌∙◌}
use mathlib.Core.List.{List, [], ◌∷◌}
use Prim.Native.Nat.{ℕ, ◌+◌, ◌%◌, ◌<◌}
use native.Mathlib.Omega.{arith}
use lib.Bits.{bit_xor}
use lib.ListN.{length}
use Rattle.octets.specs.Octets.{Bytes, ◌⊕◌}
use Rattle.octets.proofs.XorLaws.{⊕-assoc, ⊕-left, ⊕_comm, ⊕-byte}
use Rattle.gf256.specs.Field.{xtime}
use Rattle.gf256.proofs.FieldLaws.{xtime-byte, xtime-⊕, mul-1, mul-2, mul-3, mul-9, mul-11, mul-13, mul-14}
use Rattle.bitslice.specs.Words.{lane_byte, xor_words, doubled_words}
use Rattle.bitslice.proofs.LanesLaws.{xor-byte, double-byte}
use Rattle.aes.specs.Aes.{dot, mix_words, mix_columns, inv_mix_columns}
use Rattle.aes.specs.Planes.{cell, state, Each, premix}
use Rattle.aes.specs.Columns.{elems, at4}
use Rattle.aes.specs.Columns.{row0, row1, row2, row3, premix_row, premix_of}
use Rattle.aes.proofs.MixLaws.{⊕_cancel}
use Rattle.aes.proofs.PlaneLaws.{length-words, cell-row0, cell-row1, cell-row2, cell-row3, byte-row0, byte-row1, byte-row2, byte-row3, of_rows, same-places, bytes-state}

-- ---- the first step

abbrev added : ℕ → ℕ → ℕ → ℕ
added x a c = bit_xor x (xtime (xtime (bit_xor a c)))

premix-byte : (j : ℕ) (x a c : List ℕ) → length x ≡ 8 → length a ≡ 8 → length c ≡ 8 → lane_byte j (premix_row x a c) ≡ added (lane_byte j x) (lane_byte j a) (lane_byte j c)
premix-byte j x a c hx ha hc =
    let ac : length (xor_words a c) ≡ 8 = length-words a c ha hc in
    xor-byte j x (doubled_words (doubled_words (xor_words a c))) hx
    ∙ ap (bit_xor (lane_byte j x)) (double-byte j (doubled_words (xor_words a c)) refl ∙ ap xtime (double-byte j (xor_words a c) ac ∙ ap xtime (xor-byte j a c (ha ∙ sym hc))))

-- the byte above or below by two rows, the upper one first
abbrev upper : ℕ → ℕ
upper p = p % 8

abbrev lower : ℕ → ℕ
lower p = p % 8 + 8

module _ (q r : List ℕ) (e : (k : ℕ) → k < 4 → elems at4 k 0 32 r ≡ premix_of (elems at4 k 0 32 q)) (j : ℕ) where
  f : ℕ → ℕ
  f p = lane_byte j (cell p q)

  premixed : (p : ℕ) → p < 16 → lane_byte j (cell p r) ≡ added (f p) (f (upper p)) (f (lower p))
  unfolding premix_of xor_words f
  premixed = of_rows (λ p. lane_byte j (cell p r) ≡ added (f p) (f (upper p)) (f (lower p)))
      (λ k h. ap (lane_byte j) (cell-row0 k r ∙ ap row0 (e k h)) ∙ premix-byte j (row0 (elems at4 k 0 32 q)) (row0 (elems at4 k 0 32 q)) (row2 (elems at4 k 0 32 q)) refl refl refl
      ∙ three k k (k + 8) (upper k) (lower k) (byte-row0 q j k) (byte-row0 q j k) (byte-row2 q j k) (omega arith) (omega arith))
      (λ k h. ap (lane_byte j) (cell-row1 k r ∙ ap row1 (e k h)) ∙ premix-byte j (row1 (elems at4 k 0 32 q)) (row1 (elems at4 k 0 32 q)) (row3 (elems at4 k 0 32 q)) refl refl refl
      ∙ three (k + 4) (k + 4) (k + 12) (upper (k + 4)) (lower (k + 4)) (byte-row1 q j k) (byte-row1 q j k) (byte-row3 q j k) (omega arith) (omega arith))
      (λ k h. ap (lane_byte j) (cell-row2 k r ∙ ap row2 (e k h)) ∙ premix-byte j (row2 (elems at4 k 0 32 q)) (row0 (elems at4 k 0 32 q)) (row2 (elems at4 k 0 32 q)) refl refl refl
      ∙ three (k + 8) k (k + 8) (upper (k + 8)) (lower (k + 8)) (byte-row2 q j k) (byte-row0 q j k) (byte-row2 q j k) (omega arith) (omega arith))
      (λ k h. ap (lane_byte j) (cell-row3 k r ∙ ap row3 (e k h)) ∙ premix-byte j (row3 (elems at4 k 0 32 q)) (row1 (elems at4 k 0 32 q)) (row3 (elems at4 k 0 32 q)) refl refl refl
      ∙ three (k + 12) (k + 4) (k + 12) (upper (k + 12)) (lower (k + 12)) (byte-row3 q j k) (byte-row1 q j k) (byte-row3 q j k) (omega arith) (omega arith))
    where
      three : {w x y : ℕ} (a b c b' c' : ℕ) → w ≡ f a → x ≡ f b → y ≡ f c → b ≡ b' → c ≡ c' → added w x y ≡ added (f a) (f b') (f c')
      three a b c b' c' ew ex ey eb ec = ap₂ (λ (m n : ℕ). bit_xor m (xtime (xtime n))) ew (ap₂ bit_xor (ex ∙ ap f eb) (ey ∙ ap f ec))

  premixed-state : state j r ≡ premix (state j q)
  unfolding state f premix ◌⊕◌
  premixed-state = same-places (λ p. lane_byte j (cell p r)) (λ p. added (f p) (f (upper p)) (f (lower p))) premixed

pub each-premix : (q r : List ℕ) → ((k : ℕ) → k < 4 → elems at4 k 0 32 r ≡ premix_of (elems at4 k 0 32 q)) → Each premix q r
each-premix q r e j h = premixed-state q r e j

-- ---- both steps

-- xtime of sums of bytes
four-times : (a c : ℕ) → a < 256 → c < 256 → xtime (xtime (a ⊕ c)) ≡ xtime (xtime a) ⊕ xtime (xtime c)
four-times a c ha hc = ap xtime (xtime-⊕ a c ha hc) ∙ xtime-⊕ (xtime a) (xtime c) (xtime-byte a ha) (xtime-byte c hc)

three-parts : (a c : ℕ) → a < 256 → c < 256 → xtime (a ⊕ (xtime (xtime a) ⊕ xtime (xtime c))) ≡ xtime a ⊕ (xtime (xtime (xtime a)) ⊕ xtime (xtime (xtime c)))
three-parts a c ha hc =
    let pa : xtime (xtime a) < 256 = xtime-byte (xtime a) (xtime-byte a ha) in
    let pc : xtime (xtime c) < 256 = xtime-byte (xtime c) (xtime-byte c hc) in
    xtime-⊕ a (xtime (xtime a) ⊕ xtime (xtime c)) ha (⊕-byte (xtime (xtime a)) (xtime (xtime c)) pa pc)
    ∙ ap (λ (z : ℕ). xtime a ⊕ z) (xtime-⊕ (xtime (xtime a)) (xtime (xtime c)) pa pc)

parts_turned : (c a : ℕ) → c < 256 → a < 256 → xtime (c ⊕ (xtime (xtime a) ⊕ xtime (xtime c))) ≡ xtime c ⊕ (xtime (xtime (xtime a)) ⊕ xtime (xtime (xtime c)))
parts_turned c a hc ha =
    ap (λ (z : ℕ). xtime (c ⊕ z)) (⊕_comm (xtime (xtime a)) (xtime (xtime c))) ∙ three-parts c a hc ha
    ∙ ap (λ (z : ℕ). xtime c ⊕ z) (⊕_comm (xtime (xtime (xtime c))) (xtime (xtime (xtime a))))

-- each row, for a column whose bytes are sums
module _ (a b c d : ℕ) (ha : a < 256) (hb : b < 256) (hc : c < 256) (hd : d < 256) where
  row-0 : dot 2 3 1 1 (a ⊕ (xtime (xtime a) ⊕ xtime (xtime c))) (b ⊕ (xtime (xtime b) ⊕ xtime (xtime d)))
      (c ⊕ (xtime (xtime c) ⊕ xtime (xtime a))) (d ⊕ (xtime (xtime d) ⊕ xtime (xtime b))) ≡ dot 14 11 13 9 a b c d
  unfolding dot
  row-0 = simp (mul-1, mul-2, mul-3, mul-9, mul-11, mul-13, mul-14, three-parts a c ha hc, three-parts b d hb hd, ⊕-assoc, ⊕-left, ⊕_comm, ⊕_cancel)

  row-1 : dot 1 2 3 1 (a ⊕ (xtime (xtime a) ⊕ xtime (xtime c))) (b ⊕ (xtime (xtime b) ⊕ xtime (xtime d)))
      (c ⊕ (xtime (xtime c) ⊕ xtime (xtime a))) (d ⊕ (xtime (xtime d) ⊕ xtime (xtime b))) ≡ dot 9 14 11 13 a b c d
  unfolding dot
  row-1 = simp (mul-1, mul-2, mul-3, mul-9, mul-11, mul-13, mul-14, three-parts b d hb hd, parts_turned c a hc ha, ⊕-assoc, ⊕-left, ⊕_comm, ⊕_cancel)

  row-2 : dot 1 1 2 3 (a ⊕ (xtime (xtime a) ⊕ xtime (xtime c))) (b ⊕ (xtime (xtime b) ⊕ xtime (xtime d)))
      (c ⊕ (xtime (xtime c) ⊕ xtime (xtime a))) (d ⊕ (xtime (xtime d) ⊕ xtime (xtime b))) ≡ dot 13 9 14 11 a b c d
  unfolding dot
  row-2 = simp (mul-1, mul-2, mul-3, mul-9, mul-11, mul-13, mul-14, parts_turned c a hc ha, parts_turned d b hd hb, ⊕-assoc, ⊕-left, ⊕_comm, ⊕_cancel)

  row-3 : dot 3 1 1 2 (a ⊕ (xtime (xtime a) ⊕ xtime (xtime c))) (b ⊕ (xtime (xtime b) ⊕ xtime (xtime d)))
      (c ⊕ (xtime (xtime c) ⊕ xtime (xtime a))) (d ⊕ (xtime (xtime d) ⊕ xtime (xtime b))) ≡ dot 11 13 9 14 a b c d
  unfolding dot
  row-3 = simp (mul-1, mul-2, mul-3, mul-9, mul-11, mul-13, mul-14, three-parts a c ha hc, parts_turned d b hd hb, ⊕-assoc, ⊕-left, ⊕_comm, ⊕_cancel)

mix-premix : (s : List ℕ) → Bytes s → mix_columns (premix s) ≡ inv_mix_columns s
unfolding mix_columns inv_mix_columns mix_words premix
mix-premix [] h = refl
mix-premix (a ∷ []) h = refl
mix-premix (a ∷ b ∷ []) h = refl
mix-premix (a ∷ b ∷ c ∷ []) h = refl
mix-premix (a ∷ b ∷ c ∷ d ∷ s) (ha, (hb, (hc, (hd, h)))) =
    let ac : xtime (xtime (a ⊕ c)) ≡ xtime (xtime a) ⊕ xtime (xtime c) = four-times a c ha hc in
    let bd : xtime (xtime (b ⊕ d)) ≡ xtime (xtime b) ⊕ xtime (xtime d) = four-times b d hb hd in
    let ca : xtime (xtime (a ⊕ c)) ≡ xtime (xtime c) ⊕ xtime (xtime a) = ac ∙ ⊕_comm (xtime (xtime a)) (xtime (xtime c)) in
    let db : xtime (xtime (b ⊕ d)) ≡ xtime (xtime d) ⊕ xtime (xtime b) = bd ∙ ⊕_comm (xtime (xtime b)) (xtime (xtime d)) in
    let g : (f : ℕ → ℕ → ℕ → ℕ → ℕ) → f (a ⊕ xtime (xtime (a ⊕ c))) (b ⊕ xtime (xtime (b ⊕ d))) (c ⊕ xtime (xtime (a ⊕ c))) (d ⊕ xtime (xtime (b ⊕ d)))
    ≡ f (a ⊕ (xtime (xtime a) ⊕ xtime (xtime c))) (b ⊕ (xtime (xtime b) ⊕ xtime (xtime d))) (c ⊕ (xtime (xtime c) ⊕ xtime (xtime a))) (d ⊕ (xtime (xtime d) ⊕ xtime (xtime b))) =
    λ f. ap₂ (λ (x y : ℕ). f (a ⊕ x) (b ⊕ y) (c ⊕ xtime (xtime (a ⊕ c))) (d ⊕ xtime (xtime (b ⊕ d)))) ac bd
    ∙ ap₂ (λ (x y : ℕ). f (a ⊕ (xtime (xtime a) ⊕ xtime (xtime c))) (b ⊕ (xtime (xtime b) ⊕ xtime (xtime d))) (c ⊕ x) (d ⊕ y)) ca db in
    ap₂ ◌∷◌ (g (dot 2 3 1 1) ∙ row-0 a b c d ha hb hc hd) (ap₂ ◌∷◌ (g (dot 1 2 3 1) ∙ row-1 a b c d ha hb hc hd) (ap₂ ◌∷◌ (g (dot 1 1 2 3) ∙ row-2 a b c d ha hb hc hd)
    (ap₂ ◌∷◌ (g (dot 3 1 1 2) ∙ row-3 a b c d ha hb hc hd) (mix-premix s h))))

pub each_inv_mix : (q x r : List ℕ) → Each premix q x → Each mix_columns x r → Each inv_mix_columns q r
each_inv_mix q x r a b j h = b j h ∙ ap mix_columns (a j h) ∙ mix-premix (state j q) (bytes-state j q)
