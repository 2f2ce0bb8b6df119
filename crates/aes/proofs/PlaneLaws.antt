-- The steps of a round on bit planes, as the state in each lane sees them.
use mathlib.Core.Path.{◌≡◌, refl, sym, ap, ap₂, ◌∙◌, subst}
use mathlib.Core.Bool.{Bool, true}
use mathlib.Core.Logic.{⊎_elim}
use mathlib.Core.List.{List, [], ◌∷◌, map}
use Prim.Native.Nat.{ℕ, zero, suc, ◌+◌, ◌-◌, ◌/◌, ◌%◌, ◌<◌, ◌≤◌}
use native.Mathlib.Nat.{eq-or-lt_of_le}
use native.Mathlib.Omega.{arith}
use lib.Bits.{bit_xor}
use lib.Dec.{T, ltb, ltb→lt}
use lib.ListN.{length, get_or, set, length-set}
use lib.Seq.{get_or-set_same, get_or-set_other}
use Rattle.octets.specs.Octets.{Bytes, ◌⊕◌, xors}
use Rattle.octets.proofs.TableLaws.{both, both_left, both_right}
use Rattle.octets.proofs.XorLaws.{⊕-is, ⊕-assoc, ⊕-left, ⊕_comm}
use Rattle.gf256.specs.Field.{xtime}
use Rattle.gf256.proofs.FieldLaws.{xtime-⊕, mul-1, mul-2, mul-3}
use Rattle.bitslice.specs.Words.{lane_byte, xor_words, doubled_words}
use Rattle.bitslice.proofs.LanesLaws.{xor-byte, length-xor_words, double-byte, lane_byte-byte}
use Rattle.aes.specs.Aes.{dot, mix_words, mix_columns}
use Rattle.aes.specs.Planes.{cell, places, state, Each, Sum}
use Rattle.aes.specs.Columns.{elems, at4, row0, row1, row2, row3, mix_row, mix_of}

-- ---- the sixteen places

abbrev small : List ℕ → Bool
small [] = true
small (p ∷ ps) = both (ltb p 16) (small ps)

same-list : (f g : ℕ → ℕ) → ((p : ℕ) → p < 16 → f p ≡ g p) → (ps : List ℕ) → T (small ps) → map f ps ≡ map g ps
same-list f g e [] t = refl
same-list f g e (p ∷ ps) t =
    ap₂ ◌∷◌ (e p (ltb→lt p 16 (both_left (ltb p 16) (small ps) t))) (same-list f g e ps (both_right (ltb p 16) (small ps) t))

pub same-places : (f g : ℕ → ℕ) → ((p : ℕ) → p < 16 → f p ≡ g p) → map f places ≡ map g places
same-places f g e = same-list f g e places tt

bytes-list : (f : ℕ → ℕ) → ((p : ℕ) → f p < 256) → (ps : List ℕ) → Bytes (map f ps)
bytes-list f h [] = tt
bytes-list f h (p ∷ ps) = (h p, bytes-list f h ps)

pub bytes-state : (j : ℕ) (q : List ℕ) → Bytes (state j q)
unfolding state
bytes-state j q = bytes-list (λ p. lane_byte j (cell p q)) (λ p. lane_byte-byte j (cell p q) refl) places

-- ---- MIXCOLUMNS

-- eight words at equal indices
eight-words : (q : List ℕ) (a b c d e f g h a' b' c' d' e' f' g' h' : ℕ) → a ≡ a' → b ≡ b'
    → c ≡ c' → d ≡ d' → e ≡ e' → f ≡ f' → g ≡ g' → h ≡ h'
    → get_or q a 0 ∷ get_or q b 0 ∷ get_or q c 0 ∷ get_or q d 0 ∷ get_or q e 0 ∷ get_or q f 0 ∷ get_or q g 0 ∷ get_or q h 0 ∷ []
    ≡ get_or q a' 0 ∷ get_or q b' 0 ∷ get_or q c' 0 ∷ get_or q d' 0 ∷ get_or q e' 0 ∷ get_or q f' 0 ∷ get_or q g' 0 ∷ get_or q h' 0 ∷ []
eight-words q a b c d e f g h a' b' c' d' e' f' g' h' ea eb ec ed ee ef eg eh =
    let w : (m n : ℕ) → m ≡ n → get_or q m 0 ≡ get_or q n 0 = λ m n e. ap (λ (x : ℕ). get_or q x 0) e in
    ap₂ ◌∷◌ (w a a' ea) (ap₂ ◌∷◌ (w b b' eb) (ap₂ ◌∷◌ (w c c' ec) (ap₂ ◌∷◌ (w d d' ed)
    (ap₂ ◌∷◌ (w e e' ee) (ap₂ ◌∷◌ (w f f' ef) (ap₂ ◌∷◌ (w g g' eg) (ap₂ ◌∷◌ (w h h' eh) refl)))))))

pub cell-row0 : (k : ℕ) (q : List ℕ) → cell k q ≡ row0 (elems at4 k 0 32 q)
cell-row0 k q = refl

pub cell-row1 : (k : ℕ) (q : List ℕ) → cell (k + 4) q ≡ row1 (elems at4 k 0 32 q)
cell-row1 k q =
    eight-words q (k + 4) (k + 4 + 16) (k + 4 + 32) (k + 4 + 48) (k + 4 + 64) (k + 4 + 80) (k + 4 + 96) (k + 4 + 112)
    (k + 4) (k + 20) (k + 36) (k + 52) (k + 68) (k + 84) (k + 100) (k + 116)
    refl (omega arith) (omega arith) (omega arith) (omega arith) (omega arith) (omega arith) (omega arith)

pub cell-row2 : (k : ℕ) (q : List ℕ) → cell (k + 8) q ≡ row2 (elems at4 k 0 32 q)
cell-row2 k q =
    eight-words q (k + 8) (k + 8 + 16) (k + 8 + 32) (k + 8 + 48) (k + 8 + 64) (k + 8 + 80) (k + 8 + 96) (k + 8 + 112)
    (k + 8) (k + 24) (k + 40) (k + 56) (k + 72) (k + 88) (k + 104) (k + 120)
    refl (omega arith) (omega arith) (omega arith) (omega arith) (omega arith) (omega arith) (omega arith)

pub cell-row3 : (k : ℕ) (q : List ℕ) → cell (k + 12) q ≡ row3 (elems at4 k 0 32 q)
cell-row3 k q =
    eight-words q (k + 12) (k + 12 + 16) (k + 12 + 32) (k + 12 + 48) (k + 12 + 64) (k + 12 + 80) (k + 12 + 96) (k + 12 + 112)
    (k + 12) (k + 28) (k + 44) (k + 60) (k + 76) (k + 92) (k + 108) (k + 124)
    refl (omega arith) (omega arith) (omega arith) (omega arith) (omega arith) (omega arith) (omega arith)

-- a place is in one of four rows
pub of_rows : (P : ℕ → Type 0) → ((k : ℕ) → k < 4 → P k) → ((k : ℕ) → k < 4 → P (k + 4)) → ((k : ℕ) → k < 4 → P (k + 8)) → ((k : ℕ) → k < 4 → P (k + 12))
    → (p : ℕ) → p < 16 → P p
of_rows P a b c d p h = go (p / 4) refl
  where
    go : (r : ℕ) → p / 4 ≡ r → P p
    go zero e = a p (omega arith)
    go (suc zero) e = let n : p - 4 + 4 ≡ p = omega arith in subst P n (b (p - 4) (omega arith))
    go (suc (suc zero)) e = let n : p - 8 + 8 ≡ p = omega arith in subst P n (c (p - 8) (omega arith))
    go (suc (suc (suc zero))) e = let n : p - 12 + 12 ≡ p = omega arith in subst P n (d (p - 12) (omega arith))
    go (suc (suc (suc (suc r)))) e = absurd (omega arith)

abbrev row_sum : ℕ → ℕ → ℕ → ℕ → ℕ
row_sum a b c d = bit_xor (xtime (bit_xor a b)) (bit_xor b (bit_xor c d))

pub length-words : (a b : List ℕ) → length a ≡ 8 → length b ≡ 8 → length (xor_words a b) ≡ 8
length-words a b ha hb = length-xor_words a b (ha ∙ sym hb) ∙ ha

mix-byte : (j : ℕ) (a b c d : List ℕ) → length a ≡ 8 → length b ≡ 8 → length c ≡ 8 → length d ≡ 8
    → lane_byte j (mix_row a b c d) ≡ row_sum (lane_byte j a) (lane_byte j b) (lane_byte j c) (lane_byte j d)
mix-byte j a b c d ha hb hc hd =
    let ab : length (xor_words a b) ≡ 8 = length-words a b ha hb in
    let cd : length (xor_words c d) ≡ 8 = length-words c d hc hd in
    let bcd : length (xor_words b (xor_words c d)) ≡ 8 = length-words b (xor_words c d) hb cd in
    xor-byte j (doubled_words (xor_words a b)) (xor_words b (xor_words c d)) (sym bcd)
    ∙ ap₂ bit_xor (double-byte j (xor_words a b) ab ∙ ap xtime (xor-byte j a b (ha ∙ sym hb)))
    (xor-byte j b (xor_words c d) (hb ∙ sym cd) ∙ ap (bit_xor (lane_byte j b)) (xor-byte j c d (hc ∙ sym hd)))

-- the columns of a state, each by the sum of its rows
abbrev sums : List ℕ → List ℕ
sums (a ∷ b ∷ c ∷ d ∷ s) = row_sum a b c d ∷ row_sum b c d a ∷ row_sum c d a b ∷ row_sum d a b c ∷ sums s
sums (a ∷ b ∷ c ∷ []) = a ∷ b ∷ c ∷ []
sums (a ∷ b ∷ []) = a ∷ b ∷ []
sums (a ∷ []) = a ∷ []
sums [] = []

sum-0 : (a b c d : ℕ) → a < 256 → b < 256 → row_sum a b c d ≡ dot 2 3 1 1 a b c d
unfolding dot
sum-0 a b c d ha hb =
    simp (⊕-is) (ap (λ (x : ℕ). x ⊕ (b ⊕ (c ⊕ d))) (xtime-⊕ a b ha hb) ∙ simp (mul-1, mul-2, mul-3, ⊕-assoc, ⊕-left, ⊕_comm))

sum-1 : (a b c d : ℕ) → b < 256 → c < 256 → row_sum b c d a ≡ dot 1 2 3 1 a b c d
unfolding dot
sum-1 a b c d ha hb =
    simp (⊕-is) (ap (λ (x : ℕ). x ⊕ (c ⊕ (d ⊕ a))) (xtime-⊕ b c ha hb) ∙ simp (mul-1, mul-2, mul-3, ⊕-assoc, ⊕-left, ⊕_comm))

sum-2 : (a b c d : ℕ) → c < 256 → d < 256 → row_sum c d a b ≡ dot 1 1 2 3 a b c d
unfolding dot
sum-2 a b c d ha hb =
    simp (⊕-is) (ap (λ (x : ℕ). x ⊕ (d ⊕ (a ⊕ b))) (xtime-⊕ c d ha hb) ∙ simp (mul-1, mul-2, mul-3, ⊕-assoc, ⊕-left, ⊕_comm))

sum-3 : (a b c d : ℕ) → d < 256 → a < 256 → row_sum d a b c ≡ dot 3 1 1 2 a b c d
unfolding dot
sum-3 a b c d ha hb =
    simp (⊕-is) (ap (λ (x : ℕ). x ⊕ (a ⊕ (b ⊕ c))) (xtime-⊕ d a ha hb) ∙ simp (mul-1, mul-2, mul-3, ⊕-assoc, ⊕-left, ⊕_comm))

sums-mix : (s : List ℕ) → Bytes s → sums s ≡ mix_columns s
unfolding mix_columns mix_words
sums-mix [] h = refl
sums-mix (a ∷ []) h = refl
sums-mix (a ∷ b ∷ []) h = refl
sums-mix (a ∷ b ∷ c ∷ []) h = refl
sums-mix (a ∷ b ∷ c ∷ d ∷ s) (ha, (hb, (hc, (hd, h)))) =
    ap₂ ◌∷◌ (sum-0 a b c d ha hb) (ap₂ ◌∷◌ (sum-1 a b c d hb hc) (ap₂ ◌∷◌ (sum-2 a b c d hc hd) (ap₂ ◌∷◌ (sum-3 a b c d hd ha) (sums-mix s h))))

-- a lane's byte of a row is that of the row's cell
module _ (q : List ℕ) (j k : ℕ) where
  pub byte-row0 : lane_byte j (row0 (elems at4 k 0 32 q)) ≡ lane_byte j (cell k q)
  byte-row0 = ap (lane_byte j) (sym (cell-row0 k q))

  pub byte-row1 : lane_byte j (row1 (elems at4 k 0 32 q)) ≡ lane_byte j (cell (k + 4) q)
  byte-row1 = ap (lane_byte j) (sym (cell-row1 k q))

  pub byte-row2 : lane_byte j (row2 (elems at4 k 0 32 q)) ≡ lane_byte j (cell (k + 8) q)
  byte-row2 = ap (lane_byte j) (sym (cell-row2 k q))

  pub byte-row3 : lane_byte j (row3 (elems at4 k 0 32 q)) ≡ lane_byte j (cell (k + 12) q)
  byte-row3 = ap (lane_byte j) (sym (cell-row3 k q))

module _ (q r : List ℕ) (e : (k : ℕ) → k < 4 → elems at4 k 0 32 r ≡ mix_of (elems at4 k 0 32 q)) (j : ℕ) where
  f : ℕ → ℕ
  f p = lane_byte j (cell p q)

  mixed : (p : ℕ) → p < 16 → lane_byte j (cell p r) ≡ row_sum (f p) (f ((p + 4) % 16)) (f ((p + 8) % 16)) (f ((p + 12) % 16))
  unfolding mix_of xor_words f
  mixed = of_rows (λ p. lane_byte j (cell p r) ≡ row_sum (f p) (f ((p + 4) % 16)) (f ((p + 8) % 16)) (f ((p + 12) % 16)))
      (λ k h. ap (lane_byte j) (cell-row0 k r ∙ ap row0 (e k h))
      ∙ mix-byte j (row0 (elems at4 k 0 32 q)) (row1 (elems at4 k 0 32 q)) (row2 (elems at4 k 0 32 q)) (row3 (elems at4 k 0 32 q)) refl refl refl refl
      ∙ four-rows k (k + 4) (k + 8) (k + 12) k ((k + 4) % 16) ((k + 8) % 16) ((k + 12) % 16)
      (byte-row0 q j k) (byte-row1 q j k) (byte-row2 q j k) (byte-row3 q j k) refl (omega arith) (omega arith) (omega arith))
      (λ k h. ap (lane_byte j) (cell-row1 k r ∙ ap row1 (e k h))
      ∙ mix-byte j (row1 (elems at4 k 0 32 q)) (row2 (elems at4 k 0 32 q)) (row3 (elems at4 k 0 32 q)) (row0 (elems at4 k 0 32 q)) refl refl refl refl
      ∙ four-rows (k + 4) (k + 8) (k + 12) k (k + 4) ((k + 4 + 4) % 16) ((k + 4 + 8) % 16) ((k + 4 + 12) % 16)
      (byte-row1 q j k) (byte-row2 q j k) (byte-row3 q j k) (byte-row0 q j k) refl (omega arith) (omega arith) (omega arith))
      (λ k h. ap (lane_byte j) (cell-row2 k r ∙ ap row2 (e k h))
      ∙ mix-byte j (row2 (elems at4 k 0 32 q)) (row3 (elems at4 k 0 32 q)) (row0 (elems at4 k 0 32 q)) (row1 (elems at4 k 0 32 q)) refl refl refl refl
      ∙ four-rows (k + 8) (k + 12) k (k + 4) (k + 8) ((k + 8 + 4) % 16) ((k + 8 + 8) % 16) ((k + 8 + 12) % 16)
      (byte-row2 q j k) (byte-row3 q j k) (byte-row0 q j k) (byte-row1 q j k) refl (omega arith) (omega arith) (omega arith))
      (λ k h. ap (lane_byte j) (cell-row3 k r ∙ ap row3 (e k h))
      ∙ mix-byte j (row3 (elems at4 k 0 32 q)) (row0 (elems at4 k 0 32 q)) (row1 (elems at4 k 0 32 q)) (row2 (elems at4 k 0 32 q)) refl refl refl refl
      ∙ four-rows (k + 12) k (k + 4) (k + 8) (k + 12) ((k + 12 + 4) % 16) ((k + 12 + 8) % 16) ((k + 12 + 12) % 16)
      (byte-row3 q j k) (byte-row0 q j k) (byte-row1 q j k) (byte-row2 q j k) refl (omega arith) (omega arith) (omega arith))
    where
      four-rows : {w x y z : ℕ} (a b c d a' b' c' d' : ℕ) → w ≡ f a → x ≡ f b → y ≡ f c → z ≡ f d → a ≡ a' → b ≡ b' → c ≡ c' → d ≡ d'
          → row_sum w x y z ≡ row_sum (f a') (f b') (f c') (f d')
      four-rows a b c d a' b' c' d' ew ex ey ez ea eb ec ed =
          ap₂ (λ (m n : ℕ). bit_xor (xtime m) n) (ap₂ bit_xor (ew ∙ ap f ea) (ex ∙ ap f eb)) (ap₂ bit_xor (ex ∙ ap f eb) (ap₂ bit_xor (ey ∙ ap f ec) (ez ∙ ap f ed)))

  mixed-state : state j r ≡ mix_columns (state j q)
  unfolding state f
  mixed-state =
      same-places (λ p. lane_byte j (cell p r)) (λ p. row_sum (f p) (f ((p + 4) % 16)) (f ((p + 8) % 16)) (f ((p + 12) % 16))) mixed
      ∙ sums-mix (map (λ p. lane_byte j (cell p q)) places) (bytes-list (λ p. lane_byte j (cell p q)) (λ p. lane_byte-byte j (cell p q) refl) places)

pub each-mix : (q r : List ℕ) → ((k : ℕ) → k < 4 → elems at4 k 0 32 r ≡ mix_of (elems at4 k 0 32 q)) → Each mix_columns q r
each-mix q r e j h = mixed-state q r e j

-- ---- sums

-- the words below v are sums, and the others as they were
pub record Summed (q₀ k : List ℕ) (v : ℕ) (q : List ℕ) : Type 0 where
  pub size : length q ≡ 128
  pub new : (m : ℕ) → m < v → get_or q m 0 ≡ bit_xor (get_or q₀ m 0) (get_or k m 0)
  pub old : (m : ℕ) → v ≤ m → get_or q m 0 ≡ get_or q₀ m 0

pub summed_none : (q k : List ℕ) → length q ≡ 128 → Summed q k 0 q
summed_none q k l = record { size = l; new = λ m h. absurd (omega arith); old = λ m h. refl }

pub summed_more : (q₀ k q : List ℕ) (v : ℕ) → v < 128 → Summed q₀ k v q → Summed q₀ k (v + 1) (set q v (bit_xor (get_or q v 0) (get_or k v 0)))
summed_more q₀ k q v h s = record {
  size = length-set q v (bit_xor (get_or q v 0) (get_or k v 0)) ∙ s.size;
  new = λ m l. ⊎_elim
      (λ z. ap (λ (x : ℕ). get_or (set q v (bit_xor (get_or q v 0) (get_or k v 0))) x 0) z
      ∙ get_or-set_same q v (bit_xor (get_or q v 0) (get_or k v 0)) 0 (let n : length q ≡ 128 = s.size in omega arith)
      ∙ ap (λ (x : ℕ). bit_xor x (get_or k v 0)) (s.old v (omega arith)) ∙ ap (λ (x : ℕ). bit_xor (get_or q₀ x 0) (get_or k x 0)) (sym z))
      (λ z. get_or-set_other q v m (bit_xor (get_or q v 0) (get_or k v 0)) 0 (λ x. absurd (omega arith)) ∙ s.new m z)
      (eq-or-lt_of_le (below m l));
  old = λ m l. get_or-set_other q v m (bit_xor (get_or q v 0) (get_or k v 0)) 0 (λ x. absurd (omega arith)) ∙ s.old m (omega arith);
}
  where
    below : (m : ℕ) → m < v + 1 → m ≤ v
    below m h = omega arith

sum-cell : (q k r : List ℕ) → Sum q k r → (p : ℕ) → p < 16 → cell p r ≡ xor_words (cell p q) (cell p k)
unfolding xor_words
sum-cell q k r e p h =
    ap₂ ◌∷◌ (e p (omega arith)) (ap₂ ◌∷◌ (e (p + 16) (omega arith)) (ap₂ ◌∷◌ (e (p + 32) (omega arith)) (ap₂ ◌∷◌ (e (p + 48) (omega arith))
    (ap₂ ◌∷◌ (e (p + 64) (omega arith)) (ap₂ ◌∷◌ (e (p + 80) (omega arith)) (ap₂ ◌∷◌ (e (p + 96) (omega arith)) (ap₂ ◌∷◌ (e (p + 112) (omega arith)) refl)))))))

pub each-sum : (q k r : List ℕ) → Sum q k r → (j : ℕ) → state j r ≡ xors (state j q) (state j k)
unfolding state xors ◌⊕◌
each-sum q k r e j =
    same-places (λ p. lane_byte j (cell p r)) (λ p. bit_xor (lane_byte j (cell p q)) (lane_byte j (cell p k)))
    (λ p h. ap (lane_byte j) (sum-cell q k r e p h) ∙ xor-byte j (cell p q) (cell p k) refl)
