-- The words of a column replaced in place, plane by plane from bit 7 down, and then column after column.
use mathlib.Core.Path.{◌≡◌, refl, sym, ap, ap₂, ◌∙◌, subst}
use mathlib.Core.Logic.{◌≢◌, ⊎_elim}
use mathlib.Core.List.{List, [], ◌∷◌, ◌++◌}
use Prim.Native.Nat.{ℕ, zero, suc, ◌+◌, ◌-◌, ◌*◌, ◌/◌, ◌%◌, ◌<◌, ◌≤◌, zero-le}
use native.Mathlib.Nat.{eq-or-lt_of_le}
use native.Mathlib.Omega.{arith}
use lib.ListN.{length, get_or, replicate}
use Rattle.std.specs.Int.Bits.{bit_xor, xor_zero_r}
use Rattle.octets.specs.Octets.{◌⊕◌}
use Rattle.octets.proofs.XorLaws.{⊕-assoc}
use Rattle.aes.specs.Columns.{elems, at4}
use Rattle.aes.proofs.GroupLaws.{elem_at, Apart, Done, done_none, done_more, apart4, at4-is}
use Rattle.mixing.specs.Rows.{rows_at, put_rows, ReadPut, sum_of, next_sums, cross_sums, Column}

-- ---- sums of rows

pub sum-assoc : (x y z : List ℕ) → sum_of x (sum_of y z) ≡ sum_of (sum_of x y) z
unfolding ◌⊕◌
sum-assoc x y z =
    ap₂ ◌∷◌ (sym (⊕-assoc (get_or x 0 0) (get_or y 0 0) (get_or z 0 0))) (ap₂ ◌∷◌ (sym (⊕-assoc (get_or x 1 0) (get_or y 1 0) (get_or z 1 0)))
    (ap₂ ◌∷◌ (sym (⊕-assoc (get_or x 2 0) (get_or y 2 0) (get_or z 2 0))) (ap₂ ◌∷◌ (sym (⊕-assoc (get_or x 3 0) (get_or y 3 0) (get_or z 3 0))) refl)))

-- no rows, as the code writes them
abbrev pub no_rows : List ℕ
no_rows = replicate 4 0

-- nothing is added
pub next-plain : (x : List ℕ) → sum_of (next_sums x) (next_sums no_rows) ≡ next_sums x
next-plain x =
    ap₂ ◌∷◌ (xor_zero_r (bit_xor (get_or x 0 0) (get_or x 1 0))) (ap₂ ◌∷◌ (xor_zero_r (bit_xor (get_or x 1 0) (get_or x 2 0)))
    (ap₂ ◌∷◌ (xor_zero_r (bit_xor (get_or x 2 0) (get_or x 3 0))) (ap₂ ◌∷◌ (xor_zero_r (bit_xor (get_or x 3 0) (get_or x 0 0))) refl)))

pub cross-plain : (x : List ℕ) → sum_of (cross_sums x) no_rows ≡ cross_sums x
cross-plain x =
    ap₂ ◌∷◌ (xor_zero_r (bit_xor (get_or x 0 0) (get_or x 2 0))) (ap₂ ◌∷◌ (xor_zero_r (bit_xor (get_or x 1 0) (get_or x 3 0)))
    (ap₂ ◌∷◌ (xor_zero_r (bit_xor (get_or x 0 0) (get_or x 2 0))) (ap₂ ◌∷◌ (xor_zero_r (bit_xor (get_or x 1 0) (get_or x 3 0))) refl)))

-- ---- a column of 32 words

-- the rows of bit n
abbrev pub bit_rows : ℕ → List ℕ → List ℕ
bit_rows n x = get_or x (4 * n) 0 ∷ get_or x (4 * n + 1) 0 ∷ get_or x (4 * n + 2) 0 ∷ get_or x (4 * n + 3) 0 ∷ []

-- the same words, bit after bit
abbrev pub bits : List ℕ → List ℕ
bits x =
    bit_rows 0 x ++ (bit_rows 1 x ++ (bit_rows 2 x ++ (bit_rows 3 x ++ (bit_rows 4 x ++ (bit_rows 5 x ++ (bit_rows 6 x ++ bit_rows 7 x))))))

same_bits : (x y : List ℕ) → ((n : ℕ) → n < 8 → bit_rows n x ≡ bit_rows n y) → bits x ≡ bits y
same_bits x y e =
    ap₂ ◌++◌ (e 0 (omega arith)) (ap₂ ◌++◌ (e 1 (omega arith)) (ap₂ ◌++◌ (e 2 (omega arith)) (ap₂ ◌++◌ (e 3 (omega arith))
    (ap₂ ◌++◌ (e 4 (omega arith)) (ap₂ ◌++◌ (e 5 (omega arith)) (ap₂ ◌++◌ (e 6 (omega arith)) (e 7 (omega arith))))))))

rows-bit : (c n k : ℕ) (q : List ℕ) → n < 8 → k ≡ c + 16 * n → rows_at k q ≡ bit_rows n (elems at4 c 0 32 q)
rows-bit c n k q h e =
    ap₂ ◌∷◌ (word k (4 * n) (omega arith) (omega arith)) (ap₂ ◌∷◌ (word (k + 4) (4 * n + 1) (omega arith) (omega arith))
    (ap₂ ◌∷◌ (word (k + 8) (4 * n + 2) (omega arith) (omega arith)) (ap₂ ◌∷◌ (word (k + 12) (4 * n + 3) (omega arith) (omega arith)) refl)))
  where
    word : (v m : ℕ) → m < 32 → v ≡ c + 4 * m → get_or q v 0 ≡ get_or (elems at4 c 0 32 q) m 0
    word v m b d =
        let a : v ≡ at4 c (0 + m) = omega (arith, at4-is c (0 + m)) in
        ap (λ (u : ℕ). get_or q u 0) a ∙ sym (elem_at at4 c 0 m 32 q b)

-- ---- 32 groups of four rows: the planes of column c in the order in which they are stored, and then those of the columns after it

-- the first row's word
abbrev start : ℕ → ℕ → ℕ
start c m = (c + m / 8) % 4 + 16 * (7 - m % 8)

abbrev pub rows : ℕ → ℕ → ℕ → ℕ
rows c m zero = start c m
rows c m (suc i) = start c m + 4 * suc i

rows_is : (c m i : ℕ) → rows c m i ≡ start c m + 4 * i
rows_is c m zero = omega arith
rows_is c m (suc i) = refl

same_start : (c k l i j : ℕ) → i < 4 → j < 4 → start c k + 4 * i ≡ start c l + 4 * j → start c k ≡ start c l
same_start c k l i j hi hj e = omega arith

same-group : (c k l : ℕ) → k < 32 → l < 32 → start c k ≡ start c l → k ≡ l
same-group c k l hk hl e =
    let a : (c + k / 8) % 4 ≡ (c + l / 8) % 4 = omega arith in
    let b : k % 8 ≡ l % 8 = omega arith in
    let d : k / 8 ≡ l / 8 = omega arith in
    omega arith

pub apart-rows : (c : ℕ) → Apart (rows c) 32 4
apart-rows c = record {
  inside = λ k i h l. omega (arith, rows_is c k i);
  inner = λ k i j h l u x. absurd (omega (arith, rows_is c k i, rows_is c k j, x));
  outer = λ k l i j hk hl hi hj d x. d (same-group c k l hk hl (same_start c k l i j hi hj (sym (rows_is c k i) ∙ x ∙ rows_is c l j)));
}

start-own : (c p : ℕ) → c < 4 → p < 8 → start c p ≡ c + 16 * (7 - p)
start-own c p h l =
    let a : p / 8 ≡ 0 = omega arith in
    let b : p % 8 ≡ p = omega arith in
    let e : c % 4 ≡ c = omega arith in
    let d : (c + p / 8) % 4 ≡ c = ap (λ (v : ℕ). v % 4) (let z : c + p / 8 ≡ c = omega arith in z) ∙ e in
    omega arith

start-other : (c d n : ℕ) → c < 4 → d < 4 → n < 8 → start c (8 * ((d + 4 - c) % 4) + (7 - n)) ≡ d + 16 * n
start-other c d n h l b =
    let a : (8 * ((d + 4 - c) % 4) + (7 - n)) / 8 ≡ (d + 4 - c) % 4 = omega arith in
    let e : (8 * ((d + 4 - c) % 4) + (7 - n)) % 8 ≡ 7 - n = omega arith in
    let f : (c + (d + 4 - c) % 4) % 4 ≡ d = omega arith in
    let g : (c + (8 * ((d + 4 - c) % 4) + (7 - n)) / 8) % 4 ≡ d = ap (λ (v : ℕ). (c + v) % 4) a ∙ f in
    omega arith

away : (c d : ℕ) → c < 4 → d < 4 → d ≢ c → 0 < (d + 4 - c) % 4
away c d h l o = ⊎_elim (λ z. absurd (o (let e : (d + 4 - c) % 4 ≡ 0 = sym z in omega arith))) (λ z. z) (eq-or-lt_of_le zero-le)

-- column c of q is to have the words y
module _ (c : ℕ) (h : c < 4) (q y : List ℕ) where
  -- the first p planes are stored
  abbrev pub Stored : ℕ → List ℕ → Type 0
  Stored p r = Done (rows c) 32 4 (apart-rows c) (λ m. bit_rows (7 - m) y) (λ m. rows_at (start c m) q) p r

  pub none_stored : length q ≡ 128 → Stored 0 q
  none_stored l = done_none (rows c) 32 4 (apart-rows c) (λ m. bit_rows (7 - m) y) (λ m. rows_at (start c m) q) q l (λ m. refl)

  pub more_stored : (p k : ℕ) (z r s : List ℕ) → p < 8 → k ≡ c + 16 * (7 - p) → z ≡ bit_rows (7 - p) y → s ≡ put_rows k z r → Stored p r → Stored (p + 1) s
  more_stored p k z r s hp e ez es d =
      let n : k ≡ start c p = e ∙ sym (start-own c p h hp) in
      subst (Stored (p + 1)) (sym (es ∙ ap (λ (v : ℕ). put_rows v z r) n))
      (done_more (rows c) 32 4 (apart-rows c) (λ m. bit_rows (7 - m) y) (λ m. rows_at (start c m) q) p (bit_rows 0 z) r (omega arith) refl (ap (bit_rows 0) ez) d)

  -- a plane that is not stored yet is as it was
  pub not-stored : (p m k : ℕ) (a r : List ℕ) → p ≤ m → m < 8 → k ≡ c + 16 * (7 - m) → a ≡ rows_at k r → Stored p r → a ≡ bit_rows (7 - m) (elems at4 c 0 32 q)
  not-stored p m k a r l hm e ea d =
      let n : k ≡ start c m = e ∙ sym (start-own c m h hm) in
      ea ∙ ap (λ (v : ℕ). rows_at v r) n ∙ d.old m l (omega arith) ∙ rows-bit c (7 - m) (start c m) q (omega arith) (start-own c m h hm)

  -- the rows of one plane are read, and those of the next in the order are stored
  pub read-stored : {i k : ℕ} {f : List ℕ → List ℕ} {b r s : List ℕ} (p m : ℕ) → ReadPut i k f r b s → p ≤ m → m < 8 → i ≡ c + 16 * (7 - m)
      → k ≡ c + 16 * (7 - p) → f (bit_rows (7 - m) (elems at4 c 0 32 q)) ≡ bit_rows (7 - p) y → Stored p r
      → (b ≡ bit_rows (7 - m) (elems at4 c 0 32 q)) × Stored (p + 1) s
  read-stored {i} {k} {f} {b} {r} {s} p m t l hm ei ek ef d =
      let e : b ≡ bit_rows (7 - m) (elems at4 c 0 32 q) = not-stored p m i b r l hm ei t.read d in
      (e, more_stored p k (f b) r s (omega arith) ek (ap f e ∙ ef) t.put d)

  all_stored : (r : List ℕ) → Stored 8 r → y ≡ bits y → elems at4 c 0 32 r ≡ y
  all_stored r d e = same_bits (elems at4 c 0 32 r) y new ∙ sym e
    where
      new : (n : ℕ) → n < 8 → bit_rows n (elems at4 c 0 32 r) ≡ bit_rows n y
      new n b =
          let m : 7 - (7 - n) ≡ n = omega arith in
          sym (rows-bit c n (start c (7 - n)) r b (start-own c (7 - n) h (omega arith) ∙ ap (λ (v : ℕ). c + 16 * v) m)) ∙ d.new (7 - n) (omega arith) ∙ ap (λ (v : ℕ). bit_rows v y) m

  others_kept : (r : List ℕ) (p : ℕ) → p ≤ 8 → Stored p r → (d : ℕ) → d < 4 → d ≢ c → elems at4 d 0 32 r ≡ elems at4 d 0 32 q
  others_kept r p hp s d hd o = same_bits (elems at4 d 0 32 r) (elems at4 d 0 32 q) old
    where
      old : (n : ℕ) → n < 8 → bit_rows n (elems at4 d 0 32 r) ≡ bit_rows n (elems at4 d 0 32 q)
      old n b =
          let m : ℕ = 8 * ((d + 4 - c) % 4) + (7 - n) in
          let e : start c m ≡ d + 16 * n = start-other c d n h hd b in
          let g : 0 < (d + 4 - c) % 4 = away c d h hd o in
          sym (rows-bit d n (start c m) r b e) ∙ s.old m (omega arith) (omega arith) ∙ rows-bit d n (start c m) q b e

-- ---- a whole column, and column after column

pub column-done : (f : List ℕ → List ℕ) (c : ℕ) (h : c < 4) (q r : List ℕ) → ((x : List ℕ) → f x ≡ bits (f x))
    → Stored c h q (f (elems at4 c 0 32 q)) 8 r → Column f c q r
column-done f c h q r e s = record {
  size = s.size;
  here = all_stored c h q (f (elems at4 c 0 32 q)) r s (e (elems at4 c 0 32 q));
  there = others_kept c h q (f (elems at4 c 0 32 q)) r 8 (omega arith) s;
}

module _ (f : List ℕ → List ℕ) (q₀ : List ℕ) where
  -- f is done to the columns below c
  abbrev pub Columns : ℕ → List ℕ → Type 0
  Columns c q = Done at4 4 32 apart4 (λ m. f (elems at4 m 0 32 q₀)) (λ m. elems at4 m 0 32 q₀) c q

  pub no-column : length q₀ ≡ 128 → Columns 0 q₀
  no-column l = done_none at4 4 32 apart4 (λ m. f (elems at4 m 0 32 q₀)) (λ m. elems at4 m 0 32 q₀) q₀ l (λ m. refl)

  pub next-column : (c : ℕ) (q r : List ℕ) → c < 4 → Columns c q → Column f c q r → Columns (c + 1) r
  next-column c q r h d k = record {
    size = k.size;
    new = λ m l. ⊎_elim
        (λ z. ap (λ (x : ℕ). elems at4 x 0 32 r) z ∙ k.here ∙ ap f (d.old c (omega arith) h) ∙ ap (λ (x : ℕ). f (elems at4 x 0 32 q₀)) (sym z))
        (λ z. k.there m (omega arith) (λ e. absurd (omega (arith, e))) ∙ d.new m z)
        (eq-or-lt_of_le (below m l));
    old = λ m l u. k.there m u (λ e. absurd (omega (arith, e))) ∙ d.old m (omega arith) u;
  }
    where
      below : (m : ℕ) → m < c + 1 → m ≤ c
      below m l = omega arith
