-- The loops over the rounds, for the state in each lane, and round keys as bit planes.
use mathlib.Core.Path.{◌≡◌, refl, sym, ap, ap₂, ◌∙◌, subst}
use mathlib.Core.List.{List, [], ◌∷◌, ◌++◌, map}
use mathlib.Core.Logic.{◌≢◌, ⊎_elim}
use Prim.Native.Nat.{ℕ, zero, suc, ◌+◌, ◌-◌, ◌*◌, ◌/◌, ◌%◌, ◌<◌, ◌≤◌}
use native.Mathlib.Nat.{not-suc-le-zero, eq-or-lt_of_le}
use native.Mathlib.Numerals.{add-one}
use native.Mathlib.Omega.{arith}
use lib.ListN.{length, get_or, set, take, drop, length-set}
use lib.Seq.{take-add, drop-drop, get_or-set_same, get_or-set_other}
use Rattle.octets.specs.Octets.{xors, be32}
use Rattle.octets.specs.Splice.{part, splice}
use Rattle.octets.proofs.OctetsLaws.{length-xors}
use Rattle.octets.proofs.SpliceLaws.{part-splice-same, part-splice-before}
use Rattle.aes.specs.Aes.{sub_bytes, inv_sub_bytes, shift_rows, inv_shift_rows, mix_columns, inv_mix_columns, round_key, rounds, cipher, inv_rounds, inv_cipher}
use Rattle.gf256.specs.Field.{sub}
use Rattle.aes.specs.Planes.{column, block, state, Each, Sum, Sliced, lane_of, Transposed}
use Rattle.aes.proofs.PlaneLaws.{each-sum}
use Rattle.aes.proofs.CommuteLaws.{shift_sub, unshift_unsub}
use Rattle.planes.proofs.RowLaws.{row}
use Rattle.cipher.proofs.WordLaws.{sub_word}
use Rattle.aes.specs.Columns.{elems}

-- ---- the loops over the rounds. The code adds a round key where the next round begins, so the state lacks it between two rounds:
-- t is the state before a key is added, and the one after it is that of FIPS 197.

pub round_none : (w s : List ℕ) → xors s (round_key w 0) ≡ rounds 0 w (xors s (round_key w 0))
unfolding rounds
round_none w s = refl

round_more : (i : ℕ) (w s t k r : List ℕ) → xors t (round_key w i) ≡ rounds i w (xors s (round_key w 0)) → k ≡ round_key w i
    → r ≡ mix_columns (shift_rows (sub_bytes (xors t k))) → xors r (round_key w (i + 1)) ≡ rounds (i + 1) w (xors s (round_key w 0))
unfolding rounds
round_more i w s t k r e ek er = rw (er, ek, e, add-one)

round-last : (n i : ℕ) (w s t k l r : List ℕ) → xors t (round_key w i) ≡ rounds i w (xors s (round_key w 0)) → i ≡ n → k ≡ round_key w n
    → l ≡ round_key w (n + 1) → r ≡ xors (shift_rows (sub_bytes (xors t k))) l → r ≡ cipher n w s
unfolding cipher
round-last n i w s t k l r e ei ek el er =
    let f : xors t (round_key w n) ≡ rounds n w (xors s (round_key w 0)) = subst (λ (m : ℕ). xors t (round_key w m) ≡ rounds m w (xors s (round_key w 0))) ei e in
    rw (er, ek, el, f, add-one)

-- undone: i rounds, where t is the state after key i was added
unfoldable pub undone : ℕ → List ℕ → List ℕ → List ℕ
undone zero w t = t
undone (suc i) w t = undone i w (xors (inv_sub_bytes (inv_shift_rows (inv_mix_columns t))) (round_key w i))

undone-rounds : (i : ℕ) (w t : List ℕ) → undone i w (xors t (round_key w i)) ≡ xors (inv_rounds i w t) (round_key w 0)
unfolding undone inv_rounds
undone-rounds zero w t = refl
undone-rounds (suc i) w t = undone-rounds i w (inv_sub_bytes (inv_shift_rows (inv_mix_columns (xors t (round_key w (suc i))))))

undone_none : (i : ℕ) (w t : List ℕ) → i ≡ 0 → t ≡ undone i w t
unfolding undone
undone_none i w t h = ap (λ (m : ℕ). undone m w t) (sym h)

undone_more : (i : ℕ) (w t k r q : List ℕ) → 0 < i → undone i w t ≡ q → k ≡ round_key w (i - 1)
    → r ≡ xors (inv_sub_bytes (inv_shift_rows (inv_mix_columns t))) k → undone (i - 1) w r ≡ q
unfolding undone
undone_more zero w t k r q h e ek er = absurd (not-suc-le-zero h)
undone_more (suc i) w t k r q h e ek er = let n : suc i - 1 ≡ i = omega arith in rw (er, ek, n) e

undone-last : (n i : ℕ) (w s k l t₀ t : List ℕ) → k ≡ round_key w n → l ≡ round_key w (n + 1) → t₀ ≡ xors (inv_sub_bytes (inv_shift_rows (xors s l))) k
    → undone i w t ≡ undone n w t₀ → i ≡ 0 → t ≡ inv_cipher n w s
unfolding inv_cipher
undone-last n i w s k l t₀ t ek el e₀ e ei =
    let f : t ≡ undone n w t₀ = undone_none i w t ei ∙ e in
    rw (f, e₀, ek, el, undone-rounds, add-one)

-- ---- the round keys

sliced_key : (m : ℕ) (w ks x : List ℕ) (i j : ℕ) → Sliced m w ks → i < m → j < 32 → x ≡ take 128 (drop (i * 128) ks) → state j x ≡ round_key w i
unfolding Sliced
sliced_key m w ks x i j s h l e = ap (state j) e ∙ s i j h l

pub sliced_none : (w ks : List ℕ) → Sliced 0 w ks
unfolding Sliced
sliced_none w ks i j h l = absurd (omega arith)

pub sliced_more : (w ks x ks' : List ℕ) (i : ℕ) → (i + 1) * 128 ≤ length ks → length x ≡ 128 → ((j : ℕ) → j < 32 → state j x ≡ part w (i * 16) 16) → Sliced i w ks
    → ks' ≡ splice ks (i * 128) x → Sliced (i + 1) w ks'
unfolding Sliced part
sliced_more w ks x ks' i h l e s z k j hk hj =
    ap (λ (y : List ℕ). state j (take 128 (drop (k * 128) y))) z
    ∙ ⊎_elim
    (λ q. ap (λ (n : ℕ). state j (take 128 (drop (n * 128) (splice ks (i * 128) x)))) q
    ∙ ap (state j) (ap (λ (n : ℕ). take n (drop (i * 128) (splice ks (i * 128) x))) (sym l) ∙ part-splice-same ks (i * 128) x (omega arith)) ∙ e j hj
    ∙ ap (λ (n : ℕ). take 16 (drop (n * 16) w)) (sym q))
    (λ q. ap (state j) (part-splice-before ks (i * 128) x (k * 128) 128 (omega arith) (omega arith)) ∙ s k j q hj)
    (eq-or-lt_of_le (below k hk))
  where
    below : (k : ℕ) → k < i + 1 → k ≤ i
    below k h = omega arith

-- ---- a block's columns are four neighbouring words

-- a block by its columns
block_of : (b : ℕ) (q : List ℕ) (w x y z : ℕ) → elems row b 0 4 q ≡ w ∷ x ∷ y ∷ z ∷ [] → block b q ≡ column w ++ (column x ++ (column y ++ column z))
unfolding block
block_of b q w x y z e =
    ap₂ ◌++◌ (ap column (ap (λ (l : List ℕ). get_or l 0 0) e)) (ap₂ ◌++◌ (ap column (ap (λ (l : List ℕ). get_or l 1 0) e))
    (ap₂ ◌++◌ (ap column (ap (λ (l : List ℕ). get_or l 2 0) e)) (ap column (ap (λ (l : List ℕ). get_or l 3 0) e))))

-- four columns of a list
pub four-columns : (s : List ℕ) (k w x y z : ℕ) → column w ≡ take 4 (drop k s) → column x ≡ take 4 (drop (k + 4) s) → column y ≡ take 4 (drop (k + 8) s)
    → column z ≡ take 4 (drop (k + 12) s) → column w ++ (column x ++ (column y ++ column z)) ≡ part s k 16
unfolding part
four-columns s k w x y z ew ex ey ez =
    let d₂ : drop 4 (drop (k + 4) s) ≡ drop (k + 8) s = drop-drop 4 (k + 4) s ∙ rw (let n : k + 4 + 4 ≡ k + 8 = omega arith in n) in
    let d₃ : drop 4 (drop (k + 8) s) ≡ drop (k + 12) s = drop-drop 4 (k + 8) s ∙ rw (let n : k + 8 + 4 ≡ k + 12 = omega arith in n) in
    let t₂ : take 8 (drop (k + 8) s) ≡ take 4 (drop (k + 8) s) ++ take 4 (drop (k + 12) s) = take-add 4 4 (drop (k + 8) s) ∙ rw d₃ in
    let t₁ : take 12 (drop (k + 4) s) ≡ take 4 (drop (k + 4) s) ++ take 8 (drop (k + 8) s) = take-add 4 8 (drop (k + 4) s) ∙ rw d₂ in
    let t₀ : take 16 (drop k s) ≡ take 4 (drop k s) ++ take 12 (drop (k + 4) s) = take-add 4 12 (drop k s) ∙ rw (drop-drop 4 k s) in
    ap₂ ◌++◌ ew (ap₂ ◌++◌ ex (ap₂ ◌++◌ ey ez)) ∙ sym (rw (t₀, t₁, t₂))

-- each lane is the lane of a block
of_lanes : (P : ℕ → Type 0) → ((b : ℕ) → b < 32 → P (lane_of b)) → (j : ℕ) → j < 32 → P j
of_lanes P p j h =
    let e : lane_of (4 * (j % 8) + j / 8) ≡ j = omega arith in
    subst P e (p (4 * (j % 8) + j / 8) (omega arith))

-- the first column of a block
first-column : (f : ℕ → ℕ) (x y : ℕ) (q r : List ℕ) → get_or q 0 0 ≡ x → get_or r 0 0 ≡ y → block 0 r ≡ map f (block 0 q) → column y ≡ map f (column x)
unfolding block column
first-column f x y q r ex ey e =
    ap column (sym ey) ∙ ap (take 4) e ∙ ap (λ (n : ℕ). map f (column n)) ex

-- a block stored, column by column
module _ (q : List ℕ) (b w x y z : ℕ) where
  abbrev pub stored : List ℕ
  stored = set (set (set (set q (4 * b) w) (4 * b + 1) x) (4 * b + 2) y) (4 * b + 3) z

  pub length-stored : length stored ≡ length q
  length-stored =
      length-set (set (set (set q (4 * b) w) (4 * b + 1) x) (4 * b + 2) y) (4 * b + 3) z ∙ length-set (set (set q (4 * b) w) (4 * b + 1) x) (4 * b + 2) y
      ∙ length-set (set q (4 * b) w) (4 * b + 1) x ∙ length-set q (4 * b) w

  kept : (v : ℕ) → v ≢ 4 * b → v ≢ 4 * b + 1 → v ≢ 4 * b + 2 → v ≢ 4 * b + 3 → get_or stored v 0 ≡ get_or q v 0
  kept v h₀ h₁ h₂ h₃ =
      get_or-set_other (set (set (set q (4 * b) w) (4 * b + 1) x) (4 * b + 2) y) (4 * b + 3) v z 0 h₃
      ∙ get_or-set_other (set (set q (4 * b) w) (4 * b + 1) x) (4 * b + 2) v y 0 h₂ ∙ get_or-set_other (set q (4 * b) w) (4 * b + 1) v x 0 h₁ ∙ get_or-set_other q (4 * b) v w 0 h₀

  pub stored_other : (m : ℕ) → m ≢ b → block m stored ≡ block m q
  unfolding block
  stored_other m d =
      ap₂ ◌++◌ (ap column (kept (4 * m) (λ e. d (omega (arith, e))) (λ e. absurd (omega (arith, e))) (λ e. absurd (omega (arith, e))) (λ e. absurd (omega (arith, e)))))
      (ap₂ ◌++◌ (ap column (kept (4 * m + 1) (λ e. absurd (omega (arith, e))) (λ e. d (omega (arith, e))) (λ e. absurd (omega (arith, e))) (λ e. absurd (omega (arith, e)))))
      (ap₂ ◌++◌ (ap column (kept (4 * m + 2) (λ e. absurd (omega (arith, e))) (λ e. absurd (omega (arith, e))) (λ e. d (omega (arith, e))) (λ e. absurd (omega (arith, e)))))
      (ap column (kept (4 * m + 3) (λ e. absurd (omega (arith, e))) (λ e. absurd (omega (arith, e))) (λ e. absurd (omega (arith, e))) (λ e. d (omega (arith, e)))))))

  pub stored_here : b < 32 → length q ≡ 128 → block b stored ≡ column w ++ (column x ++ (column y ++ column z))
  unfolding block
  stored_here h l =
      let q₁ : List ℕ = set q (4 * b) w in
      let q₂ : List ℕ = set q₁ (4 * b + 1) x in
      let q₃ : List ℕ = set q₂ (4 * b + 2) y in
      let l₁ : length q₁ ≡ 128 = length-set q (4 * b) w ∙ l in
      let l₂ : length q₂ ≡ 128 = length-set q₁ (4 * b + 1) x ∙ l₁ in
      let l₃ : length q₃ ≡ 128 = length-set q₂ (4 * b + 2) y ∙ l₂ in
      ap₂ ◌++◌ (ap column (get_or-set_other q₃ (4 * b + 3) (4 * b) z 0 (λ e. absurd (omega (arith, e))) ∙ get_or-set_other q₂ (4 * b + 2) (4 * b) y 0 (λ e. absurd (omega (arith, e)))
      ∙ get_or-set_other q₁ (4 * b + 1) (4 * b) x 0 (λ e. absurd (omega (arith, e))) ∙ get_or-set_same q (4 * b) w 0 (omega arith)))
      (ap₂ ◌++◌ (ap column (get_or-set_other q₃ (4 * b + 3) (4 * b + 1) z 0 (λ e. absurd (omega (arith, e))) ∙ get_or-set_other q₂ (4 * b + 2) (4 * b + 1) y 0 (λ e. absurd (omega (arith, e)))
      ∙ get_or-set_same q₁ (4 * b + 1) x 0 (omega arith)))
      (ap₂ ◌++◌ (ap column (get_or-set_other q₃ (4 * b + 3) (4 * b + 2) z 0 (λ e. absurd (omega (arith, e))) ∙ get_or-set_same q₂ (4 * b + 2) y 0 (omega arith)))
      (ap column (get_or-set_same q₃ (4 * b + 3) z 0 (omega arith)))))

-- ---- what the code does, step by step

-- SUBWORD: a word in the first column of the first block
pub word-substituted : (x r : ℕ) (q₀ q₁ q₂ q₃ : List ℕ) → get_or q₀ 0 0 ≡ x → Transposed q₀ q₁ → Each sub_bytes q₁ q₂ → Transposed q₂ q₃ → get_or q₃ 0 0 ≡ r
    → be32 r ≡ sub_bytes (be32 x)
unfolding sub_bytes
word-substituted x r q₀ q₁ q₂ q₃ ex t e u er =
    sub_word x r (first-column sub x r q₀ q₃ ex er (u.to_blocks 0 (omega arith) ∙ e 0 (omega arith) ∙ ap sub_bytes (t.to_lanes 0 (omega arith))))

-- a block in all lanes
pub block-spread : (w q r : List ℕ) (k a b c d : ℕ) → column a ≡ take 4 (drop k w) → column b ≡ take 4 (drop (k + 4) w) → column c ≡ take 4 (drop (k + 8) w)
    → column d ≡ take 4 (drop (k + 12) w) → ((m : ℕ) → m < 32 → elems row m 0 4 q ≡ a ∷ b ∷ c ∷ d ∷ []) → Transposed q r → (j : ℕ) → j < 32 → state j r ≡ part w k 16
block-spread w q r k a b c d ea eb ec ed e t =
    of_lanes (λ j. state j r ≡ part w k 16) (λ m h. t.to_lanes m h ∙ block_of m q a b c d (e m h) ∙ four-columns w k a b c d ea eb ec ed)

length-state : (j : ℕ) (q : List ℕ) → length (state j q) ≡ 16
unfolding state
length-state j q = refl

-- the rounds: what stands before SUBBYTES is the sum with the round key k
module _ (q r k : List ℕ) (j : ℕ) (h : j < 32) where
  keyed : List ℕ
  keyed = xors (state j q) (state j k)

  substituted : (x y : List ℕ) → state j x ≡ shift_rows keyed → Each sub_bytes x y → state j y ≡ shift_rows (sub_bytes keyed)
  unfolding keyed
  substituted x y ex ey =
      ey j h ∙ ap sub_bytes ex ∙ sym (shift_sub (xors (state j q) (state j k)) (length-xors (state j q) (state j k) ∙ length-state j q))

  pub round-each : (x y : List ℕ) → state j x ≡ shift_rows (xors (state j q) (state j k)) → Each sub_bytes x y → Each mix_columns y r
      → state j r ≡ mix_columns (shift_rows (sub_bytes (xors (state j q) (state j k))))
  unfolding keyed
  round-each x y ex ey er = er j h ∙ ap mix_columns (substituted x y ex ey)

  pub last-each : (x y l : List ℕ) → state j x ≡ shift_rows (xors (state j q) (state j k)) → Each sub_bytes x y → Sum y l r
      → state j r ≡ xors (shift_rows (sub_bytes (xors (state j q) (state j k)))) (state j l)
  unfolding keyed
  last-each x y l ex ey er = each-sum y l r er j ∙ ap (λ (t : List ℕ). xors t (state j l)) (substituted x y ex ey)

  -- from the state s before INVSUBBYTES
  unsubstituted : (s x y : List ℕ) → length s ≡ 16 → state j x ≡ s → Each inv_sub_bytes x y → state j r ≡ xors (inv_shift_rows (state j y)) (state j k)
      → state j r ≡ xors (inv_sub_bytes (inv_shift_rows s)) (state j k)
  unsubstituted s x y l ex ey er =
      er ∙ ap (λ (t : List ℕ). xors t (state j k)) (ap inv_shift_rows (ey j h ∙ ap inv_sub_bytes ex) ∙ unshift_unsub s l)

  pub inv_last-each : (x y l : List ℕ) → Sum q l x → Each inv_sub_bytes x y → state j r ≡ xors (inv_shift_rows (state j y)) (state j k)
      → state j r ≡ xors (inv_sub_bytes (inv_shift_rows (xors (state j q) (state j l)))) (state j k)
  inv_last-each x y l ex ey er =
      unsubstituted (xors (state j q) (state j l)) x y (length-xors (state j q) (state j l) ∙ length-state j q) (each-sum q l x ex j) ey er

  pub inv_round-each : (x y : List ℕ) → Each inv_mix_columns q x → Each inv_sub_bytes x y → state j r ≡ xors (inv_shift_rows (state j y)) (state j k)
      → state j r ≡ xors (inv_sub_bytes (inv_shift_rows (inv_mix_columns (state j q)))) (state j k)
  inv_round-each x y ex ey er =
      unsubstituted (inv_mix_columns (state j q)) x y (ap length (sym (ex j h)) ∙ length-state j x) (ex j h) ey er

-- part i of the sliced keys, as it is lent
lent_part : (ks : List ℕ) (a e : ℕ) → e ≡ a + 128 → take (e - a) (drop a ks) ≡ take 128 (drop a ks)
lent_part ks a e h = let n : e - a ≡ 128 = omega arith in ap (λ (m : ℕ). take m (drop a ks)) n

module _ (n : ℕ) (w ks : List ℕ) (s : Sliced (n + 2) w ks) (j : ℕ) (h : j < 32) where
  key-part : (i a e : ℕ) → i < n + 2 → a ≡ i * 128 → e ≡ a + 128 → state j (take (e - a) (drop a ks)) ≡ round_key w i
  key-part i a e l ea ee = sliced_key (n + 2) w ks (take (e - a) (drop a ks)) i j s l h (lent_part ks a e ee ∙ ap (λ (m : ℕ). take 128 (drop m ks)) ea)

  pub round-again : (i : ℕ) (q₀ q r : List ℕ) (a e : ℕ) → i < n → a ≡ i * 128 → e ≡ a + 128
      → xors (state j q) (round_key w i) ≡ rounds i w (xors (state j q₀) (round_key w 0))
      → state j r ≡ mix_columns (shift_rows (sub_bytes (xors (state j q) (state j (take (e - a) (drop a ks))))))
      → xors (state j r) (round_key w (i + 1)) ≡ rounds (i + 1) w (xors (state j q₀) (round_key w 0))
  round-again i q₀ q r a e l ea ee p er = round_more i w (state j q₀) (state j q) _ (state j r) p (key-part i a e (omega arith) ea ee) er

  pub inv_again : (i : ℕ) (q r x : List ℕ) (a e : ℕ) → 0 < i → i ≤ n → a ≡ (i - 1) * 128 → e ≡ a + 128 → undone i w (state j q) ≡ x
      → state j r ≡ xors (inv_sub_bytes (inv_shift_rows (inv_mix_columns (state j q)))) (state j (take (e - a) (drop a ks))) → undone (i - 1) w (state j r) ≡ x
  inv_again i q r x a e l m ea ee p er = undone_more i w (state j q) _ (state j r) x l p (key-part (i - 1) a e (omega arith) ea ee) er

-- the whole cipher, and its inverse, of block b; k and l are the last two round keys
module _ (n : ℕ) (w ks : List ℕ) (s : Sliced (n + 2) w ks) (b : ℕ) (h : b < 32) (f g : ℕ) (ef : f ≡ n * 128) (eg : g ≡ f + 128) where
  lane : ℕ
  lane = lane_of b

  inside : lane < 32
  unfolding lane
  inside = omega arith

  before_last : state lane (take (g - f) (drop f ks)) ≡ round_key w n
  before_last = key-part n w ks s lane inside n f g (omega arith) ef eg

  last : (e : ℕ) → e ≡ g + 128 → state lane (take (e - g) (drop g ks)) ≡ round_key w (n + 1)
  last e ee = key-part n w ks s lane inside (n + 1) g e (omega arith) (omega arith) ee

  pub encrypted : (q₀ q₁ q₂ q₃ q₄ : List ℕ) (i e : ℕ) → e ≡ g + 128 → Transposed q₀ q₁ → i ≡ n
      → ((j : ℕ) → j < 32 → xors (state j q₂) (round_key w i) ≡ rounds i w (xors (state j q₁) (round_key w 0)))
      → ((j : ℕ) → j < 32 → state j q₃ ≡ xors (shift_rows (sub_bytes (xors (state j q₂) (state j (take (g - f) (drop f ks)))))) (state j (take (e - g) (drop g ks))))
      → Transposed q₃ q₄ → block b q₄ ≡ cipher n w (block b q₀)
  unfolding lane
  encrypted q₀ q₁ q₂ q₃ q₄ i e ee t ei e₂ e₃ u =
      u.to_blocks b h
      ∙ round-last n i w (state lane q₁) (state lane q₂) _ _ (state lane q₃) (e₂ lane inside) ei before_last (last e ee) (e₃ lane inside)
      ∙ ap (cipher n w) (t.to_lanes b h)

  pub decrypted : (q₀ q₁ q₂ q₃ q₄ : List ℕ) (i e : ℕ) → e ≡ g + 128 → Transposed q₀ q₁
      → ((j : ℕ) → j < 32 → state j q₂ ≡ xors (inv_sub_bytes (inv_shift_rows (xors (state j q₁) (state j (take (e - g) (drop g ks)))))) (state j (take (g - f) (drop f ks))))
      → ((j : ℕ) → j < 32 → undone i w (state j q₃) ≡ undone n w (state j q₂)) → i ≡ 0 → Transposed q₃ q₄ → block b q₄ ≡ inv_cipher n w (block b q₀)
  unfolding lane
  decrypted q₀ q₁ q₂ q₃ q₄ i e ee t e₂ e₃ ei u =
      u.to_blocks b h
      ∙ undone-last n i w (state lane q₁) _ _ (state lane q₂) (state lane q₃) before_last (last e ee) (e₂ lane inside) (e₃ lane inside) ei
      ∙ ap (inv_cipher n w) (t.to_lanes b h)
