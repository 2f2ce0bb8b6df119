-- Up to 32 blocks of a data unit at a time, as words: the tweaks, what is loaded and stored, and the sum with the tweaks.
use Rattle.std.proofs.Common.{◌≡◌, ℕ, zero, suc, ◌+◌, ◌-◌, ◌*◌, ◌/◌, ◌%◌, ◌^◌, ◌<◌, ◌≤◌, min, Bool, List, [], ◌∷◌, ◌++◌, length, get_or, take, drop, set, sym, refl, ap, ◌∙◌, ap₂, ⊎_elim, append_assoc, le_refl, mod-eq_of_lt, add_comm, eq-or-lt_of_le, add-one, arith, length-drop, length-set, take-append-drop, get_or-set_other, get_or-set_same, drop-drop, subst, shr-shr, w32}
use Rattle.std.specs.Int.{to_le_bytes}
use lib.Bits.{bit_xor}
use lib.Pow.{high, split}
use Rattle.octets.specs.Octets.{◌⊕◌, xors}
use Rattle.octets.specs.Splice.{part, splice}
use Rattle.octets.proofs.XorLaws.{⊕-div, ⊕-mod, ⊕_undo}
use Rattle.octets.proofs.OctetsLaws.{xors-append, xors_undo}
use Rattle.octets.proofs.SpliceLaws.{part-splice-same, part-splice-before, length-splice}
use Rattle.suite.specs.Units.{in_units}
use Rattle.aes.specs.Aes.{cipher}
use Rattle.aes.specs.Planes.{column, Sliced}
use Rattle.aes.specs.Planes as planes
use Rattle.cipher.proofs.RoundLaws.{four-columns, stored, length-stored, stored_here, stored_other}
use Rattle.xts.specs.Xts.{little_endian, unit_block, double, block, blocks, data_unit}
use Rattle.xts.specs.Keys.{tweak_at, Firsts, Under, cipher_of}
use Rattle.xts.proofs.LittleLaws.{little_endian-low, little_endian-4-4}
use Rattle.xts.proofs.UnitLaws.{unit_more, group_more}

-- ---- a column is four bytes, the lowest first

column-is : (x : ℕ) → column x ≡ little_endian 4 x
unfolding column little_endian
column-is x = refl

low_word : (x : ℕ) → column (x % 4294967296) ≡ little_endian 4 x
low_word x = column-is (x % 4294967296) ∙ sym (little_endian-low 4 (x / 2 ^ 32) (x % 2 ^ 32)) ∙ ap (little_endian 4) (split x 32)

-- a number of eight bytes in two columns
pub two-columns : (x : ℕ) → column (x % 4294967296) ++ column (x / 4294967296) ≡ little_endian 8 x
two-columns x = ap₂ ◌++◌ (low_word x) (column-is (x / 4294967296)) ∙ sym (little_endian-4-4 x)

pub four-columns-of : (w x y z lo hi : ℕ) → column w ++ column x ≡ little_endian 8 lo → column y ++ column z ≡ little_endian 8 hi
    → column w ++ (column x ++ (column y ++ column z)) ≡ little_endian 8 lo ++ little_endian 8 hi
four-columns-of w x y z lo hi e f = sym (append_assoc (column w) (column x) (column y ++ column z)) ∙ ap₂ ◌++◌ e f

pub join-columns : (p q : ℕ) → p < 2 ^ 32 → little_endian 8 (p + q * 4294967296) ≡ column p ++ column q
join-columns p q h =
    ap (little_endian 8) (add_comm p (q * 4294967296)) ∙ little_endian-4-4 (q * 2 ^ 32 + p)
    ∙ ap₂ (λ (x : List ℕ) (y : ℕ). x ++ little_endian 4 y) (little_endian-low 4 q p) (high q 32 h)
    ∙ ap₂ ◌++◌ (sym (column-is p)) (sym (column-is q))

-- as the integers' own method has them
pub column-bytes : (x : ℕ) → to_le_bytes w32 x ≡ column x
unfolding column
column-bytes x =
    ap (λ (r : List ℕ). x % 256 ∷ x / 256 % 256 ∷ r)
    (ap₂ (λ (y z : ℕ). y % 256 ∷ z % 256 ∷ []) (sym (shr-shr x 8 8)) (sym (ap (λ (n : ℕ). n / 256) (shr-shr x 8 8) ∙ shr-shr x 16 8)))

pub block_tweak : (q : List ℕ) (b lo hi : ℕ) → little_endian 8 lo ≡ column (get_or q (4 * b) 0) ++ column (get_or q (4 * b + 1) 0)
    → little_endian 8 hi ≡ column (get_or q (4 * b + 2) 0) ++ column (get_or q (4 * b + 3) 0) → little_endian 8 lo ++ little_endian 8 hi ≡ planes.block b q
unfolding planes.block
block_tweak q b lo hi el eh =
    ap₂ ◌++◌ el eh
    ∙ append_assoc (column (get_or q (4 * b) 0)) (column (get_or q (4 * b + 1) 0)) (column (get_or q (4 * b + 2) 0) ++ column (get_or q (4 * b + 3) 0))

below : (m j : ℕ) → m < j + 1 → m ≤ j
below m j h = omega arith

-- ---- blocks stored one by one: F b is block b

pub record Stored (F : ℕ → List ℕ) (b : ℕ) (q : List ℕ) : Type 0 where
  pub size : length q ≡ 128
  pub new : (m : ℕ) → m < b → planes.block m q ≡ F m

pub stored_none : (F : ℕ → List ℕ) (q : List ℕ) → length q ≡ 128 → Stored F 0 q
stored_none F q l = record { size = l; new = λ m h. absurd (omega arith) }

pub stored_more : (F : ℕ → List ℕ) (q : List ℕ) (b w x y z : ℕ) → b < 32 → column w ++ (column x ++ (column y ++ column z)) ≡ F b → Stored F b q
    → Stored F (b + 1) (stored q b w x y z)
stored_more F q b w x y z h e s = record {
  size = length-stored q b w x y z ∙ s.size;
  new = λ m l. ⊎_elim
      (λ k. ap (λ (n : ℕ). planes.block n (stored q b w x y z)) k ∙ stored_here q b w x y z h s.size ∙ e ∙ ap F (sym k))
      (λ k. stored_other q b w x y z m (λ i. absurd (omega arith)) ∙ s.new m k)
      (eq-or-lt_of_le (below m b l));
}

-- ---- sums

column-⊕ : (x y : ℕ) → column (bit_xor x y) ≡ xors (column x) (column y)
unfolding column xors ◌⊕◌
column-⊕ x y =
    let d₁ : bit_xor x y / 256 ≡ bit_xor (x / 256) (y / 256) = ⊕-div x y 8 in
    let d₂ : bit_xor x y / 256 / 256 ≡ bit_xor (x / 256 / 256) (y / 256 / 256) = ap (λ (n : ℕ). n / 256) d₁ ∙ ⊕-div (x / 256) (y / 256) 8 in
    let d₃ : bit_xor x y / 256 / 256 / 256 ≡ bit_xor (x / 256 / 256 / 256) (y / 256 / 256 / 256) = ap (λ (n : ℕ). n / 256) d₂ ∙ ⊕-div (x / 256 / 256) (y / 256 / 256) 8 in
    ap₂ ◌∷◌ (⊕-mod x y 8) (ap₂ ◌∷◌ (ap (λ (n : ℕ). n % 256) d₁
    ∙ ⊕-mod (x / 256) (y / 256) 8) (ap₂ ◌∷◌ (ap (λ (n : ℕ). n % 256) d₂ ∙ ⊕-mod (x / 256 / 256) (y / 256 / 256) 8)
    (ap₂ ◌∷◌ (ap (λ (n : ℕ). n % 256) d₃ ∙ ⊕-mod (x / 256 / 256 / 256) (y / 256 / 256 / 256) 8) refl)))

length-column : (x : ℕ) → length (column x) ≡ 4
unfolding column
length-column x = refl

-- the first j columns of s are the sums of the words of q and u
abbrev Summed : ℕ → List ℕ → List ℕ → List ℕ → Type 0
Summed j s q u = (m : ℕ) → m < j → column (bit_xor (get_or q m 0) (get_or u m 0)) ≡ take 4 (drop (4 * m) s)

summed_block : (s q u : List ℕ) (n b : ℕ) → Summed n s q u → 4 * b + 4 ≤ n → part s (b * 16) 16 ≡ xors (planes.block b q) (planes.block b u)
unfolding planes.block
summed_block s q u n b e h =
    let w : ℕ → ℕ = λ v. bit_xor (get_or q v 0) (get_or u v 0) in
    let p : (i k : ℕ) → 4 * b + i < n → 4 * (4 * b + i) ≡ k → column (w (4 * b + i)) ≡ take 4 (drop k s) = λ i k l z. e (4 * b + i) l ∙ ap (λ (n : ℕ). take 4 (drop n s)) z in
    let g : (v : ℕ) (x y z : List ℕ) → z ≡ xors x y → column (w v) ++ z ≡ xors (column (get_or q v 0) ++ x) (column (get_or u v 0) ++ y) =
    λ v x y z i. ap₂ ◌++◌ (column-⊕ (get_or q v 0) (get_or u v 0)) i
    ∙ sym (xors-append (column (get_or q v 0)) x (column (get_or u v 0)) y (length-column (get_or q v 0) ∙ sym (length-column (get_or u v 0)))) in
    sym (four-columns s (b * 16) (w (4 * b)) (w (4 * b + 1)) (w (4 * b + 2)) (w (4 * b + 3))
    (e (4 * b) (omega arith) ∙ ap (λ (n : ℕ). take 4 (drop n s)) (let z : 4 * (4 * b) ≡ b * 16 = omega arith in z))
    (p 1 (b * 16 + 4) (omega arith) (omega arith)) (p 2 (b * 16 + 8) (omega arith) (omega arith)) (p 3 (b * 16 + 12) (omega arith) (omega arith)))
    ∙ g (4 * b) _ _ _ (g (4 * b + 1) _ _ _ (g (4 * b + 2) _ _ _ (column-⊕ (get_or q (4 * b + 3) 0) (get_or u (4 * b + 3) 0))))

-- ---- words loaded: the columns of s added to those of u

pub record Loaded (s u : List ℕ) (j : ℕ) (q : List ℕ) : Type 0 where
  pub size : length q ≡ 128
  pub new : Summed j s q u
  pub old : (m : ℕ) → j ≤ m → get_or q m 0 ≡ get_or u m 0

pub loaded_none : (s q : List ℕ) → length q ≡ 128 → Loaded s q 0 q
loaded_none s q l = record { size = l; new = λ m h. absurd (omega arith); old = λ m h. refl }

pub loaded_more : (s u q : List ℕ) (j x : ℕ) → j < 128 → column x ≡ take 4 (drop (4 * j) s) → Loaded s u j q → Loaded s u (j + 1) (set q j (bit_xor x (get_or q j 0)))
unfolding ◌⊕◌
loaded_more s u q j x h e o =
    let y : ℕ = bit_xor x (get_or q j 0) in
    let l : length q ≡ 128 = o.size in
    let z : bit_xor y (get_or u j 0) ≡ x = ap (λ (n : ℕ). bit_xor (bit_xor x n) (get_or u j 0)) (o.old j (le_refl j)) ∙ ⊕_undo x (get_or u j 0) in record {
      size = length-set q j y ∙ l;
      new = λ m k. ⊎_elim
          (λ i. ap (λ (n : ℕ). column (bit_xor (get_or (set q j y) n 0) (get_or u n 0))) i
          ∙ ap (λ (n : ℕ). column (bit_xor n (get_or u j 0))) (get_or-set_same q j y 0 (omega arith)) ∙ ap column z ∙ e
          ∙ ap (λ (n : ℕ). take 4 (drop (4 * n) s)) (sym i))
          (λ i. ap (λ (n : ℕ). column (bit_xor n (get_or u m 0))) (get_or-set_other q j m y 0 (λ e. absurd (omega arith))) ∙ o.new m i)
          (eq-or-lt_of_le (below m j k));
      old = λ m k. get_or-set_other q j m y 0 (λ e. absurd (omega arith)) ∙ o.old m (omega arith);
    }

pub loaded-block : (s u q : List ℕ) (n b : ℕ) → Loaded s u n q → 4 * b + 4 ≤ n → planes.block b q ≡ xors (part s (b * 16) 16) (planes.block b u)
loaded-block s u q n b o h =
    sym (ap (λ (x : List ℕ). xors x (planes.block b u)) (summed_block s q u n b o.new h) ∙ xors_undo (planes.block b q) (planes.block b u))

-- ---- words stored: the sums of the words of q and u

pub record Written (q u s₀ : List ℕ) (j : ℕ) (s : List ℕ) : Type 0 where
  pub size : length s ≡ length s₀
  pub new : Summed j s q u

pub written_none : (q u s : List ℕ) → Written q u s 0 s
written_none q u s = record { size = refl; new = λ m h. absurd (omega arith) }

pub written_more : (q u s₀ s s' x : List ℕ) (j : ℕ) → 4 * j + 4 ≤ length s₀ → x ≡ column (bit_xor (get_or q j 0) (get_or u j 0)) → s' ≡ splice s (4 * j) x → Written q u s₀ j s
    → Written q u s₀ (j + 1) s'
unfolding part
written_more q u s₀ s s' x j h e es o =
    let lx : length x ≡ 4 = ap length e ∙ length-column (bit_xor (get_or q j 0) (get_or u j 0)) in
    let ls : length s ≡ length s₀ = o.size in record {
      size = ap length es ∙ length-splice s (4 * j) x (omega arith) ∙ ls;
      new = λ m l. ⊎_elim
          (λ k. ap (λ (n : ℕ). column (bit_xor (get_or q n 0) (get_or u n 0))) k ∙ sym e ∙ sym (part-splice-same s (4 * j) x (omega arith))
          ∙ ap (λ (n : ℕ). take n (drop (4 * j) (splice s (4 * j) x))) lx
          ∙ ap₂ (λ (n : ℕ) (y : List ℕ). take 4 (drop (4 * n) y)) (sym k) (sym es))
          (λ k. o.new m k ∙ sym (part-splice-before s (4 * j) x (4 * m) 4 (omega arith) (omega arith)) ∙ ap (λ (y : List ℕ). take 4 (drop (4 * m) y)) (sym es))
          (eq-or-lt_of_le (below m j l));
    }

pub written-block : (q u s₀ s : List ℕ) (n b : ℕ) → Written q u s₀ n s → 4 * b + 4 ≤ n → part s (b * 16) 16 ≡ xors (planes.block b q) (planes.block b u)
written-block q u s₀ s n b o h = summed_block s q u n b o.new h

-- ---- the blocks of a group, each under its tweak

tweak_double : (b : ℕ) (t : List ℕ) → tweak_at b (double t) ≡ double (tweak_at b t)
unfolding tweak_at
tweak_double zero t = refl
tweak_double (suc b) t = ap double (tweak_double b t)

pub tweak_next : (b : ℕ) (t x y : List ℕ) → x ≡ tweak_at b t → y ≡ double x → y ≡ tweak_at (b + 1) t
unfolding tweak_at
tweak_next b t x y e f = rw add-one (f ∙ ap double e)

module _ (f : List ℕ → List ℕ) where
  from-blocks : (m : ℕ) (t s s' : List ℕ) → length s' ≡ m * 16
      → ((b : ℕ) → b < m → part s' (b * 16) 16 ≡ block f (tweak_at b t) (part s (b * 16) 16)) → s' ≡ blocks f m t s
  unfolding blocks part tweak_at
  from-blocks zero t s [] l e = refl
  from-blocks zero t s (x ∷ s') l e = absurd (omega arith)
  from-blocks (suc m) t s s' l e =
      let n : (b : ℕ) (y : List ℕ) → take 16 (drop (b * 16) (drop 16 y)) ≡ take 16 (drop (suc b * 16) y) =
      λ b y. ap (take 16) (drop-drop (b * 16) 16 y ∙ ap (λ (k : ℕ). drop k y) (let z : 16 + b * 16 ≡ suc b * 16 = omega arith in z)) in
      sym (take-append-drop 16 s')
      ∙ ap₂ ◌++◌ (e 0 (omega arith))
      (from-blocks m (double t) (drop 16 s) (drop 16 s') (length-drop 16 s' ∙ omega arith)
      (λ b h. n b s' ∙ e (suc b) (omega arith) ∙ ap₂ (λ (x y : List ℕ). block f x y) (sym (tweak_double b t)) (sym (n b s))))

  -- u has the tweaks, x what is loaded, y what the cipher made of it, s' what is stored
  pub group : (m : ℕ) (t s s' u x y : List ℕ) → m ≤ 32 → length s' ≡ m * 16 → ((b : ℕ) → b < 32 → planes.block b u ≡ tweak_at b t)
      → ((b : ℕ) → b < m → planes.block b x ≡ xors (part s (b * 16) 16) (planes.block b u)) → ((b : ℕ) → b < 32 → planes.block b y ≡ f (planes.block b x))
      → ((b : ℕ) → b < m → part s' (b * 16) 16 ≡ xors (planes.block b y) (planes.block b u)) → s' ≡ blocks f m t s
  unfolding block
  group m t s s' u x y hm l eu ex ey es =
      from-blocks m t s s' l (λ b h.
      let k : b < 32 = omega arith in
      es b h ∙ ap₂ xors (ey b k ∙ ap f (ex b h ∙ ap (xors (part s (b * 16) 16)) (eu b k))) (eu b k))

-- ---- the first tweaks of data units

-- that of unit u, which is block b of t
first-at : (n k b u : ℕ) (vs t v : List ℕ) → Firsts n vs k t → Sliced (n + 2) v vs → b < 32 → k + b ≡ u → u < 2 ^ 64 → planes.block b t ≡ cipher n v (unit_block u)
unfolding Firsts
first-at n k b u vs t v f s h e l = f v s b h ∙ ap (λ (m : ℕ). cipher n v (unit_block m)) (ap (λ (m : ℕ). m % 2 ^ 64) e ∙ mod-eq_of_lt l)

-- the blocks of s under the tweak x of unit u, which is block b of t
pub unit_under : (forward : Bool) (n k b u : ℕ) (ks vs t x s' s : List ℕ) (f : ℕ → List ℕ → List ℕ)
    → Under forward n ks vs f → Firsts n vs k t → b < 32 → k + b ≡ u → u < 2 ^ 64
    → x ≡ planes.block b t → ((w : List ℕ) → Sliced (n + 2) w ks → s' ≡ blocks (cipher_of forward n w) (length s / 16) x s) → s' ≡ f u s
unfolding data_unit
unit_under forward n k b u ks vs t x s' s f g h hb e hu ex es =
    es g.blocks g.for_data
    ∙ ap (λ (y : List ℕ). blocks (cipher_of forward n g.blocks) (length s / 16) y s) (ex ∙ first-at n k b u vs t g.tweaks h g.for_tweak hb e hu)
    ∙ sym (ap (λ (i : ℕ → List ℕ → List ℕ). i u s) g.is)

-- ---- part i of a string s of N bytes, of D bytes or what is left: y is what became of it

module _ (f : ℕ → List ℕ → List ℕ) (u N i k : ℕ) (s y q : List ℕ) (ls : length s ≡ N) where
  abbrev part_put : ℕ → List ℕ
  part_put D = take (D * i) s ++ (y ++ drop (D * i + k - D * i) (drop (D * i) s))

  pub next_unit : 512 * i < N → k ≡ min 512 (N - 512 * i) → length y ≡ 512 * i + k - 512 * i → y ≡ f (u + i) (take (512 * i + k - 512 * i) (drop (512 * i) s))
      → take (min (512 * i) N) s ++ in_units f (u + i) (drop (min (512 * i) N) s) ≡ q
      → take (min (512 * (i + 1)) N) (part_put 512) ++ in_units f (u + (i + 1)) (drop (min (512 * (i + 1)) N) (part_put 512)) ≡ q
  next_unit h hk ly ey e =
      let a : min (512 * i) N ≡ 512 * i = omega arith in
      let b : min (512 * (i + 1)) N ≡ 512 * i + k = omega arith in
      let P : ℕ → List ℕ → ℕ → Type 0 = λ n x v. take n x ++ in_units f v (drop n x) ≡ q in
      subst (λ (n : ℕ). P n (part_put 512) (u + (i + 1))) (sym b)
      (unit_more (512 * i) k s y q (omega arith) ly f (u + i) (u + (i + 1)) (subst (λ (n : ℕ). P n s (u + i)) a e) (omega (arith, hk, ls)) (λ l. omega arith) ey)

  pub next_group : 16384 * i < N → k ≡ min 16384 (N - 16384 * i) → length y ≡ 16384 * i + k - 16384 * i
      → y ≡ in_units f (u + 32 * i) (take (16384 * i + k - 16384 * i) (drop (16384 * i) s))
      → take (min (16384 * i) N) s ++ in_units f (u + 32 * i) (drop (min (16384 * i) N) s) ≡ q
      → take (min (16384 * (i + 1)) N) (part_put 16384) ++ in_units f (u + 32 * (i + 1)) (drop (min (16384 * (i + 1)) N) (part_put 16384)) ≡ q
  next_group h hk ly ey e =
      let a : min (16384 * i) N ≡ 16384 * i = omega arith in
      let b : min (16384 * (i + 1)) N ≡ 16384 * i + k = omega arith in
      let P : ℕ → List ℕ → ℕ → Type 0 = λ n x v. take n x ++ in_units f v (drop n x) ≡ q in
      subst (λ (n : ℕ). P n (part_put 16384) (u + 32 * (i + 1))) (sym b)
      (group_more (16384 * i) k s y q (omega arith) ly f (u + 32 * i) (u + 32 * (i + 1)) (subst (λ (n : ℕ). P n s (u + 32 * i)) a e) (omega (arith, hk, ls)) (λ l. omega arith) ey)

pub no_part : (f : ℕ → List ℕ → List ℕ) (u v n : ℕ) (s : List ℕ) → n ≡ 0 → v ≡ u → take n s ++ in_units f v (drop n s) ≡ in_units f u s
no_part f u v n s en ev = rw (en, ev)
