-- From blocks to bit planes and back: where each bit of the transposed words comes from is one test, and the bytes follow.
use mathlib.Core.Path.{◌≡◌, refl, sym, ap, ap₂, ◌∙◌, subst}
use mathlib.Core.Bool.{Bool, true, false}
use mathlib.Core.List.{List, [], ◌∷◌, ◌++◌, map}
use Prim.Native.Nat.{ℕ, zero, suc, ◌+◌, ◌-◌, ◌*◌, ◌/◌, ◌%◌, ◌^◌, ◌<◌, ◌≤◌}
use native.Mathlib.Nat.{mod-lt, zero-lt-suc, mul_assoc, pow-suc}
use native.Mathlib.Omega.{arith}
use lib.Bits.{bit_xor, bit_and}
use lib.Dec.{T, eqb, eqb→eq, ltb, ltb→lt}
use lib.ListN.{length, get_or}
use lib.Pow.{pow-add, shr-shr, shl-shr, field, mod-mod-pow}
use borrow.Author.Tests.{ltb-false}
use Rattle.octets.proofs.TableLaws.{both, both_left, both_right, below, below_at}
use Rattle.octets.proofs.XorLaws.{digit}
use Rattle.bitslice.specs.Words.{lane, lane_byte}
use Rattle.bitslice.proofs.LanesLaws.{lane_xor, lane_and, lane-bit, lane_down, lane_up}
use Rattle.aes.specs.Planes.{column, block, cell, places, state, lane_of, Transposed, exchanged, Exchanged}
use Rattle.aes.proofs.ListLaws.{eights}
use Rattle.aes.proofs.PlaneLaws.{same-places}

-- ---- the bits of an exchange

and_one : (b : ℕ) → b < 2 → bit_and b 1 ≡ b
and_one = digit (λ b. bit_and b 1 ≡ b) refl refl

and-nil : (b : ℕ) → b < 2 → bit_and b 0 ≡ 0
and-nil = digit (λ b. bit_and b 0 ≡ 0) refl refl

xor-twice : (a b : ℕ) → a < 2 → b < 2 → bit_xor a (bit_xor a b) ≡ b
xor-twice a b ha hb = digit (λ a. bit_xor a (bit_xor a b) ≡ b) (digit (λ b. bit_xor 0 (bit_xor 0 b) ≡ b) refl refl b hb) (digit (λ b. bit_xor 1 (bit_xor 1 b) ≡ b) refl refl b hb) a ha

xor_over : (a b : ℕ) → a < 2 → b < 2 → bit_xor b (bit_xor a b) ≡ a
xor_over a b ha hb = digit (λ a. bit_xor b (bit_xor a b) ≡ a) (digit (λ b. bit_xor b (bit_xor 0 b) ≡ 0) refl refl b hb) (digit (λ b. bit_xor b (bit_xor 1 b) ≡ 1) refl refl b hb) a ha

xor-nil : (a : ℕ) → a < 2 → bit_xor a 0 ≡ a
xor-nil = digit (λ a. bit_xor a 0 ≡ a) refl refl

-- a shift up leaves zeros below
lane_under : (y s x : ℕ) → y < s → s ≤ 32 → lane y (x * 2 ^ s % 2 ^ 32) ≡ 0
unfolding lane
lane_under y s x h l =
    let t : ℕ = s - y - 1 in
    let e : suc t + y ≡ s = omega arith in
    let p : (31 - y) + 1 + y ≡ 32 = omega arith in
    let d : x * 2 ^ s ≡ x * 2 ^ suc t * 2 ^ y = ap (λ (n : ℕ). x * 2 ^ n) (sym e) ∙ ap (λ (n : ℕ). x * n) (pow-add 2 (suc t) y) ∙ sym (mul_assoc x (2 ^ suc t) (2 ^ y)) in
    let z : x * 2 ^ suc t ≡ x * 2 ^ t * 2 = ap (λ (n : ℕ). x * n) (pow-suc 2 t) ∙ sym (mul_assoc x (2 ^ t) 2) in
    ap (λ (n : ℕ). x * 2 ^ s % 2 ^ n / 2 ^ y % 2) (sym p)
    ∙ ap (λ (n : ℕ). n % 2) (field (x * 2 ^ s) ((31 - y) + 1) y)
    ∙ mod-mod-pow (x * 2 ^ s / 2 ^ y) (31 - y) 1
    ∙ ap (λ (n : ℕ). n % 2) (ap (λ (n : ℕ). n / 2 ^ y) d ∙ shl-shr (x * 2 ^ suc t) y ∙ z)
    ∙ omega arith

module _ (s m a b : ℕ) where
  -- the bits that change places
  diff : ℕ
  diff = bit_and (bit_xor (a / 2 ^ s) b) m

  diff-one : (y : ℕ) → lane y m ≡ 1 → lane y diff ≡ bit_xor (lane (s + y) a) (lane y b)
  unfolding diff
  diff-one y e =
      lane_and y (bit_xor (a / 2 ^ s) b) m ∙ ap (bit_and (lane y (bit_xor (a / 2 ^ s) b))) e ∙ and_one (lane y (bit_xor (a / 2 ^ s) b)) (lane-bit y (bit_xor (a / 2 ^ s) b))
      ∙ lane_xor y (a / 2 ^ s) b ∙ ap (λ (x : ℕ). bit_xor x (lane y b)) (lane_down y s a)

  diff-nil : (y : ℕ) → lane y m ≡ 0 → lane y diff ≡ 0
  unfolding diff
  diff-nil y e =
      lane_and y (bit_xor (a / 2 ^ s) b) m ∙ ap (bit_and (lane y (bit_xor (a / 2 ^ s) b))) e ∙ and-nil (lane y (bit_xor (a / 2 ^ s) b)) (lane-bit y (bit_xor (a / 2 ^ s) b))

  upper_is : (y : ℕ) → lane y (exchanged 0 s m a b) ≡ bit_xor (lane y a) (lane y (diff * 2 ^ s % 2 ^ 32))
  unfolding diff
  upper_is y = lane_xor y a (diff * 2 ^ s % 2 ^ 32)

  -- bit s + y of the first word is bit y of the second
  upper-new : (y : ℕ) → s + y < 32 → lane y m ≡ 1 → lane (s + y) (exchanged 0 s m a b) ≡ lane y b
  upper-new y h e =
      upper_is (s + y) ∙ ap (bit_xor (lane (s + y) a)) (lane_up y s diff h ∙ diff-one y e) ∙ xor-twice (lane (s + y) a) (lane y b) (lane-bit (s + y) a) (lane-bit y b)

  upper-old : (y : ℕ) → s + y < 32 → lane y m ≡ 0 → lane (s + y) (exchanged 0 s m a b) ≡ lane (s + y) a
  upper-old y h e =
      upper_is (s + y) ∙ ap (bit_xor (lane (s + y) a)) (lane_up y s diff h ∙ diff-nil y e) ∙ xor-nil (lane (s + y) a) (lane-bit (s + y) a)

  upper-low : (y : ℕ) → y < s → s ≤ 32 → lane y (exchanged 0 s m a b) ≡ lane y a
  upper-low y h l = upper_is y ∙ ap (bit_xor (lane y a)) (lane_under y s diff h l) ∙ xor-nil (lane y a) (lane-bit y a)

  -- bit y of the second word is bit s + y of the first
  lower-new : (y : ℕ) → lane y m ≡ 1 → lane y (exchanged 1 s m a b) ≡ lane (s + y) a
  unfolding diff
  lower-new y e = lane_xor y b diff ∙ ap (bit_xor (lane y b)) (diff-one y e) ∙ xor_over (lane (s + y) a) (lane y b) (lane-bit (s + y) a) (lane-bit y b)

  lower-old : (y : ℕ) → lane y m ≡ 0 → lane y (exchanged 1 s m a b) ≡ lane y b
  unfolding diff
  lower-old y e = lane_xor y b diff ∙ ap (bit_xor (lane y b)) (diff-nil y e) ∙ xor-nil (lane y b) (lane-bit y b)

-- ---- where a bit comes from: w tells which of the two words, and z which bit of it

abbrev pick : ℕ → ℕ → ℕ → ℕ
pick zero a b = a
pick (suc k) a b = b

abbrev either : Bool → Bool → Bool
either true b = true
either false b = b

abbrev comes : ℕ → ℕ → ℕ → ℕ → ℕ → ℕ → Bool
comes s m zero y zero z = both (eqb y z) (either (ltb y s) (eqb (lane (y - s) m) 0))
comes s m zero y (suc w) z = both (eqb y (s + z)) (eqb (lane z m) 1)
comes s m (suc k) y zero z = both (eqb z (s + y)) (eqb (lane y m) 1)
comes s m (suc k) y (suc w) z = both (eqb y z) (eqb (lane y m) 0)

comes-lane : (s m h y w z a b : ℕ) → y < 32 → s ≤ 32 → T (comes s m h y w z) → lane y (exchanged h s m a b) ≡ lane z (pick w a b)
comes-lane s m zero y zero z a b hy hs t = go (ltb y s) refl (both_right (eqb y z) (either (ltb y s) (eqb (lane (y - s) m) 0)) t)
  where
    same_bit : y ≡ z
    same_bit = eqb→eq y z (both_left (eqb y z) (either (ltb y s) (eqb (lane (y - s) m) 0)) t)

    go : (k : Bool) → ltb y s ≡ k → T (either k (eqb (lane (y - s) m) 0)) → lane y (exchanged 0 s m a b) ≡ lane z a
    go true e u = upper-low s m a b y (ltb→lt y s (subst T (sym e) tt)) hs ∙ ap (λ (k : ℕ). lane k a) same_bit
    go false e u =
        let l : s ≤ y = ltb-false y s e in
        let n : s + (y - s) ≡ y = omega arith in
        ap (λ (k : ℕ). lane k (exchanged 0 s m a b)) (sym n) ∙ upper-old s m a b (y - s) (omega arith) (eqb→eq (lane (y - s) m) 0 u)
        ∙ ap (λ (k : ℕ). lane k a) (n ∙ same_bit)
comes-lane s m zero y (suc w) z a b hy hs t =
    let e : y ≡ s + z = eqb→eq y (s + z) (both_left (eqb y (s + z)) (eqb (lane z m) 1) t) in
    ap (λ (k : ℕ). lane k (exchanged 0 s m a b)) e ∙ upper-new s m a b z (omega arith) (eqb→eq (lane z m) 1 (both_right (eqb y (s + z)) (eqb (lane z m) 1) t))
comes-lane s m (suc k) y zero z a b hy hs t =
    lower-new s m a b y (eqb→eq (lane y m) 1 (both_right (eqb z (s + y)) (eqb (lane y m) 1) t))
    ∙ ap (λ (n : ℕ). lane n a) (sym (eqb→eq z (s + y) (both_left (eqb z (s + y)) (eqb (lane y m) 1) t)))
comes-lane s m (suc k) y (suc w) z a b hy hs t =
    lower-old s m a b y (eqb→eq (lane y m) 0 (both_right (eqb y z) (eqb (lane y m) 0) t))
    ∙ ap (λ (n : ℕ). lane n b) (eqb→eq y z (both_left (eqb y z) (eqb (lane y m) 0) t))

-- ---- exchanges one after the other, the last one first

pub data Stage : Type 0 where
  stage : ℕ → ℕ → Stage

pub record Next (s m : ℕ) (P : List ℕ → Type 0) (r : List ℕ) : Type 0 where
  pub mid : List ℕ
  pub earlier : P mid
  pub last : Exchanged s m mid r

abbrev pub Chain : List Stage → List ℕ → List ℕ → Type 0
Chain [] q r = q ≡ r
Chain (stage s m ∷ ss) q r = Next s m (Chain ss q) r

-- the bit of its word that bit y of row x is before an exchange; the row is x / 2, or that and 16 more
abbrev bit_from : ℕ → ℕ → ℕ → ℕ
bit_from s x y = y - s * (y / s % 2) + s * (x % 2)

-- bit y of row x comes from bit z of row w
abbrev traced : List Stage → ℕ → ℕ → ℕ → ℕ → Bool
traced [] x y w z = both (eqb x w) (eqb y z)
traced (stage s m ∷ ss) x y w z =
    both (both (ltb x 32) (both (ltb y 32) (ltb s 32))) (both (comes s m (x % 2) y (y / s % 2) (bit_from s x y)) (traced ss (x / 2 + 16 * (y / s % 2)) (bit_from s x y) w z))

pick_word : (q : List ℕ) (k w : ℕ) → w < 2 → pick w (get_or q k 0) (get_or q (k + 64) 0) ≡ get_or q (k + 64 * w) 0
pick_word q k =
    digit (λ w. pick w (get_or q k 0) (get_or q (k + 64) 0) ≡ get_or q (k + 64 * w) 0) (let e : k ≡ k + 64 * 0 = omega arith in ap (λ (n : ℕ). get_or q n 0) e) refl

chain-lane : (ss : List Stage) (x y w z c : ℕ) (q r : List ℕ) → Chain ss q r → T (traced ss x y w z) → c < 4
    → lane y (get_or r (4 * x + c) 0) ≡ lane z (get_or q (4 * w + c) 0)
chain-lane [] x y w z c q r h t hc =
    ap (λ (l : List ℕ). lane y (get_or l (4 * x + c) 0)) (sym h)
    ∙ ap₂ (λ (m n : ℕ). lane n (get_or q (4 * m + c) 0)) (eqb→eq x w (both_left (eqb x w) (eqb y z) t)) (eqb→eq y z (both_right (eqb x w) (eqb y z) t))
chain-lane (stage s m ∷ ss) x y w z c q r h t hc =
    let k : ℕ = y / s % 2 in
    let b : ℕ = bit_from s x y in
    let small : Bool = both (ltb x 32) (both (ltb y 32) (ltb s 32)) in
    let rest : Bool = both (comes s m (x % 2) y k b) (traced ss (x / 2 + 16 * k) b w z) in
    let t₁ : T small = both_left small rest t in
    let t₂ : T rest = both_right small rest t in
    let hx : x < 32 = ltb→lt x 32 (both_left (ltb x 32) (both (ltb y 32) (ltb s 32)) t₁) in
    let t₃ : T (both (ltb y 32) (ltb s 32)) = both_right (ltb x 32) (both (ltb y 32) (ltb s 32)) t₁ in
    let hy : y < 32 = ltb→lt y 32 (both_left (ltb y 32) (ltb s 32) t₃) in
    let hs : s < 32 = ltb→lt s 32 (both_right (ltb y 32) (ltb s 32) t₃) in
    let v : ℕ = 4 * x + c in
    let n₁ : v / 4 % 2 ≡ x % 2 = omega arith in
    let n₂ : 4 * (v / 8) + v % 4 ≡ 4 * (x / 2) + c = omega arith in
    let n₃ : 4 * (x / 2) + c + 64 * k ≡ 4 * (x / 2 + 16 * k) + c = omega arith in
    let a : ℕ = get_or h.mid (4 * (x / 2) + c) 0 in
    let d : ℕ = get_or h.mid (4 * (x / 2) + c + 64) 0 in
    ap (lane y) (h.last v (omega arith) ∙ ap₂ (λ (i j : ℕ). exchanged i s m (get_or h.mid j 0) (get_or h.mid (j + 64) 0)) n₁ n₂)
    ∙ comes-lane s m (x % 2) y k b a d hy (omega arith) (both_left (comes s m (x % 2) y k b) (traced ss (x / 2 + 16 * k) b w z) t₂)
    ∙ ap (lane b) (pick_word h.mid (4 * (x / 2) + c) k (mod-lt (y / s) (zero-lt-suc 1)) ∙ ap (λ (i : ℕ). get_or h.mid i 0) n₃)
    ∙ chain-lane ss (x / 2 + 16 * k) b w z c q h.mid h.earlier (both_right (comes s m (x % 2) y k b) (traced ss (x / 2 + 16 * k) b w z) t₂) hc

-- ---- the transposition

abbrev pub stages : List Stage
stages = stage 8 16711935 ∷ stage 16 65535 ∷ stage 1 1431655765 ∷ stage 2 858993459 ∷ stage 4 252645135 ∷ []

all_traced : T (below (λ x. below (λ y. traced stages x y (4 * (y % 8) + y / 8) (8 * (x % 4) + x / 4)) 32) 32)
unfolding lane
all_traced = tt

module _ (q r : List ℕ) (h : Chain stages q r) where
  bit-from : (x y c : ℕ) → x < 32 → y < 32 → c < 4 → lane y (get_or r (4 * x + c) 0) ≡ lane (8 * (x % 4) + x / 4) (get_or q (4 * (4 * (y % 8) + y / 8) + c) 0)
  bit-from x y c hx hy hc =
      chain-lane stages x y (4 * (y % 8) + y / 8) (8 * (x % 4) + x / 4) c q r h
      (below_at (λ y. traced stages x y (4 * (y % 8) + y / 8) (8 * (x % 4) + x / 4)) 32
      (below_at (λ x. below (λ y. traced stages x y (4 * (y % 8) + y / 8) (8 * (x % 4) + x / 4)) 32) 32 all_traced x hx) y hy) hc

-- ---- the bytes

low_bits : (y : ℕ) → lane 0 y + 2 * (lane 1 y + 2 * (lane 2 y + 2 * (lane 3 y + 2 * (lane 4 y + 2 * (lane 5 y + 2 * (lane 6 y + 2 * (lane 7 y + 2 * 0))))))) ≡ y % 256
unfolding lane
low_bits y =
    let b : ℕ → ℕ = λ k. y / 2 ^ k % 2 in
    let h : (k : ℕ) → y / 2 ^ k / 2 ≡ y / 2 ^ (k + 1) = λ k. shr-shr y k 1 in
    let g2 : (u : ℕ) → u % 2 + 2 * (u / 2 % 2) ≡ u % 4 = λ u. omega arith in
    let g4 : (u : ℕ) → u % 2 + 2 * (u / 2 % 4) ≡ u % 8 = λ u. omega arith in
    let g8 : (u : ℕ) → u % 2 + 2 * (u / 2 % 8) ≡ u % 16 = λ u. omega arith in
    let g16 : (u : ℕ) → u % 2 + 2 * (u / 2 % 16) ≡ u % 32 = λ u. omega arith in
    let g32 : (u : ℕ) → u % 2 + 2 * (u / 2 % 32) ≡ u % 64 = λ u. omega arith in
    let g64 : (u : ℕ) → u % 2 + 2 * (u / 2 % 64) ≡ u % 128 = λ u. omega arith in
    let g128 : (u : ℕ) → u % 2 + 2 * (u / 2 % 128) ≡ u % 256 = λ u. omega arith in
    let e7 : b 7 + 2 * 0 ≡ b 7 = omega arith in
    let e6 : b 6 + 2 * (b 7 + 2 * 0) ≡ y / 2 ^ 6 % 4 = ap (λ (n : ℕ). b 6 + 2 * n) (e7 ∙ ap (λ (x : ℕ). x % 2) (sym (h 6))) ∙ g2 (y / 2 ^ 6) in
    let e5 : b 5 + 2 * (b 6 + 2 * (b 7 + 2 * 0)) ≡ y / 2 ^ 5 % 8 = ap (λ (n : ℕ). b 5 + 2 * n) (e6 ∙ ap (λ (x : ℕ). x % 4) (sym (h 5))) ∙ g4 (y / 2 ^ 5) in
    let e4 : b 4 + 2 * (b 5 + 2 * (b 6 + 2 * (b 7 + 2 * 0))) ≡ y / 2 ^ 4 % 16 = ap (λ (n : ℕ). b 4 + 2 * n) (e5 ∙ ap (λ (x : ℕ). x % 8) (sym (h 4))) ∙ g8 (y / 2 ^ 4) in
    let e3 : b 3 + 2 * (b 4 + 2 * (b 5 + 2 * (b 6 + 2 * (b 7 + 2 * 0)))) ≡ y / 2 ^ 3 % 32 = ap (λ (n : ℕ). b 3 + 2 * n) (e4 ∙ ap (λ (x : ℕ). x % 16) (sym (h 3))) ∙ g16 (y / 2 ^ 3) in
    let e2 : b 2 + 2 * (b 3 + 2 * (b 4 + 2 * (b 5 + 2 * (b 6 + 2 * (b 7 + 2 * 0))))) ≡ y / 2 ^ 2 % 64 = ap (λ (n : ℕ). b 2 + 2 * n) (e3 ∙ ap (λ (x : ℕ). x % 32) (sym (h 2)))
    ∙ g32 (y / 2 ^ 2) in
    let e1 : b 1 + 2 * (b 2 + 2 * (b 3 + 2 * (b 4 + 2 * (b 5 + 2 * (b 6 + 2 * (b 7 + 2 * 0)))))) ≡ y / 2 ^ 1 % 128 =
    ap (λ (n : ℕ). b 1 + 2 * n) (e2 ∙ ap (λ (x : ℕ). x % 64) (sym (h 1))) ∙ g64 (y / 2 ^ 1) in
    let e0 : b 0 + 2 * (b 1 + 2 * (b 2 + 2 * (b 3 + 2 * (b 4 + 2 * (b 5 + 2 * (b 6 + 2 * (b 7 + 2 * 0))))))) ≡ y / 2 ^ 0 % 256 =
    ap (λ (n : ℕ). b 0 + 2 * n) (e1 ∙ ap (λ (x : ℕ). x % 128) (sym (h 0))) ∙ g128 (y / 2 ^ 0) in
    let z : y / 2 ^ 0 ≡ y = omega arith in
    e0 ∙ ap (λ (x : ℕ). x % 256) z

byte_of_lanes : (j k x : ℕ) (q : List ℕ) → length q ≡ 8 → ((i : ℕ) → i < 8 → lane j (get_or q i 0) ≡ lane (8 * k + i) x) → lane_byte j q ≡ x / 2 ^ (8 * k) % 256
unfolding lane_byte
byte_of_lanes j k x q e =
    eights (λ q. ((i : ℕ) → i < 8 → lane j (get_or q i 0) ≡ lane (8 * k + i) x) → lane_byte j q ≡ x / 2 ^ (8 * k) % 256)
    (λ a b c d e f g h z.
    let u : (i : ℕ) → i < 8 → lane j (get_or (a ∷ b ∷ c ∷ d ∷ e ∷ f ∷ g ∷ h ∷ []) i 0) ≡ lane i (x / 2 ^ (8 * k)) = λ i l. z i l ∙ sym (lane_down i (8 * k) x) in
    ap₂ (λ (m n : ℕ). m + 2 * n) (u 0 (omega arith)) (ap₂ (λ (m n : ℕ). m + 2 * n) (u 1 (omega arith)) (ap₂ (λ (m n : ℕ). m + 2 * n) (u 2 (omega arith))
    (ap₂ (λ (m n : ℕ). m + 2 * n) (u 3 (omega arith)) (ap₂ (λ (m n : ℕ). m + 2 * n) (u 4 (omega arith)) (ap₂ (λ (m n : ℕ). m + 2 * n) (u 5 (omega arith))
    (ap₂ (λ (m n : ℕ). m + 2 * n) (u 6 (omega arith)) (ap (λ (m : ℕ). m + 2 * 0) (u 7 (omega arith)))))))))
    ∙ low_bits (x / 2 ^ (8 * k))) q e

-- the words of a cell, by number
cell_at : (p i : ℕ) (q : List ℕ) → i < 8 → get_or (cell p q) i 0 ≡ get_or q (16 * i + p) 0
cell_at p zero q h = let e : p ≡ 16 * 0 + p = omega arith in ap (λ (n : ℕ). get_or q n 0) e
cell_at p (suc zero) q h = let e : p + 16 ≡ 16 * 1 + p = omega arith in ap (λ (n : ℕ). get_or q n 0) e
cell_at p (suc (suc zero)) q h = let e : p + 32 ≡ 16 * 2 + p = omega arith in ap (λ (n : ℕ). get_or q n 0) e
cell_at p (suc (suc (suc zero))) q h = let e : p + 48 ≡ 16 * 3 + p = omega arith in ap (λ (n : ℕ). get_or q n 0) e
cell_at p (suc (suc (suc (suc zero)))) q h = let e : p + 64 ≡ 16 * 4 + p = omega arith in ap (λ (n : ℕ). get_or q n 0) e
cell_at p (suc (suc (suc (suc (suc zero))))) q h = let e : p + 80 ≡ 16 * 5 + p = omega arith in ap (λ (n : ℕ). get_or q n 0) e
cell_at p (suc (suc (suc (suc (suc (suc zero)))))) q h = let e : p + 96 ≡ 16 * 6 + p = omega arith in ap (λ (n : ℕ). get_or q n 0) e
cell_at p (suc (suc (suc (suc (suc (suc (suc zero))))))) q h = let e : p + 112 ≡ 16 * 7 + p = omega arith in ap (λ (n : ℕ). get_or q n 0) e
cell_at p (suc (suc (suc (suc (suc (suc (suc (suc i)))))))) q h = absurd (omega arith)

-- a block, byte by byte
abbrev byte_of : List ℕ → ℕ → ℕ → ℕ
byte_of q b p = get_or q (4 * b + p % 4) 0 / 2 ^ (8 * (p / 4)) % 256

abbrev column' : ℕ → List ℕ
column' x = x % 256 ∷ x / 256 % 256 ∷ x / 256 / 256 % 256 ∷ x / 256 / 256 / 256 % 256 ∷ []

block_is : (q : List ℕ) (b : ℕ) → map (byte_of q b) places ≡ block b q
unfolding block column
block_is q b = ap₂ ◌++◌ (first (4 * b + 0) ∙ ap (λ (n : ℕ). column' (get_or q n 0)) z) (ap₂ ◌++◌ (first (4 * b + 1)) (ap₂ ◌++◌ (first (4 * b + 2)) (first (4 * b + 3))))
  where
    z : 4 * b + 0 ≡ 4 * b
    z = omega arith

    first : (n : ℕ) → get_or q n 0 / 2 ^ 0 % 256 ∷ get_or q n 0 / 2 ^ 8 % 256 ∷ get_or q n 0 / 2 ^ 16 % 256 ∷ get_or q n 0 / 2 ^ 24 % 256 ∷ [] ≡ column' (get_or q n 0)
    first n =
        let x : ℕ = get_or q n 0 in
        let e₀ : x / 2 ^ 0 ≡ x = omega arith in
        let e₂ : x / 2 ^ 16 ≡ x / 256 / 256 = sym (shr-shr x 8 8) in
        let e₃ : x / 2 ^ 24 ≡ x / 256 / 256 / 256 = sym (ap (λ (n : ℕ). n / 256) (shr-shr x 8 8) ∙ shr-shr x 16 8) in
        ap₂ ◌∷◌ (ap (λ (m : ℕ). m % 256) e₀) (ap₂ ◌∷◌ refl (ap₂ ◌∷◌ (ap (λ (m : ℕ). m % 256) e₂) (ap₂ ◌∷◌ (ap (λ (m : ℕ). m % 256) e₃) refl)))

pub transposed : (q r : List ℕ) → Chain stages q r → Transposed q r
unfolding state
transposed q r h = record {
  to_lanes = λ b hb.
      same-places (λ p. lane_byte (lane_of b) (cell p r)) (byte_of q b)
      (λ p hp. byte_of_lanes (lane_of b) (p / 4) (get_or q (4 * b + p % 4) 0) (cell p r) refl
      (λ i hi.
      let e : 16 * i + p ≡ 4 * (4 * i + p / 4) + p % 4 = omega arith in
      let f : 8 * ((4 * i + p / 4) % 4) + (4 * i + p / 4) / 4 ≡ 8 * (p / 4) + i = omega arith in
      let g : 4 * (4 * (lane_of b % 8) + lane_of b / 8) + p % 4 ≡ 4 * b + p % 4 = omega arith in
      ap (lane (lane_of b)) (cell_at p i r hi ∙ ap (λ (n : ℕ). get_or r n 0) e) ∙ bit-from q r h (4 * i + p / 4) (lane_of b) (p % 4) (omega arith) (omega arith) (omega arith)
      ∙ ap₂ (λ (m n : ℕ). lane m (get_or q n 0)) f g))
      ∙ block_is q b;
  to_blocks = λ b hb.
      sym (block_is r b)
      ∙ sym (same-places (λ p. lane_byte (lane_of b) (cell p q)) (byte_of r b)
      (λ p hp. byte_of_lanes (lane_of b) (p / 4) (get_or r (4 * b + p % 4) 0) (cell p q) refl
      (λ i hi.
      let e : 16 * i + p ≡ 4 * (4 * ((8 * (p / 4) + i) % 8) + (8 * (p / 4) + i) / 8) + p % 4 = omega arith in
      ap (lane (lane_of b)) (cell_at p i q hi ∙ ap (λ (n : ℕ). get_or q n 0) e)
      ∙ sym (bit-from q r h b (8 * (p / 4) + i) (p % 4) hb (omega arith) (omega arith)))));
}
