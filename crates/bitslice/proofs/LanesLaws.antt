-- The circuit at words is the S-box of FIPS 197 at the byte in each bit position: the circuit commutes with taking a bit, and at words of 256 bits
-- that have each byte once, one run of it is tested at all 256. The same for the inverse.
use mathlib.Core.Path.{◌≡◌, refl, sym, ap, ap₂, ◌∙◌, subst}
use mathlib.Core.Bool.{Bool, true, false}
use mathlib.Core.List.{List, [], ◌∷◌, ◌++◌, map}
use Prim.Native.Nat.{ℕ, zero, suc, ◌+◌, ◌-◌, ◌*◌, ◌/◌, ◌%◌, ◌^◌, ◌<◌}
use native.Mathlib.Omega.{arith}
use native.Mathlib.Nat.{mod-lt, zero-lt-suc, zero-div, pow-suc}
use lib.Dec.{T, eqb, eqb→eq}
use lib.Pow.{shr-shr, shl-shr, field, mod-mod-pow}
use lib.Bits.{bit_xor, bit_and, xor_shr, xor_mod, and_shr, and_mod, xor_block}
use lib.ListN.{length, get_or, get_or-map}
use Rattle.octets.specs.Octets.{◌⊕◌}
use Rattle.octets.proofs.XorLaws.{digit}
use Rattle.octets.proofs.TableLaws.{both, both_left, both_right, same-below}
use Rattle.gf256.specs.Field.{xtime, bit, of_bits, affine, inv_affine, sub, inv_sub}
use Rattle.gf256.proofs.InverseLaws.{inverses}
use Rattle.gf256.proofs.SboxLaws.{sub_listed, inv_sub_listed, sub_is, inv_sub-is}
use Rattle.bitslice.specs.Circuit.{Gate, xor, and, gate, run, pick, reads, Part, through, constant_of, sbox_of, inv_sbox_of, middle_of}
use Rattle.bitslice.specs.Circuit.{first_inputs, first_inputs_of, second_inputs, second_inputs_of, norm, norm_of, inversion, inversion_of, products, products_of, outputs, outputs_of}
use Rattle.bitslice.specs.Circuit.{inv_first_inputs, inv_first_inputs_of, inv_second_inputs, inv_second_inputs_of, inv_outputs, inv_outputs_of}
use Rattle.bitslice.specs.Words.{ones, lane, value, lane_byte, xor_words, doubled_words}

pub lane_xor : (j a b : ℕ) → lane j (bit_xor a b) ≡ bit_xor (lane j a) (lane j b)
unfolding lane
lane_xor j a b = ap (λ (x : ℕ). x % 2) (xor_shr a b j) ∙ xor_mod (a / 2 ^ j) (b / 2 ^ j) 1

pub lane_and : (j a b : ℕ) → lane j (bit_and a b) ≡ bit_and (lane j a) (lane j b)
unfolding lane
lane_and j a b = ap (λ (x : ℕ). x % 2) (and_shr a b j) ∙ and_mod (a / 2 ^ j) (b / 2 ^ j) 1

lane-zero : (j : ℕ) → lane j 0 ≡ 0
unfolding lane
lane-zero j = ap (λ (x : ℕ). x % 2) (zero-div (2 ^ j))

pub lane-bit : (j w : ℕ) → lane j w < 2
unfolding lane
lane-bit j w = mod-lt (w / 2 ^ j) (zero-lt-suc 1)

map-++ : (f : ℕ → ℕ) (s t : List ℕ) → map f (s ++ t) ≡ map f s ++ map f t
map-++ f [] t = refl
map-++ f (x ∷ s) t = ap (λ (r : List ℕ). f x ∷ r) (map-++ f s t)

-- the circuit at one lane
module _ (j : ℕ) where
  at : (e : List ℕ) (i : ℕ) → lane j (get_or e i 0) ≡ get_or (map (lane j) e) i 0
  at e i = sym (ap (get_or (map (lane j) e) i) (sym (lane-zero j)) ∙ get_or-map (lane j) e i 0)

  at-gate : (g : Gate) (e : List ℕ) → lane j (gate g e) ≡ gate g (map (lane j) e)
  at-gate (xor a b) e = lane_xor j (get_or e a 0) (get_or e b 0) ∙ ap₂ bit_xor (at e a) (at e b)
  at-gate (and a b) e = lane_and j (get_or e a 0) (get_or e b 0) ∙ ap₂ bit_and (at e a) (at e b)

  at-run : (gs : List Gate) (e : List ℕ) → map (lane j) (run gs e) ≡ run gs (map (lane j) e)
  at-run [] e = refl
  at-run (g ∷ gs) e =
      at-run gs (e ++ (gate g e ∷ []))
      ∙ ap (run gs) (map-++ (lane j) e (gate g e ∷ []) ∙ ap (λ (x : ℕ). map (lane j) e ++ (x ∷ [])) (at-gate g e))

  at-pick : (p e : List ℕ) → map (lane j) (pick p e) ≡ pick p (map (lane j) e)
  at-pick [] e = refl
  at-pick (i ∷ p) e = ap₂ ◌∷◌ (at e i) (at-pick p e)

  at_reads : (i n : ℕ) (l : List ℕ) → map (lane j) (reads i n l) ≡ reads i n (map (lane j) l)
  at_reads i zero l = refl
  at_reads i (suc n) l = ap₂ ◌∷◌ (at l i) (at_reads (suc i) n l)

  -- a part commutes with taking a bit of the wires that enter it; they come from one, two or three groups
  through-lane : (p : Part) (e e' : List ℕ) → map (lane j) e ≡ e' → map (lane j) (through p e) ≡ through p e'
  through-lane p e e' h = at-pick p.places (run p.gates e) ∙ ap (pick p.places) (at-run p.gates e ∙ ap (run p.gates) h)

  reads-lane : (n : ℕ) (q q' : List ℕ) → map (lane j) q ≡ q' → map (lane j) (reads 0 n q) ≡ reads 0 n q'
  reads-lane n q q' h = at_reads 0 n q ∙ ap (reads 0 n) h

  two-lane : (n m : ℕ) (a a' b b' : List ℕ) → map (lane j) a ≡ a' → map (lane j) b ≡ b'
      → map (lane j) (reads 0 n a ++ reads 0 m b) ≡ reads 0 n a' ++ reads 0 m b'
  two-lane n m a a' b b' h k = map-++ (lane j) (reads 0 n a) (reads 0 m b) ∙ ap₂ ◌++◌ (reads-lane n a a' h) (reads-lane m b b' k)

  first_lane : (q q' : List ℕ) → map (lane j) q ≡ q' → map (lane j) (first_inputs_of q) ≡ first_inputs_of q'
  unfolding first_inputs_of
  first_lane q q' h = through-lane first_inputs _ _ (reads-lane 8 q q' h)

  second_lane : (q q' a a' : List ℕ) → map (lane j) q ≡ q' → map (lane j) a ≡ a' → map (lane j) (second_inputs_of q a) ≡ second_inputs_of q' a'
  unfolding second_inputs_of
  second_lane q q' a a' h k = through-lane second_inputs _ _ (two-lane 8 10 q q' a a' h k)

  norm-lane : (a a' b b' : List ℕ) → map (lane j) a ≡ a' → map (lane j) b ≡ b' → map (lane j) (norm_of a b) ≡ norm_of a' b'
  unfolding norm_of
  norm-lane a a' b b' h k = through-lane norm _ _ (two-lane 10 12 a a' b b' h k)

  inversion-lane : (t t' : List ℕ) → map (lane j) t ≡ t' → map (lane j) (inversion_of t) ≡ inversion_of t'
  unfolding inversion_of
  inversion-lane t t' h = through-lane inversion _ _ (reads-lane 4 t t' h)

  products-lane : (a a' b b' u u' : List ℕ) → map (lane j) a ≡ a' → map (lane j) b ≡ b' → map (lane j) u ≡ u'
      → map (lane j) (products_of a b u) ≡ products_of a' b' u'
  unfolding products_of
  products-lane a a' b b' u u' h k l =
      through-lane products _ _
      (map-++ (lane j) (reads 0 10 a ++ reads 0 12 b) (reads 0 4 u) ∙ ap₂ ◌++◌ (two-lane 10 12 a a' b b' h k) (reads-lane 4 u u' l))

  middle_lane : (a a' b b' : List ℕ) → map (lane j) a ≡ a' → map (lane j) b ≡ b' → map (lane j) (middle_of a b) ≡ middle_of a' b'
  middle_lane a a' b b' h k = products-lane a a' b b' _ _ h k (inversion-lane _ _ (norm-lane a a' b b' h k))

  outputs-lane : (z z' : List ℕ) → map (lane j) z ≡ z' → map (lane j) (outputs_of z) ≡ outputs_of z'
  unfolding outputs_of
  outputs-lane z z' h = through-lane outputs _ _ (reads-lane 18 z z' h)

  inv_first-lane : (q q' : List ℕ) → map (lane j) q ≡ q' → map (lane j) (inv_first_inputs_of q) ≡ inv_first_inputs_of q'
  unfolding inv_first_inputs_of
  inv_first-lane q q' h = through-lane inv_first_inputs _ _ (reads-lane 8 q q' h)

  inv_second_lane : (q q' a a' : List ℕ) → map (lane j) q ≡ q' → map (lane j) a ≡ a' → map (lane j) (inv_second_inputs_of q a) ≡ inv_second_inputs_of q' a'
  unfolding inv_second_inputs_of
  inv_second_lane q q' a a' h k = through-lane inv_second_inputs _ _ (two-lane 8 10 q q' a a' h k)

  inv_outputs-lane : (z z' : List ℕ) → map (lane j) z ≡ z' → map (lane j) (inv_outputs_of z) ≡ inv_outputs_of z'
  unfolding inv_outputs_of
  inv_outputs-lane z z' h = through-lane inv_outputs _ _ (reads-lane 18 z z' h)

  constant_lane : (one : ℕ) (q : List ℕ) → map (lane j) (constant_of one q) ≡ constant_of (lane j one) (map (lane j) q)
  unfolding constant_of
  constant_lane one q =
      let s : (i : ℕ) → lane j (bit_xor (get_or q i 0) one) ≡ bit_xor (get_or (map (lane j) q) i 0) (lane j one) =
      λ i. lane_xor j (get_or q i 0) one ∙ ap (λ (x : ℕ). bit_xor x (lane j one)) (at q i) in
      ap₂ ◌∷◌ (s 0) (ap₂ ◌∷◌ (s 1) (ap₂ ◌∷◌ (at q 2) (ap₂ ◌∷◌ (at q 3) (ap₂ ◌∷◌ (at q 4) (ap₂ ◌∷◌ (s 5) (ap₂ ◌∷◌ (s 6) (ap₂ ◌∷◌ (at q 7) refl)))))))

  sbox_lane : (one : ℕ) (q : List ℕ) → map (lane j) (sbox_of one q) ≡ sbox_of (lane j one) (map (lane j) q)
  unfolding sbox_of
  sbox_lane one q =
      constant_lane one _
      ∙ ap (constant_of (lane j one)) (outputs-lane _ _ (middle_lane _ _ _ _ (first_lane q _ refl) (second_lane q _ _ _ refl (first_lane q _ refl))))

  inv_sbox_lane : (one : ℕ) (q : List ℕ) → map (lane j) (inv_sbox_of one q) ≡ inv_sbox_of (lane j one) (map (lane j) q)
  unfolding inv_sbox_of
  inv_sbox_lane one q =
      let c = constant_lane one q in
      inv_outputs-lane _ _ (middle_lane _ _ _ _ (inv_first-lane _ _ c) (inv_second_lane _ _ _ _ c (inv_first-lane _ _ c)))

-- ---- tests at each of the 256 lists of eight bits
abbrev all_bits : ℕ → (List ℕ → Bool) → Bool
all_bits zero f = f []
all_bits (suc n) f = both (all_bits n (λ l. f (0 ∷ l))) (all_bits n (λ l. f (1 ∷ l)))

all_bits-at : (f : List ℕ → Bool) (j : ℕ) (q : List ℕ) → T (all_bits (length q) f) → T (f (map (lane j) q))
all_bits-at f j [] t = t
all_bits-at f j (w ∷ q) t =
    digit (λ x. T (f (x ∷ map (lane j) q))) (all_bits-at (λ l. f (0 ∷ l)) j q (both_left (all_bits (length q) (λ l. f (0 ∷ l))) (all_bits (length q) (λ l. f (1 ∷ l))) t))
    (all_bits-at (λ l. f (1 ∷ l)) j q (both_right (all_bits (length q) (λ l. f (0 ∷ l))) (all_bits (length q) (λ l. f (1 ∷ l))) t)) (lane j w) (lane-bit j w)

-- two lists are equal, by one test
abbrev alike : List ℕ → List ℕ → Bool
alike [] [] = true
alike [] (y ∷ ys) = false
alike (x ∷ xs) [] = false
alike (x ∷ xs) (y ∷ ys) = both (eqb x y) (alike xs ys)

alike→eq : (xs ys : List ℕ) → T (alike xs ys) → xs ≡ ys
alike→eq [] [] t = refl
alike→eq [] (y ∷ ys) t = absurd t
alike→eq (x ∷ xs) [] t = absurd t
alike→eq (x ∷ xs) (y ∷ ys) t = ap₂ ◌∷◌ (eqb→eq x y (both_left (eqb x y) (alike xs ys) t)) (alike→eq xs ys (both_right (eqb x y) (alike xs ys) t))

-- a 1 in each of 256 bits
wide : ℕ
wide = 2 ^ 256 - 1

-- eight words of 256 bits that have each byte once: bit b of word i is bit i of b
column : ℕ → ℕ
column i = wide / (2 ^ (2 ^ i) + 1) * 2 ^ (2 ^ i)

columns : List ℕ
columns = column 0 ∷ column 1 ∷ column 2 ∷ column 3 ∷ column 4 ∷ column 5 ∷ column 6 ∷ column 7 ∷ []

-- the bits l are those of columns and of wide at the number of l
placed : List ℕ → Bool
placed l = both (eqb (lane (value l) wide) 1) (alike (map (lane (value l)) columns) l)

all_placed : T (all_bits 8 placed)
unfolding placed columns column wide lane
all_placed = tt

-- the words s have the values of f, in bit b that of f b: tested at the bits l of b
right : (ℕ → ℕ) → List ℕ → List ℕ → Bool
right f s l = eqb (value (map (lane (value l)) s)) (f (value l))

tested : T (all_bits 8 (right sub_listed (sbox_of wide columns)))
unfolding right columns column wide lane sbox_of first_inputs first_inputs_of second_inputs second_inputs_of norm norm_of inversion inversion_of products products_of constant_of outputs outputs_of
    inverses bit of_bits affine
tested = tt

inv_tested : T (all_bits 8 (right inv_sub_listed (inv_sbox_of wide columns)))
unfolding right columns column wide lane inv_sbox_of inv_first_inputs inv_first_inputs_of inv_second_inputs inv_second_inputs_of norm norm_of inversion inversion_of products products_of constant_of
    inv_outputs inv_outputs_of inverses bit of_bits inv_affine
inv_tested = tt

all_ones : (j : ℕ) → j < 32 → lane j ones ≡ 1
unfolding lane
all_ones = same-below (λ j. lane j ones) (λ j. 1) 32 tt

value-lt : (j n : ℕ) (q : List ℕ) → length q ≡ n → value (map (lane j) q) < 2 ^ n
value-lt j zero [] e = omega arith
value-lt j zero (w ∷ q) e = absurd (omega arith)
value-lt j (suc n) [] e = absurd (omega arith)
value-lt j (suc n) (w ∷ q) e =
    let h : value (map (lane j) q) < 2 ^ n = value-lt j n q (omega arith) in
    omega (arith, lane-bit j w, pow-suc 2 n)

-- a circuit that commutes with taking a bit, and that has the values of f at columns, takes each lane's byte to f of it
module _ (circuit : ℕ → List ℕ → List ℕ) (commutes : (j one : ℕ) (q : List ℕ) → map (lane j) (circuit one q) ≡ circuit (lane j one) (map (lane j) q)) where
  at_bits : (l : List ℕ) → T (placed l) → circuit 1 l ≡ map (lane (value l)) (circuit wide columns)
  unfolding placed
  at_bits l t =
      let b = value l in
      let p = eqb (lane b wide) 1 in
      let q = alike (map (lane b) columns) l in
      sym (commutes b wide columns ∙ ap₂ circuit (eqb→eq (lane b wide) 1 (both_left p q t)) (alike→eq (map (lane b) columns) l (both_right p q t)))

  byte-is : (f : ℕ → ℕ) → T (all_bits 8 (right f (circuit wide columns))) → (j : ℕ) (q : List ℕ) → j < 32 → length q ≡ 8 → lane_byte j (circuit ones q) ≡ f (lane_byte j q)
  unfolding lane_byte right
  byte-is f t j q hj e =
      let l = map (lane j) q in
      let s = circuit wide columns in
      let p = all_bits-at placed j q (subst (λ (n : ℕ). T (all_bits n placed)) (sym e) all_placed) in
      let r = all_bits-at (right f s) j q (subst (λ (n : ℕ). T (all_bits n (right f s))) (sym e) t) in
      ap value (commutes j ones q ∙ ap (λ (x : ℕ). circuit x l) (all_ones j hj) ∙ at_bits l p) ∙ eqb→eq (value (map (lane (value l)) s)) (f (value l)) r

-- each lane's byte goes through the S-box of FIPS 197, or through its inverse
pub sbox_lanes : (j : ℕ) (q : List ℕ) → j < 32 → length q ≡ 8 → lane_byte j (sbox_of ones q) ≡ sub (lane_byte j q)
unfolding lane_byte
sbox_lanes j q hj e = byte-is sbox_of (λ j one q. sbox_lane j one q) sub_listed tested j q hj e ∙ sym (sub_is (lane_byte j q) (value-lt j 8 q e))

pub inv_sbox_lanes : (j : ℕ) (q : List ℕ) → j < 32 → length q ≡ 8 → lane_byte j (inv_sbox_of ones q) ≡ inv_sub (lane_byte j q)
inv_sbox_lanes j q hj e = byte-is inv_sbox_of (λ j one q. inv_sbox_lane j one q) inv_sub_listed inv_tested j q hj e ∙ sym (inv_sub-is (lane_byte j q))

-- ---- a sum, word by word

join : (x y a b : ℕ) → x < 2 → y < 2 → bit_xor x y + 2 * bit_xor a b ≡ bit_xor (x + 2 * a) (y + 2 * b)
join x y a b hx hy =
    let p : x + 2 * a ≡ a * 2 + x = omega arith in
    let q : y + 2 * b ≡ b * 2 + y = omega arith in
    omega arith ∙ sym (xor_block 1 a b x y hx hy) ∙ ap₂ bit_xor (sym p) (sym q)

pub xor-byte : (j : ℕ) (q k : List ℕ) → length q ≡ length k → lane_byte j (xor_words q k) ≡ bit_xor (lane_byte j q) (lane_byte j k)
unfolding lane_byte xor_words
xor-byte j [] [] e = refl
xor-byte j [] (k ∷ ks) e = absurd (omega arith)
xor-byte j (x ∷ xs) [] e = absurd (omega arith)
xor-byte j (x ∷ xs) (k ∷ ks) e =
    ap₂ (λ (a b : ℕ). a + 2 * b) (lane_xor j x k) (xor-byte j xs ks (omega arith))
    ∙ join (lane j x) (lane j k) (lane_byte j xs) (lane_byte j ks) (lane-bit j x) (lane-bit j k)

pub length-xor_words : (q k : List ℕ) → length q ≡ length k → length (xor_words q k) ≡ length q
unfolding xor_words
length-xor_words [] k e = refl
length-xor_words (x ∷ xs) [] e = absurd (omega arith)
length-xor_words (x ∷ xs) (k ∷ ks) e = ap suc (length-xor_words xs ks (omega arith))

-- ---- the product by x

doubles : List ℕ → Bool
doubles l = eqb (value (doubled_words l)) (xtime (value l))

doubles-tested : T (all_bits 8 doubles)
unfolding doubles xtime ◌⊕◌
doubles-tested = tt

-- each lane's byte is doubled
doubled-lane : (j : ℕ) (p : List ℕ) → map (lane j) (doubled_words p) ≡ doubled_words (map (lane j) p)
doubled-lane j p =
    let s : (i : ℕ) → lane j (bit_xor (get_or p i 0) (get_or p 7 0)) ≡ bit_xor (get_or (map (lane j) p) i 0) (get_or (map (lane j) p) 7 0) =
    λ i. lane_xor j (get_or p i 0) (get_or p 7 0) ∙ ap₂ bit_xor (at j p i) (at j p 7) in
    ap₂ ◌∷◌ (at j p 7) (ap₂ ◌∷◌ (s 0) (ap₂ ◌∷◌ (at j p 1) (ap₂ ◌∷◌ (s 2) (ap₂ ◌∷◌ (s 3) (ap₂ ◌∷◌ (at j p 4) (ap₂ ◌∷◌ (at j p 5) (ap₂ ◌∷◌ (at j p 6) refl)))))))

pub double-byte : (j : ℕ) (p : List ℕ) → length p ≡ 8 → lane_byte j (doubled_words p) ≡ xtime (lane_byte j p)
unfolding lane_byte doubles
double-byte j p e =
    ap value (doubled-lane j p)
    ∙ eqb→eq (value (doubled_words (map (lane j) p))) (xtime (value (map (lane j) p)))
    (all_bits-at doubles j p (subst (λ (n : ℕ). T (all_bits n doubles)) (sym e) doubles-tested))

pub lane_byte-byte : (j : ℕ) (q : List ℕ) → length q ≡ 8 → lane_byte j q < 256
unfolding lane_byte
lane_byte-byte j q e = value-lt j 8 q e

pub length-sbox_of : (q : List ℕ) → length (sbox_of ones q) ≡ 8
unfolding sbox_of constant_of
length-sbox_of q = refl

pub length-inv_sbox_of : (q : List ℕ) → length (inv_sbox_of ones q) ≡ 8
unfolding inv_sbox_of inv_outputs_of inv_outputs
length-inv_sbox_of q = refl

-- ---- shifts

pub lane_down : (j k x : ℕ) → lane j (x / 2 ^ k) ≡ lane (k + j) x
unfolding lane
lane_down j k x = ap (λ (y : ℕ). y % 2) (shr-shr x k j)

pub lane_up : (i k x : ℕ) → k + i < 32 → lane (k + i) (x * 2 ^ k % 2 ^ 32) ≡ lane i x
unfolding lane
lane_up i k x h =
    let p : (31 - (k + i)) + 1 + (k + i) ≡ 32 = omega arith in
    ap (λ (n : ℕ). x * 2 ^ k % 2 ^ n / 2 ^ (k + i) % 2) (sym p)
    ∙ ap (λ (y : ℕ). y % 2) (field (x * 2 ^ k) ((31 - (k + i)) + 1) (k + i))
    ∙ mod-mod-pow (x * 2 ^ k / 2 ^ (k + i)) (31 - (k + i)) 1
    ∙ ap (λ (y : ℕ). y % 2) (sym (shr-shr (x * 2 ^ k) k i) ∙ ap (λ (y : ℕ). y / 2 ^ i) (shl-shr x k))
