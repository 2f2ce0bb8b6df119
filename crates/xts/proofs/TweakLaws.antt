-- The tweak in two halves of 64 bits: its doubling is the doubling of one number.
use Rattle.std.proofs.Common.{◌≡◌, ℕ, zero, suc, ◌+◌, ◌-◌, ◌*◌, ◌/◌, ◌%◌, ◌^◌, ◌<◌, ◌≤◌, List, [], ◌∷◌, ◌++◌, sym, refl, ap, ◌∙◌, ap₂, append-nil, add_assoc, mod-lt, arith, pow_pos, shr-shr, shr_lt}
use lib.Bits.{bit_and, bit_or, bit_xor, or_shifted}
use lib.Pow.{high, low, split, mod-pow-add}
use Rattle.octets.specs.Octets.{◌⊕◌, xors, zeros}
use Rattle.xts.specs.Xts.{little_endian, little_value, unit_block, double}
use Rattle.xts.proofs.LittleLaws.{little_endian-low, little_endian-8-8, little_value-append, little_endian-⊕}

-- ---- doubling

xors-byte : (x y c : ℕ) → xors (little_endian 8 x ++ little_endian 8 y) (c ∷ []) ≡ (((x % 256) ⊕ c) ∷ little_endian 7 (x / 256)) ++ little_endian 8 y
unfolding xors little_endian
xors-byte x y c = refl

-- x * 2, in its top bit and the rest
twice : (x : ℕ) → x * 2 ≡ x / 2 ^ 63 * 2 ^ 64 + x % 2 ^ 63 * 2
twice x = ap (λ (y : ℕ). y * 2) (sym (split x 63)) ∙ linear (x / 2 ^ 63) (x % 2 ^ 63)
  where
    linear : (b r : ℕ) → (b * 2 ^ 63 + r) * 2 ≡ b * 2 ^ 64 + r * 2
    linear b r = omega arith

rest : (x : ℕ) → x % 2 ^ 63 * 2 + 1 < 2 ^ 64
rest x = fits (x % 2 ^ 63) (mod-lt x (pow_pos 63))
  where
    fits : (r : ℕ) → r < 2 ^ 63 → r * 2 + 1 < 2 ^ 64
    fits r h = omega arith

top : (x : ℕ) → x < 2 ^ 64 → x / 2 ^ 63 < 2
top x h = shr_lt 1 63 h

-- the bit c shifted out: a mask of it, and what it adds
masked : (c : ℕ) → c < 2 → bit_and ((c * 2 ^ 8) % 2 ^ 64 - c) 135 ≡ c * 135
masked zero h = refl
masked (suc zero) h = refl
masked (suc (suc c)) h = absurd (omega arith)

pub mask-room : (x : ℕ) → x < 2 ^ 64 → x / 2 ^ 63 ≤ (x / 2 ^ 63 * 2 ^ 8) % 2 ^ 64
mask-room x h = room (x / 2 ^ 63) (top x h)
  where
    room : (c : ℕ) → c < 2 → c ≤ (c * 2 ^ 8) % 2 ^ 64
    room zero h = omega arith
    room (suc zero) h = omega arith
    room (suc (suc c)) h = absurd (omega arith)

-- a bit that comes in below goes through
carry_in : (x b : ℕ) → b < 2 → ((x * 2 + b) / 2 ^ 64 ≡ x / 2 ^ 63) × ((x * 2 + b) % 2 ^ 64 ≡ (x * 2) % 2 ^ 64 + b)
carry_in x b h =
    let r : ℕ = x % 2 ^ 63 * 2 in
    let l : r + 1 < 2 ^ 64 = rest x in
    let m : r + b < 2 ^ 64 = omega arith in
    let e : x * 2 + b ≡ x / 2 ^ 63 * 2 ^ 64 + (r + b) = ap (λ (y : ℕ). y + b) (twice x) ∙ add_assoc (x / 2 ^ 63 * 2 ^ 64) r b in
    let z : (x * 2) % 2 ^ 64 ≡ r = ap (λ (y : ℕ). y % 2 ^ 64) (twice x) ∙ low (x / 2 ^ 63) 64 (omega arith) in (
      ap (λ (y : ℕ). y / 2 ^ 64) e ∙ high (x / 2 ^ 63) 64 m,
      ap (λ (y : ℕ). y % 2 ^ 64) e ∙ low (x / 2 ^ 63) 64 m ∙ ap (λ (y : ℕ). y + b) (sym z),
    )

upper_of : (x y : ℕ) → ((x * 2 ^ 64 + y) * 2 / 2 ^ 64 ≡ x * 2 + y / 2 ^ 63) × ((x * 2 ^ 64 + y) * 2 % 2 ^ 64 ≡ (y * 2) % 2 ^ 64)
upper_of x y =
    let r : ℕ = y % 2 ^ 63 * 2 in
    let l : r < 2 ^ 64 = let m : r + 1 < 2 ^ 64 = rest y in omega arith in
    let e : (x * 2 ^ 64 + y) * 2 ≡ (x * 2 + y / 2 ^ 63) * 2 ^ 64 + r = linear x y (y / 2 ^ 63) r (twice y) in
    let z : (y * 2) % 2 ^ 64 ≡ r = ap (λ (w : ℕ). w % 2 ^ 64) (twice y) ∙ low (y / 2 ^ 63) 64 l in
    (ap (λ (w : ℕ). w / 2 ^ 64) e ∙ high (x * 2 + y / 2 ^ 63) 64 l, ap (λ (w : ℕ). w % 2 ^ 64) e ∙ low (x * 2 + y / 2 ^ 63) 64 l ∙ sym z)
  where
    linear : (h l b r : ℕ) → l * 2 ≡ b * 2 ^ 64 + r → (h * 2 ^ 64 + l) * 2 ≡ (h * 2 + b) * 2 ^ 64 + r
    linear h l b r e = omega arith

module _ (lo hi : ℕ) (hl : lo < 2 ^ 64) (hh : hi < 2 ^ 64) where
  value : little_value (little_endian 8 lo ++ little_endian 8 hi) ≡ hi * 2 ^ 64 + lo
  unfolding little_value
  value =
      little_value-append 8 lo (little_endian 8 hi) hl
      ∙ ap (λ (v : ℕ). v * 2 ^ 64 + lo) (sym (ap little_value (append-nil (little_endian 8 hi))) ∙ little_value-append 8 hi [] hh ∙ omega arith)

  -- the number shifted left by one, in halves, and the bit shifted out
  shifted : (hi * 2 ^ 64 + lo) * 2 % 2 ^ 128 ≡ ((hi * 2) % 2 ^ 64 + lo / 2 ^ 63) * 2 ^ 64 + (lo * 2) % 2 ^ 64
  shifted =
      mod-pow-add ((hi * 2 ^ 64 + lo) * 2) 64 64
      ∙ ap₂ (λ (x y : ℕ). x * 2 ^ 64 + y) (ap (λ (x : ℕ). x % 2 ^ 64) (upper_of hi lo).0 ∙ (carry_in hi (lo / 2 ^ 63) (top lo hl)).1) (upper_of hi lo).1

  out : (hi * 2 ^ 64 + lo) * 2 / 2 ^ 128 ≡ hi / 2 ^ 63
  out =
      sym (shr-shr ((hi * 2 ^ 64 + lo) * 2) 64 64) ∙ ap (λ (x : ℕ). x / 2 ^ 64) (upper_of hi lo).0 ∙ (carry_in hi (lo / 2 ^ 63) (top lo hl)).0

  upper : bit_or ((hi * 2 ^ 1) % 2 ^ 64) (lo / 2 ^ 63) ≡ (hi * 2) % 2 ^ 64 + lo / 2 ^ 63
  upper =
      let e : (hi * 2 ^ 1) % 2 ^ 64 ≡ hi % 2 ^ 63 * 2 ^ 1 = omega arith in
      ap (λ (x : ℕ). bit_or x (lo / 2 ^ 63)) e ∙ or_shifted (hi % 2 ^ 63) 1 (lo / 2 ^ 63) (omega arith) ∙ omega arith

  halves : (x y : ℕ) → x < 2 ^ 64 → little_endian 16 (y * 2 ^ 64 + x) ≡ little_endian 8 x ++ little_endian 8 y
  halves x y h =
      little_endian-8-8 (y * 2 ^ 64 + x) ∙ ap₂ (λ (p : List ℕ) (q : ℕ). p ++ little_endian 8 q) (little_endian-low 8 y x) (high y 64 h)

  pub double-halves : little_endian 8 (bit_xor ((lo * 2 ^ 1) % 2 ^ 64) (bit_and ((hi / 2 ^ 63 * 2 ^ 8) % 2 ^ 64 - hi / 2 ^ 63) 135)) ++ little_endian 8 (bit_or ((hi * 2 ^ 1) % 2 ^ 64) (lo / 2 ^ 63))
      ≡ double (little_endian 8 lo ++ little_endian 8 hi)
  unfolding double ◌⊕◌
  double-halves =
      let c : ℕ = hi / 2 ^ 63 * 135 in
      let h : c < 256 = omega arith in
      let u : ℕ = (hi * 2) % 2 ^ 64 + lo / 2 ^ 63 in
      let l : ℕ = (lo * 2) % 2 ^ 64 in
      ap₂ ◌++◌ (ap (λ (m : ℕ). little_endian 8 (l ⊕ m)) (masked (hi / 2 ^ 63) (top hi hh)) ∙ little_endian-⊕ 7 l c h) (ap (little_endian 8) upper)
      ∙ sym (xors-byte l u c)
      ∙ ap (λ (x : List ℕ). xors x (c ∷ [])) (sym (halves l u (omega arith)) ∙ ap (little_endian 16) (sym shifted))
      ∙ ap (λ (x : ℕ). xors (little_endian 16 ((hi * 2 ^ 64 + lo) * 2 % 2 ^ 128)) (x * 135 ∷ [])) (sym out)
      ∙ ap (λ (v : ℕ). xors (little_endian 16 (v * 2 % 2 ^ 128)) (v * 2 / 2 ^ 128 * 135 ∷ [])) (sym value)

-- ---- the number of a unit

pub unit_tweak : (u : ℕ) → little_endian 8 u ++ little_endian 8 0 ≡ unit_block u
unfolding unit_block little_endian zeros
unit_tweak u = refl
