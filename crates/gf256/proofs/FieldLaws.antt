-- Laws of the field: xtime and products by a constant are additive and give bytes; the products that AES has.
use mathlib.Core.Path.{◌≡◌, refl, sym, ap, ap₂, ◌∙◌}
use Prim.Native.Nat.{ℕ, zero, suc, ◌*◌, ◌/◌, ◌%◌, ◌<◌}
use native.Mathlib.Nat.{mod-lt, zero-lt-suc, zero-mul}
use native.Mathlib.Omega.{arith}
use Rattle.octets.specs.Octets.{◌⊕◌}
use Rattle.octets.proofs.XorLaws.{digit, ⊕-assoc, ⊕-left, ⊕_self, ⊕-zero, zero-⊕, ⊕-byte, ⊕_shift, ⊕-div, ⊕-mod}
use Rattle.gf256.specs.Field.{reduction, xtime, times, mul, scale}

pub xtime-byte : (a : ℕ) → a < 256 → xtime a < 256
unfolding xtime
xtime-byte a h = ⊕-byte (a * 2 % 256) (a / 128 * reduction) (mod-lt (a * 2) (zero-lt-suc 255)) (omega arith)

-- a product by a bit
bit-⊕ : (k x y : ℕ) → x < 2 → y < 2 → (x ⊕ y) * k ≡ (x * k) ⊕ (y * k)
unfolding ◌⊕◌
bit-⊕ k x y hx hy =
    digit (λ x. (x ⊕ y) * k ≡ (x * k) ⊕ (y * k)) (sym (ap (λ (z : ℕ). z ⊕ (y * k)) (zero-mul k)))
    (digit (λ y. (1 ⊕ y) * k ≡ (1 * k) ⊕ (y * k)) (sym (ap (λ (z : ℕ). (1 * k) ⊕ z) (zero-mul k) ∙ ⊕-zero (1 * k)))
    (zero-mul k ∙ sym (⊕_self (1 * k))) y hy) x hx

⊕-two : (a b c d : ℕ) → (a ⊕ b) ⊕ (c ⊕ d) ≡ (a ⊕ c) ⊕ (b ⊕ d)
⊕-two a b c d = simp (⊕-assoc, ⊕-left)

pub xtime-⊕ : (a b : ℕ) → a < 256 → b < 256 → xtime (a ⊕ b) ≡ xtime a ⊕ xtime b
unfolding xtime
xtime-⊕ a b ha hb =
    ap₂ ◌⊕◌ (ap (λ (x : ℕ). x % 256) (⊕_shift a b 1) ∙ ⊕-mod (a * 2) (b * 2) 8)
    (ap (λ (x : ℕ). x * reduction) (⊕-div a b 7) ∙ bit-⊕ reduction (a / 128) (b / 128) (omega arith) (omega arith))
    ∙ ⊕-two (a * 2 % 256) (b * 2 % 256) (a / 128 * reduction) (b / 128 * reduction)

scale-⊕ : (k a b : ℕ) → scale k (a ⊕ b) ≡ scale k a ⊕ scale k b
scale-⊕ zero a b = sym (zero-⊕ 0)
scale-⊕ (suc k) a b = refl

scale-byte : (k a : ℕ) → a < 256 → scale k a < 256
scale-byte zero a h = omega arith
scale-byte (suc k) a h = h

times-byte : (n c a : ℕ) → a < 256 → times n c a < 256
unfolding times
times-byte zero c a h = omega arith
times-byte (suc n) c a h = ⊕-byte _ _ (scale-byte (c % 2) a h) (times-byte n (c / 2) (xtime a) (xtime-byte a h))

pub mul-byte : (c a : ℕ) → a < 256 → mul c a < 256
unfolding mul
mul-byte c a h = times-byte 8 c a h

times-⊕ : (n c a b : ℕ) → a < 256 → b < 256 → times n c (a ⊕ b) ≡ times n c a ⊕ times n c b
unfolding times
times-⊕ zero c a b ha hb = sym (zero-⊕ 0)
times-⊕ (suc n) c a b ha hb =
    ap₂ ◌⊕◌ (scale-⊕ (c % 2) a b)
    (ap (times n (c / 2)) (xtime-⊕ a b ha hb) ∙ times-⊕ n (c / 2) (xtime a) (xtime b) (xtime-byte a ha) (xtime-byte b hb))
    ∙ ⊕-two (scale (c % 2) a) (scale (c % 2) b) (times n (c / 2) (xtime a)) (times n (c / 2) (xtime b))

-- a product by a constant is additive
pub mul-⊕ : (c a b : ℕ) → a < 256 → b < 256 → mul c (a ⊕ b) ≡ mul c a ⊕ mul c b
unfolding mul
mul-⊕ c a b ha hb = times-⊕ 8 c a b ha hb

-- ---- the coefficients of MIXCOLUMNS and INVMIXCOLUMNS, as sums of doublings

pub mul-1 : (a : ℕ) → mul 1 a ≡ a
unfolding mul times
mul-1 a = simp (zero-⊕, ⊕-zero)

pub mul-2 : (a : ℕ) → mul 2 a ≡ xtime a
unfolding mul times
mul-2 a = simp (zero-⊕, ⊕-zero)

pub mul-3 : (a : ℕ) → mul 3 a ≡ a ⊕ xtime a
unfolding mul times
mul-3 a = simp (zero-⊕, ⊕-zero)

pub mul-9 : (a : ℕ) → mul 9 a ≡ a ⊕ xtime (xtime (xtime a))
unfolding mul times
mul-9 a = simp (zero-⊕, ⊕-zero)

pub mul-11 : (a : ℕ) → mul 11 a ≡ a ⊕ (xtime a ⊕ xtime (xtime (xtime a)))
unfolding mul times
mul-11 a = simp (zero-⊕, ⊕-zero)

pub mul-13 : (a : ℕ) → mul 13 a ≡ a ⊕ (xtime (xtime a) ⊕ xtime (xtime (xtime a)))
unfolding mul times
mul-13 a = simp (zero-⊕, ⊕-zero)

pub mul-14 : (a : ℕ) → mul 14 a ≡ xtime a ⊕ (xtime (xtime a) ⊕ xtime (xtime (xtime a)))
unfolding mul times
mul-14 a = simp (zero-⊕, ⊕-zero)
