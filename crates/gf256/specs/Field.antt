-- FIPS 197, sections 4 and 5: bytes as elements of GF(2^8), and the substitution box. A byte is a number below 256.
use Rattle.std.specs.Prelude.{ℕ, zero, suc, ◌+◌, ◌*◌, ◌/◌, ◌%◌, ◌^◌}
use Rattle.octets.specs.Octets.{◌⊕◌}

-- ---- the field; addition is ⊕ (4.1)

-- 4.2: products are modulo m(x) = x^8 + x^4 + x^3 + x + 1, so that x^8 is {1b}
abbrev pub reduction : ℕ
reduction = 27

-- 4.2: XTIMES, multiplication by x: a bit shifted out adds the reduction
unfoldable pub xtime : ℕ → ℕ
xtime a = (a * 2 % 256) ⊕ (a / 128 * reduction)

-- a where the bit is 1, and 0 where it is 0
abbrev pub scale : ℕ → ℕ → ℕ
scale zero a = 0
scale (suc k) a = a

-- the sum of a, xtime a, xtime (xtime a), .. over the n low bits of c that are 1
unfoldable pub times : ℕ → ℕ → ℕ → ℕ
times zero c a = 0
times (suc n) c a = scale (c % 2) a ⊕ times n (c / 2) (xtime a)

-- 4.2: the product of two bytes, {c} • {a}
unfoldable pub mul : ℕ → ℕ → ℕ
mul c a = times 8 c a

-- b, or its product with a where the bit is 1
unfoldable pub factor : ℕ → ℕ → ℕ → ℕ
factor zero a b = b
factor (suc k) a b = mul a b

-- the power a^e, for e of n bits
unfoldable pub power : ℕ → ℕ → ℕ → ℕ
power zero e a = 1
power (suc n) e a = factor (e % 2) a (power n (e / 2) (mul a a))

-- 4.4: the multiplicative inverse is a^254; 5.1.1 takes 0 for 0, which this gives too
unfoldable pub inverse : ℕ → ℕ
inverse a = power 8 254 a

-- ---- the substitution box

-- bit i of a byte
unfoldable pub bit : ℕ → ℕ → ℕ
bit b i = b / 2 ^ i % 2

-- the byte with the bits f 0, .., f 7
unfoldable pub of_bits : (ℕ → ℕ) → ℕ
of_bits f = f 0 + 2 * f 1 + 4 * f 2 + 8 * f 3 + 16 * f 4 + 32 * f 5 + 64 * f 6 + 128 * f 7

-- 5.1.1, SUBBYTES: the affine transformation, with the constant byte c = {63}
unfoldable pub affine : ℕ → ℕ
affine b =
    of_bits (λ i. (bit b i + bit b ((i + 4) % 8) + bit b ((i + 5) % 8) + bit b ((i + 6) % 8) + bit b ((i + 7) % 8) + bit 99 i) % 2)

-- 5.3.2, INVSUBBYTES: the inverse of the affine transformation, with the constant byte {05}
unfoldable pub inv_affine : ℕ → ℕ
inv_affine b = of_bits (λ i. (bit b ((i + 2) % 8) + bit b ((i + 5) % 8) + bit b ((i + 7) % 8) + bit 5 i) % 2)

-- 5.1.1: SBOX, the inverse and then the affine transformation
unfoldable pub sub : ℕ → ℕ
sub b = affine (inverse b)

-- 5.3.2: INVSBOX, the inverse affine transformation and then the inverse
unfoldable pub inv_sub : ℕ → ℕ
inv_sub b = inverse (inv_affine b)
