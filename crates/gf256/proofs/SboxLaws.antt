-- The substitution and its inverse give bytes, and each undoes the other (02, Wish 3: "proved of all 256 values, both ways"): two tests over all bytes.
use mathlib.Core.Path.{◌≡◌, ap, ◌∙◌}
use Prim.Native.Nat.{ℕ, zero, suc, ◌/◌, ◌%◌, ◌<◌}
use native.Mathlib.Nat.{mod-lt, zero-lt-suc}
use native.Mathlib.Omega.{arith}
use Rattle.octets.proofs.TableLaws.{same-below}
use Rattle.gf256.proofs.FieldLaws.{mul-byte}
use Rattle.gf256.proofs.InverseLaws.{inverses, listed, inverse-is}
use Rattle.gf256.specs.Field.{mul, factor, power, inverse, bit, of_bits, affine, inv_affine, sub, inv_sub}

-- ---- bytes go to bytes

bits-byte : (f : ℕ → ℕ) → of_bits (λ i. f i % 2) < 256
unfolding of_bits
bits-byte f =
    let m : (i : ℕ) → f i % 2 < 2 = λ i. mod-lt (f i) (zero-lt-suc 1) in
    omega (arith, m 0, m 1, m 2, m 3, m 4, m 5, m 6, m 7)

affine-byte : (b : ℕ) → affine b < 256
unfolding affine
affine-byte b = bits-byte _

inv_affine-byte : (b : ℕ) → inv_affine b < 256
unfolding inv_affine
inv_affine-byte b = bits-byte _

factor-byte : (k a b : ℕ) → b < 256 → factor k a b < 256
unfolding factor
factor-byte zero a b h = h
factor-byte (suc k) a b h = mul-byte a b h

power-byte : (n e a : ℕ) → a < 256 → power n e a < 256
unfolding power
power-byte zero e a h = omega arith
power-byte (suc n) e a h = factor-byte (e % 2) a (power n (e / 2) (mul a a)) (power-byte n (e / 2) (mul a a) (mul-byte a a h))

pub sub-byte : (k : ℕ) → sub k < 256
unfolding sub
sub-byte k = affine-byte (inverse k)

pub inv_sub-byte : (k : ℕ) → inv_sub k < 256
unfolding inverse inv_sub
inv_sub-byte k = power-byte 8 254 (inv_affine k) (inv_affine-byte k)

-- ---- both by the list of inverses

abbrev pub sub_listed : ℕ → ℕ
sub_listed k = affine (listed k)

abbrev pub inv_sub_listed : ℕ → ℕ
inv_sub_listed k = listed (inv_affine k)

pub sub_is : (k : ℕ) → k < 256 → sub k ≡ sub_listed k
unfolding sub
sub_is k h = ap affine (inverse-is k h)

pub inv_sub-is : (k : ℕ) → inv_sub k ≡ inv_sub_listed k
unfolding inv_sub
inv_sub-is k = inverse-is (inv_affine k) (inv_affine-byte k)

-- ---- each undoes the other

undone : (k : ℕ) → k < 256 → inv_sub_listed (sub_listed k) ≡ k
unfolding inverses bit of_bits affine inv_affine
undone = same-below (λ k. inv_sub_listed (sub_listed k)) (λ k. k) 256 tt

pub sub_undo : (k : ℕ) → k < 256 → inv_sub (sub k) ≡ k
sub_undo k h = ap inv_sub (sub_is k h) ∙ inv_sub-is (sub_listed k) ∙ undone k h

redone : (k : ℕ) → k < 256 → sub_listed (inv_sub_listed k) ≡ k
unfolding inverses bit of_bits affine inv_affine
redone = same-below (λ k. sub_listed (inv_sub_listed k)) (λ k. k) 256 tt

pub inv_sub_undo : (k : ℕ) → k < 256 → sub (inv_sub k) ≡ k
inv_sub_undo k h = sub_is (inv_sub k) (inv_sub-byte k) ∙ ap sub_listed (inv_sub-is k) ∙ redone k h
