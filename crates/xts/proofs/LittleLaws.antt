-- Numbers in bytes, the lowest first.
use Rattle.std.proofs.Common.{◌≡◌, ℕ, zero, suc, ◌+◌, ◌*◌, ◌/◌, ◌%◌, ◌^◌, ◌<◌, List, ◌∷◌, ◌++◌, sym, refl, ap, ◌∙◌, ap₂, add-zero, mod-lt, mod-eq_of_lt, zero-lt-suc, mul_assoc, div-lt_iff_lt-mul, pow-suc, mul-one, arith, shr-shr}
use Rattle.octets.specs.Octets.{Str, ◌⊕◌}
use Rattle.octets.proofs.XorLaws.{⊕-div, ⊕-mod, ⊕-zero}
use Rattle.xts.specs.Xts.{little_endian, little_value}

pub str_little_endian : (n x : ℕ) → Str n (little_endian n x)
unfolding little_endian
str_little_endian zero x = record { len = refl; byte = tt }
str_little_endian (suc n) x =
    let h : Str n (little_endian n (x / 256)) = str_little_endian n (x / 256) in
    record { len = ap suc h.len; byte = (mod-lt x (zero-lt-suc 255), h.byte) }

-- ---- what stands above n bytes does not count

above : (z x : ℕ) → ((z * 256 + x) % 256 ≡ x % 256) × ((z * 256 + x) / 256 ≡ z + x / 256)
above z x = (omega arith, omega arith)

pub little_endian-low : (n y x : ℕ) → little_endian n (y * 256 ^ n + x) ≡ little_endian n x
unfolding little_endian
little_endian-low zero y x = refl
little_endian-low (suc n) y x =
    let e : y * 256 ^ suc n ≡ y * 256 ^ n * 256 = ap (λ (p : ℕ). y * p) (pow-suc 256 n) ∙ sym (mul_assoc y (256 ^ n) 256) in
    let q = above (y * 256 ^ n) x in
    ap₂ (λ (r : ℕ) (l : List ℕ). r ∷ l) (ap (λ (z : ℕ). (z + x) % 256) e ∙ q.0)
    (ap (λ (z : ℕ). little_endian n ((z + x) / 256)) e ∙ ap (little_endian n) q.1 ∙ little_endian-low n y (x / 256))

-- ---- two halves

pub little_endian-4-4 : (x : ℕ) → little_endian 8 x ≡ little_endian 4 x ++ little_endian 4 (x / 2 ^ 32)
unfolding little_endian
little_endian-4-4 x =
    ap (λ (y : ℕ). little_endian 4 x ++ little_endian 4 y)
    (ap (λ (y : ℕ). y / 256 / 256) (shr-shr x 8 8) ∙ ap (λ (y : ℕ). y / 256) (shr-shr x 16 8) ∙ shr-shr x 24 8)

pub little_endian-8-8 : (x : ℕ) → little_endian 16 x ≡ little_endian 8 x ++ little_endian 8 (x / 2 ^ 64)
unfolding little_endian
little_endian-8-8 x =
    ap (λ (y : ℕ). little_endian 8 x ++ little_endian 8 y)
    (ap (λ (y : ℕ). y / 256 / 256 / 256 / 256 / 256 / 256) (shr-shr x 8 8) ∙ ap (λ (y : ℕ). y / 256 / 256 / 256 / 256 / 256) (shr-shr x 16 8)
    ∙ ap (λ (y : ℕ). y / 256 / 256 / 256 / 256) (shr-shr x 24 8) ∙ ap (λ (y : ℕ). y / 256 / 256 / 256) (shr-shr x 32 8)
    ∙ ap (λ (y : ℕ). y / 256 / 256) (shr-shr x 40 8) ∙ ap (λ (y : ℕ). y / 256) (shr-shr x 48 8) ∙ shr-shr x 56 8)

-- ---- the number of the bytes

value-digit : (v q r x : ℕ) → q * 256 + r ≡ x → (v + q) * 256 + r ≡ v * 256 + x
value-digit v q r x e = omega arith

pub little_value-append : (n x : ℕ) (l : List ℕ) → x < 256 ^ n → little_value (little_endian n x ++ l) ≡ little_value l * 256 ^ n + x
unfolding little_endian little_value
little_value-append zero x l h = sym (ap₂ ◌+◌ (mul-one (little_value l)) (omega arith) ∙ add-zero (little_value l))
little_value-append (suc n) x l h =
    let e : little_value l * 256 ^ suc n ≡ little_value l * 256 ^ n * 256 = ap (λ (p : ℕ). little_value l * p) (pow-suc 256 n) ∙ sym (mul_assoc (little_value l) (256 ^ n) 256) in
    let k : x < 256 ^ n * 256 = rw (pow-suc 256 n) at h in
    ap (λ (v : ℕ). v * 256 + x % 256) (little_value-append n (x / 256) l ((div-lt_iff_lt-mul {k = 256} {x = x} {y = 256 ^ n} (omega arith)).1 k))
    ∙ value-digit (little_value l * 256 ^ n) (x / 256) (x % 256) x (omega arith)
    ∙ ap (λ (v : ℕ). v + x) (sym e)

-- ---- exclusive or with one byte

pub little_endian-⊕ : (n x c : ℕ) → c < 256 → little_endian (suc n) (x ⊕ c) ≡ (x % 256 ⊕ c) ∷ little_endian n (x / 256)
unfolding little_endian
little_endian-⊕ n x c h =
    ap₂ (λ (r : ℕ) (l : List ℕ). r ∷ l) (⊕-mod x c 8 ∙ ap (λ (y : ℕ). (x % 256) ⊕ y) (mod-eq_of_lt h))
    (ap (little_endian n) (⊕-div x c 8 ∙ ap (λ (y : ℕ). (x / 256) ⊕ y) (let z : c / 256 ≡ 0 = omega arith in z) ∙ ⊕-zero (x / 256)))
