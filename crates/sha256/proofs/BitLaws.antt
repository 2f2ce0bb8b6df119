-- AND distributes over XOR, and with it the forms of Ch and Maj that the code has.
use Rattle.std.proofs.Common.{◌≡◌, ℕ, ◌+◌, ◌-◌, ◌%◌, ◌^◌, ◌<◌, min, sym, ap, ◌∙◌, ap₂, mod-eq_of_lt, arith}
use lib.Bits.{bit_and, bit_xor, and_comm, and_self, and_mask, xor_add_and}
use Rattle.std.specs.Int.{bit_at}
use Rattle.std.proofs.lemmas.Nat.Bits.{bit_at_and, bit_at_xor, bit_at-lt, same_from_bits}
use Rattle.octets.specs.Octets.{◌⊕◌}
use Rattle.octets.proofs.XorLaws.{⊕-assoc, ⊕_comm, ⊕-left, ⊕_self, zero-⊕}
use Rattle.digest.specs.Chaining.{ch, maj}

and_digits : (x y z : ℕ) → x < 2 → y < 2 → z < 2 → min x ((y + z) % 2) ≡ (min x y + min x z) % 2
and_digits x y z hx hy hz = omega arith

and_xor : (a b c : ℕ) → bit_and a (bit_xor b c) ≡ bit_xor (bit_and a b) (bit_and a c)
and_xor a b c =
    same_from_bits _ _
    (λ i.
    rw (bit_at_and a (bit_xor b c) i, bit_at_xor b c i, bit_at_xor (bit_and a b) (bit_and a c) i, bit_at_and a b i, bit_at_and a c i)
    (and_digits (bit_at a i) (bit_at b i) (bit_at c i) (bit_at-lt a i) (bit_at-lt b i) (bit_at-lt c i)))

and-⊕ : (a b c : ℕ) → bit_and a (b ⊕ c) ≡ bit_and a b ⊕ bit_and a c
unfolding ◌⊕◌
and-⊕ a b c = and_xor a b c

⊕-and : (a b c : ℕ) → bit_and (a ⊕ b) c ≡ bit_and a c ⊕ bit_and b c
⊕-and a b c = and_comm (a ⊕ b) c ∙ and-⊕ c a b ∙ ap₂ ◌⊕◌ (and_comm c a) (and_comm c b)

⊕-twice : (a b : ℕ) → a ⊕ (a ⊕ b) ≡ b
⊕-twice a b = sym (⊕-assoc a a b) ∙ ap (λ (n : ℕ). n ⊕ b) (⊕_self a) ∙ zero-⊕ b

-- NOT is XOR with ones
not-⊕ : (x : ℕ) → x < 2 ^ 32 → (2 ^ 32 - 1) - x ≡ x ⊕ (2 ^ 32 - 1)
unfolding ◌⊕◌
not-⊕ x h = omega (arith, h, xor_add_and x (2 ^ 32 - 1), and_mask x 32)

ones_and : (z : ℕ) → z < 2 ^ 32 → bit_and (2 ^ 32 - 1) z ≡ z
ones_and z h = and_comm (2 ^ 32 - 1) z ∙ and_mask z 32 ∙ mod-eq_of_lt h

not-and : (x z : ℕ) → x < 2 ^ 32 → z < 2 ^ 32 → bit_and ((2 ^ 32 - 1) - x) z ≡ bit_and x z ⊕ z
not-and x z hx hz = ap (λ (n : ℕ). bit_and n z) (not-⊕ x hx) ∙ ⊕-and x (2 ^ 32 - 1) z ∙ ap (λ (n : ℕ). bit_and x z ⊕ n) (ones_and z hz)

ch-⊕ : (x y z : ℕ) → x < 2 ^ 32 → z < 2 ^ 32 → z ⊕ bit_and x (y ⊕ z) ≡ bit_and x y ⊕ bit_and ((2 ^ 32 - 1) - x) z
ch-⊕ x y z hx hz =
    ⊕_comm z (bit_and x (y ⊕ z)) ∙ ap (λ (n : ℕ). n ⊕ z) (and-⊕ x y z) ∙ ⊕-assoc (bit_and x y) (bit_and x z) z
    ∙ ap (λ (n : ℕ). bit_and x y ⊕ n) (sym (not-and x z hx hz))

pub ch-is : (x y z : ℕ) → x < 2 ^ 32 → z < 2 ^ 32 → bit_xor z (bit_and x (bit_xor y z)) ≡ ch x y z
unfolding ◌⊕◌
ch-is x y z hx hz = ch-⊕ x y z hx hz

maj-⊕ : (x y z : ℕ) → y ⊕ bit_and (x ⊕ y) (y ⊕ z) ≡ bit_and x y ⊕ bit_and x z ⊕ bit_and y z
maj-⊕ x y z =
    ap (λ (n : ℕ). y ⊕ n) (⊕-and x y (y ⊕ z) ∙ ap₂ ◌⊕◌ (and-⊕ x y z) (and-⊕ y y z ∙ ap (λ (n : ℕ). n ⊕ bit_and y z) (and_self y)))
    ∙ simp (⊕-assoc, ⊕-left) (⊕-twice y (bit_and x y ⊕ (bit_and x z ⊕ bit_and y z)))

pub maj-is : (x y z : ℕ) → bit_xor y (bit_and (bit_xor x y) (bit_xor y z)) ≡ maj x y z
unfolding ◌⊕◌
maj-is x y z = maj-⊕ x y z
