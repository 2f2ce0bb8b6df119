-- A loop that works through a byte string in place, byte by byte.
use mathlib.Core.Path.{◌≡◌, sym, ap, ap₂, ◌∙◌}
use mathlib.Core.List.{List, ◌++◌, append-nil}
use Prim.Native.Nat.{ℕ, suc, ◌+◌, ◌<◌, ◌≤◌}
use native.Mathlib.Omega.{arith}
use lib.Bits.{bit_xor}
use lib.ListN.{length, get_or, set, take, drop, drop_of_length-le}
use lib.Seq.{take-suc-set, drop-set-lt, append_snoc, drop-cons, take_all}
use Rattle.octets.specs.Octets.{xors, ◌⊕◌}

pub xor_more : (d b q : List ℕ) (i : ℕ) → i < length d → length d ≡ length b → take i d ++ xors (drop i d) (drop i b) ≡ q
    → take (i + 1) (set d i (bit_xor (get_or d i 0) (get_or b i 0))) ++ xors (drop (i + 1) (set d i (bit_xor (get_or d i 0) (get_or b i 0)))) (drop (i + 1) b) ≡ q
unfolding xors ◌⊕◌
xor_more d b q i h l e =
    let v : ℕ = bit_xor (get_or d i 0) (get_or b i 0) in
    let n : i + 1 ≡ suc i = omega arith in
    rw n
    (ap₂ (λ (x y : List ℕ). x ++ xors y (drop (suc i) b)) (take-suc-set d i v h) (drop-set-lt (suc i) d i v (omega arith))
    ∙ append_snoc (take i d) v (xors (drop (suc i) d) (drop (suc i) b))
    ∙ ap₂ (λ (x y : List ℕ). take i d ++ xors x y) (sym (drop-cons d i 0 h)) (sym (drop-cons b i 0 (omega arith)))
    ∙ e)

pub xor-last : (d b q : List ℕ) (i : ℕ) → length d ≤ i → take i d ++ xors (drop i d) (drop i b) ≡ q → d ≡ q
unfolding xors
xor-last d b q i h e =
    sym (take_all i d h) ∙ sym (append-nil (take i d)) ∙ ap (λ (x : List ℕ). take i d ++ xors x (drop i b)) (sym (drop_of_length-le d {i = i} h)) ∙ e
