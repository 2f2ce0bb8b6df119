-- The last block of a message of one whole block and some words, as it is laid in 16 words.
use mathlib.Core.Path.{◌≡◌, sym, ap, ◌∙◌}
use mathlib.Core.List.{List, [], ◌∷◌, ◌++◌, append_assoc}
use Prim.Native.Nat.{ℕ, suc, ◌+◌, ◌-◌, ◌*◌, ◌≤◌}
use native.Mathlib.Omega.{arith}
use lib.ListN.{length, set, length-append}
use lib.Seq.{set-append_seam}
use Rattle.octets.specs.Octets.{zeros}
use Rattle.octets.specs.Splice.{splice}
use Rattle.octets.proofs.OctetsLaws.{length-zeros, zeros-append}
use Rattle.octets.proofs.SpliceLaws.{splice-zeros}
use Rattle.pbkdf2.specs.Words.{padding_words, last_block}

-- an element behind n others
set-behind : (p q : List ℕ) (x y n : ℕ) → length p ≡ n → set (p ++ (x ∷ q)) n y ≡ p ++ (y ∷ q)
set-behind p q x y n e = ap (λ (i : ℕ). set (p ++ (x ∷ q)) i y) (sym e) ∙ set-append_seam p x q y

-- zeros with one of them in front and one behind
between : (z : ℕ) → zeros (suc z + 1) ≡ 0 ∷ (zeros z ++ (0 ∷ []))
unfolding zeros
between z = sym (zeros-append (suc z) 1)

pub last-set : (u d : List ℕ) (n : ℕ) → length u ≡ n → n ≤ 14 → d ≡ splice (zeros 16) 0 u → set (set d n 0x80000000) 15 (512 + 32 * n) ≡ last_block u
unfolding last_block padding_words
last-set u d n l h e =
    let z : ℕ = 14 - n in
    let k : 16 - length u ≡ suc z + 1 = omega arith in
    let first : ℕ = 0x80000000 in
    let front : List ℕ = u ++ (first ∷ zeros z) in
    let laid : d ≡ u ++ (0 ∷ (zeros z ++ (0 ∷ []))) =
    e ∙ splice-zeros 16 u (omega arith) ∙ ap (λ (i : ℕ). u ++ zeros i) k ∙ ap (λ (x : List ℕ). u ++ x) (between z) in
    let lf : length front ≡ 15 = length-append u (first ∷ zeros z) ∙ omega (arith, length-zeros z) in
    ap (λ (x : List ℕ). set x 15 (512 + 32 * n))
    (ap (λ (x : List ℕ). set x n first) laid ∙ set-behind u (zeros z ++ (0 ∷ [])) 0 first n l ∙ sym (append_assoc u (first ∷ zeros z) (0 ∷ [])))
    ∙ set-behind front [] 0 (512 + 32 * n) 15 lf
    ∙ append_assoc u (first ∷ zeros z) ((512 + 32 * n) ∷ [])
    ∙ ap (λ (i : ℕ). u ++ (first ∷ (zeros (14 - i) ++ ((512 + 32 * i) ∷ [])))) (sym l)
