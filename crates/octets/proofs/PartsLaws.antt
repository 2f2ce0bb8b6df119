-- Strings joined from parts of given widths.
use mathlib.Core.Path.{◌≡◌, refl, sym, ap, ap₂, ◌∙◌}
use mathlib.Core.List.{List, [], ◌∷◌, ◌++◌, append_assoc, flatten}
use Prim.Native.Nat.{ℕ, ◌+◌}
use lib.ListN.{length, length-append}

pub flatten_append : (xs ys : List (List ℕ)) → flatten (xs ++ ys) ≡ flatten xs ++ flatten ys
unfolding flatten
flatten_append [] ys = refl
flatten_append (x ∷ xs) ys = ap (λ (z : List ℕ). x ++ z) (flatten_append xs ys) ∙ sym (append_assoc x (flatten xs) (flatten ys))

-- the bytes of all parts
abbrev pub total : List ℕ → ℕ
total [] = 0
total (w ∷ ws) = w + total ws

-- the parts' lengths
abbrev pub Widths : List (List ℕ) → List ℕ → Type 0
Widths [] [] = Unit {0}
Widths [] (w ∷ ws) = ⊥
Widths (p ∷ ps) [] = ⊥
Widths (p ∷ ps) (w ∷ ws) = (length p ≡ w) × Widths ps ws

pub length_flatten : (ps : List (List ℕ)) (ws : List ℕ) → Widths ps ws → length (flatten ps) ≡ total ws
unfolding flatten
length_flatten [] [] h = refl
length_flatten [] (w ∷ ws) h = absurd h
length_flatten (p ∷ ps) [] h = absurd h
length_flatten (p ∷ ps) (w ∷ ws) h = length-append p (flatten ps) ∙ ap₂ (λ x y. x + y) h.0 (length_flatten ps ws h.1)
