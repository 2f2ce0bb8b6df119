-- An opening laid in 66 bytes: slot, key length, the 64 key bytes.
use Rattle.std.proofs.Common.{arith, ◌≡◌, ◌∙◌, ap, ℕ, List, [], ◌∷◌, ◌++◌, length, take, drop, set}
use Rattle.std.proofs.lemmas.List.{drop_all, append-nil}

pub laid : (d key : List ℕ) (s l : ℕ) → length d ≡ 66 → take 2 (set (set d 0 s) 1 l) ++ (key ++ drop 64 (drop 2 (set (set d 0 s) 1 l))) ≡ s ∷ l ∷ key
laid [] key s l h = absurd (omega (arith, h))
laid (x ∷ []) key s l h = absurd (omega (arith, h))
laid (x ∷ y ∷ d) key s l h =
    let e : key ++ drop 64 d ≡ key = ap (λ (r : List ℕ). key ++ r) (drop_all 64 d (omega (arith, h))) ∙ append-nil key in
    λ j. s ∷ l ∷ e j
