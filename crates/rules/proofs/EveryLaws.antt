-- Tests of every element of a list: of one element, and a turn of a scan and its end.
use mathlib.Core.Path.{◌≡◌, refl, sym, ap, ◌∙◌}
use mathlib.Core.List.{List, [], ◌∷◌, map}
use mathlib.Core.Bool.{Bool, true, false, ◌&&◌}
use Prim.Native.Nat.{ℕ, zero, suc, ◌+◌, ◌≤◌, ◌<◌}
use native.Mathlib.Numerals.{add-one}
use native.Mathlib.Omega.{arith}
use lib.ListN.{length, get_or, drop, drop_of_length-le}
use lib.Seq.{drop-cons}
use Rattle.octets.proofs.BoolLaws.{and_split, and_no, and_yes}
use Rattle.rules.specs.Checks.{every}

module _ {A : Type 0} where
  -- what is left of a list from index i on: its element there, and the rest
  pub drop_at : (xs : List A) (i : ℕ) (d : A) → i < length xs → drop i xs ≡ get_or xs i d ∷ drop (i + 1) xs
  drop_at xs i d h = drop-cons xs i d h ∙ ap (λ (k : ℕ). get_or xs i d ∷ drop k xs) (sym (add-one i))

  module _ (t : A → Bool) (d : A) where
    pub every-at : (xs : List A) (i : ℕ) → every t xs ≡ true → i < length xs → t (get_or xs i d) ≡ true
    unfolding every
    every-at [] i e h = absurd (omega arith)
    every-at (x ∷ xs) zero e h = (and_split (t x) (every t xs) e).0
    every-at (x ∷ xs) (suc i) e h = every-at xs i (and_split (t x) (every t xs) e).1 (omega arith)

    module _ (xs : List A) (i : ℕ) (q : Bool) (e : every t (drop i xs) ≡ q) where
      here : i < length xs → (t (get_or xs i d) && every t (drop (i + 1) xs)) ≡ q
      unfolding every
      here h = sym (ap (every t) (drop_at xs i d h)) ∙ e

      pub every_yes : i < length xs → t (get_or xs i d) ≡ true → every t (drop (i + 1) xs) ≡ q
      every_yes h b = and_yes (t (get_or xs i d)) (every t (drop (i + 1) xs)) (every t (drop (i + 1) xs)) b refl ∙ here h

      pub every-no : i < length xs → t (get_or xs i d) ≡ false → false ≡ q
      every-no h b = and_no (t (get_or xs i d)) (every t (drop (i + 1) xs)) b ∙ here h

      pub every-end : length xs ≤ i → true ≡ q
      unfolding every
      every-end h = sym (ap (every t) (drop_of_length-le xs {i = i} h)) ∙ e

-- an element of a list's image
pub get_d_map_in : {A B : Type 0} (f : A → B) (xs : List A) (j : ℕ) (d : A) (e : B) → j < length xs → get_or (map f xs) j e ≡ f (get_or xs j d)
get_d_map_in f [] j d e h = absurd (omega arith)
get_d_map_in f (x ∷ xs) zero d e h = refl
get_d_map_in f (x ∷ xs) (suc j) d e h = get_d_map_in f xs j d e (omega arith)
