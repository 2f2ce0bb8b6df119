-- An array, mapped by a closure that only reads its argument.
use denote.Param.Members.{Mut}
use Rattle.std.proofs.Common.{arith, ◌≡◌, ◌∙◌, sym, ℕ, List, map, length}
use Rattle.std.proofs.lemmas.List.{ext_get_or, get_or-map, length-map}
use Rattle.std.specs.Fn.{Called}
use Rattle.std.specs.Array.{IsMapOf}

module _ {F A B : Type 0} {g : Mut F (A × Unit {0}) B} {f : F} {xs : List A} {ys : List B} {n : ℕ} (v : A → B) (a : A) (b : B) where
  pub mapped : ((p q : F) (x : A) (y : B) → Called g p (x, tt) y q → y ≡ v x) → length xs ≡ n → IsMapOf g f xs ys n → ys ≡ map v xs
  mapped h e m =
      ext_get_or b ys (map v xs) (m.long ∙ sym e ∙ sym (length-map xs v))
      (λ i l.
      let k = m.at i a b (omega (arith, m.long, l)) in
      h k.0 k.1 _ _ k.2 ∙ sym (get_or-map v xs i a b (omega (arith, m.long, e, l))))
