-- A part of a list, and a list with a part replaced.
use Rattle.std.specs.Prelude.{List, ◌++◌, ℕ, ◌+◌, length, take, drop}

module _ {ℓ} {A : Type ℓ} where
  -- the n elements of l from index o
  unfoldable pub part : List A → ℕ → ℕ → List A
  part l o n = take n (drop o l)

  -- l with its elements from index o replaced by b's
  unfoldable pub splice : List A → ℕ → List A → List A
  splice l o b = take o l ++ (b ++ drop (o + length b) l)
