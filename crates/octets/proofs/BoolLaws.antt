-- Laws of tests: how code's early returns meet a conjunction or a disjunction.
use mathlib.Core.Path.{◌≡◌, refl, sym, ◌∙◌}
use mathlib.Core.Bool.{Bool, true, false, ◌&&◌, ◌||◌, not}
use Prim.Native.Nat.{ℕ}
use native.Mathlib.Omega.{arith}
use borrow.Author.Tests.{not-true, not-false}

-- a test b that a function returned as r: it holds where the code goes on behind `!r`, and fails where the code returns
pub holds : {r b : Bool} → r ≡ b → not r ≡ false → b ≡ true
holds {r} e n = sym e ∙ not-false r n

pub fails : {r b : Bool} → r ≡ b → not r ≡ true → b ≡ false
fails {r} e n = sym e ∙ not-true r n

-- the same where the checker says it of r itself, as it does where the test is the call
pub true_by : {r b : Bool} → r ≡ b → r ≡ true → b ≡ true
true_by e n = sym e ∙ n

pub false_by : {r b : Bool} → r ≡ b → r ≡ false → b ≡ false
false_by e n = sym e ∙ n

pub and_no : (a b : Bool) → a ≡ false → false ≡ (a && b)
and_no a b e = rw e

pub and_yes : (a b x : Bool) → a ≡ true → x ≡ b → x ≡ (a && b)
and_yes a b x e h = rw e h

pub or_yes : (a b : Bool) → a ≡ true → true ≡ (a || b)
or_yes a b e = rw e

pub or_no : (a b x : Bool) → a ≡ false → x ≡ b → x ≡ (a || b)
or_no a b x e h = rw e h

pub and_split : (a b : Bool) → (a && b) ≡ true → (a ≡ true) × (b ≡ true)
and_split true b h = (refl, h)
and_split false b h = absurd (let z : ◌≡◌ {A = ℕ} 0 1 = cc in omega arith)

pub and_both : (a b : Bool) → a ≡ true → b ≡ true → (a && b) ≡ true
and_both a b e f = rw (e, f)

pub and-false : (a b : Bool) → b ≡ false → (a && b) ≡ false
and-false true b e = e
and-false false b e = refl

pub or-not : (a b : Bool) → (not a || b) ≡ true → a ≡ true → b ≡ true
or-not true b h e = h
or-not false b h e = absurd (let z : ◌≡◌ {A = ℕ} 0 1 = cc in omega arith)

pub or_split : {A : Type 0} (a b : Bool) → (a || b) ≡ true → (a ≡ true → A) → (b ≡ true → A) → A
or_split true b h f k = f h
or_split false b h f k = k h

-- both at once never hold
pub no : {A : Type 0} → false ≡ true → A
no e = absurd (let z : ◌≡◌ {A = ℕ} 0 1 = cc in omega arith)
