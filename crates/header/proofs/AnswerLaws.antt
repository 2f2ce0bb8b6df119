-- Answers of checks and calls: what leaves by `?`, and bytes compared by `==`.
use mathlib.Core.Path.{◌≡◌, refl, ap}
use mathlib.Core.Logic.{◌≢◌}
use mathlib.Core.List.{List, [], ◌∷◌}
use mathlib.Core.Bool.{Bool, ◌&&◌}
use Prim.Native.Nat.{ℕ}
use native.Mathlib.Omega.{arith}
use lib.Dec.{eqb}
use lib.Pointwise.{pointwise}
use Rattle.std.specs.Prelude.{Result, Ok, Err, IsErrAnd}
use Rattle.octets.specs.Octets.{same}
use Rattle.header.specs.declared.refusal.Refusal.{Refusal}
use Rattle.header.specs.declared.refusal.Refusal.TheVariants.{ImageSize, Magic, Version, NoProfile, BadRecord, BadArea}
use Rattle.header.specs.declared.refusal.Refusal.TheVariants.{UnknownProfile, BadStripes, KeyLength, LowCount, BadUuid, ShortImage}
use Rattle.header.specs.declared.refusal.Refusal.TheVariants.{BadSlot, BadPassphrase, WrongState, BadLength, WrongKey, LastSlot, BadRange, BadBuffer}
use Rattle.header.specs.declared.refusal.Refused.{Refused}
use Rattle.header.specs.Refusals.{number, checked, answered, values_of}

-- no refusal has the number of an accepted call
pub number_some : (r : Refusal) → number r ≢ 0
number_some ImageSize q = omega arith
number_some Magic q = omega arith
number_some Version q = omega arith
number_some NoProfile q = omega arith
number_some BadRecord q = omega arith
number_some BadArea q = omega arith
number_some UnknownProfile q = omega arith
number_some BadStripes q = omega arith
number_some KeyLength q = omega arith
number_some LowCount q = omega arith
number_some BadUuid q = omega arith
number_some ShortImage q = omega arith
number_some BadSlot q = omega arith
number_some BadPassphrase q = omega arith
number_some WrongState q = omega arith
number_some BadLength q = omega arith
number_some WrongKey q = omega arith
number_some LastSlot q = omega arith
number_some BadRange q = omega arith
number_some BadBuffer q = omega arith

-- a check's refusal, out of a check
pub checked_err : {A : Type 0} (r : Result A Refusal) (e : Refusal) → IsErrAnd r (λ x. x ≡ e) → checked r ≡ number e
checked_err (Ok x) e h = absurd h
checked_err (Err x) e h = ap number h

-- a check's refusal, out of a call: it made no value of HMAC
pub answered_err : {A : Type 0} (r : Result A Refused) (e : Refusal) → IsErrAnd r (λ f. f ≡ record { refusal = e; values = 0 }) → answered r ≡ number e
answered_err (Ok x) e h = absurd h
answered_err (Err f) e h = ap (λ (g : Refused). number g.refusal) h

pub values_err : (r : Result ℕ Refused) (e : Refusal) → IsErrAnd r (λ f. f ≡ record { refusal = e; values = 0 }) → values_of r ≡ 0
values_err (Ok x) e h = absurd h
values_err (Err f) e h = ap (λ (g : Refused). g.values) h

-- a call's refusal, out of a call
pub answered_as : {A : Type 0} (r : Result A Refused) (e : Refused) → IsErrAnd r (λ f. f ≡ e) → answered r ≡ number e.refusal
answered_as (Ok x) e h = absurd h
answered_as (Err f) e h = ap (λ (g : Refused). number g.refusal) h

pub values_as : (r : Result ℕ Refused) (e : Refused) → IsErrAnd r (λ f. f ≡ e) → values_of r ≡ e.values
values_as (Ok x) e h = absurd h
values_as (Err f) e h = ap (λ (g : Refused). g.values) h

-- `==` of bytes is the rules' test
pub bytes_same : (x y : List ℕ) → pointwise eqb x y ≡ same x y
unfolding same
bytes_same [] [] = refl
bytes_same [] (b ∷ y) = refl
bytes_same (a ∷ x) [] = refl
bytes_same (a ∷ x) (b ∷ y) = ap (λ (t : Bool). eqb a b && t) (bytes_same x y)
