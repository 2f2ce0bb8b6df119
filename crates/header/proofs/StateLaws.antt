-- The tests of a slot's state in code are those of its number.
use mathlib.Core.Path.{◌≡◌, refl, sym, ap₂}
use mathlib.Core.Bool.{Bool, true, false, ◌&&◌, ◌||◌, not, cond}
use Prim.Native.Nat.{ℕ}
use lib.Dec.{eqb, leb}
use borrow.Author.Tests.{eqb-true}
use Rattle.rules.specs.Facts.{enabled, disabled}
use Rattle.rules.specs.Header.{record_ok}
use Rattle.header.specs.declared.slot.SlotState.TheVariants.{Enabled, Disabled, Unknown}
use Rattle.header.specs.States.{state_of, state_number, is_state_enabled, is_state_known, is_record_ok}

-- by the two tests of the number
enabled_by : (a b : Bool) (n : ℕ) → is_state_enabled (cond a Enabled (cond b Disabled (Unknown n))) ≡ a
enabled_by true b n = refl
enabled_by false true n = refl
enabled_by false false n = refl

known_by : (a b : Bool) (n : ℕ) → is_state_known (cond a Enabled (cond b Disabled (Unknown n))) ≡ (a || b)
known_by true b n = refl
known_by false true n = refl
known_by false false n = refl

pub enabled_state : (n : ℕ) → is_state_enabled (state_of n) ≡ eqb n enabled
enabled_state n = enabled_by (eqb n enabled) (eqb n disabled) n

number_by : (a b : Bool) (n : ℕ) → eqb n enabled ≡ a → eqb n disabled ≡ b → state_number (cond a Enabled (cond b Disabled (Unknown n))) ≡ n
number_by true b n e f = sym (eqb-true n enabled e)
number_by false true n e f = sym (eqb-true n disabled f)
number_by false false n e f = refl

-- a state's number is the record's: nothing is lost
pub number_state : (n : ℕ) → state_number (state_of n) ≡ n
number_state n = number_by (eqb n enabled) (eqb n disabled) n refl refl

known_state : (n : ℕ) → is_state_known (state_of n) ≡ (eqb n enabled || eqb n disabled)
known_state n = known_by (eqb n enabled) (eqb n disabled) n

pub record_state : (state count n : ℕ) → is_record_ok (state_of state) count n ≡ record_ok state count n
unfolding is_record_ok record_ok
record_state state count n =
    ap₂ (λ (k a : Bool). k && (leb 1 n && (leb n 4000 && (not a || not (eqb count 0))))) (known_state state) (enabled_state state)
