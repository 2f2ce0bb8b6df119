-- What a test of a key says to a call.
use mathlib.Core.Path.{◌≡◌, ap}
use mathlib.Core.List.{List}
use mathlib.Core.Bool.{Bool, true, false, cond}
use Prim.Native.Nat.{ℕ, ◌^◌, ◌<◌}
use Rattle.std.specs.Prelude.{Ok, Err}
use Rattle.rules.specs.Facts.{Facts, matches}
use Rattle.rules.specs.Costs.{checksum_cost}
use Rattle.hmac.specs.declared.Counted.{Counted}
use Rattle.header.specs.declared.refusal.Refusal.TheVariants.{WrongKey}
use Rattle.slots.specs.Trials.{tested, IsTest, IsTested}

by_value : (b : Bool) (m : ℕ) (f : Facts) (key : List ℕ) → b ≡ matches f key → m ≡ checksum_cost f → m < 2 ^ 34
    → IsTested (cond b (Ok m) (Err (record { refusal = WrongKey; values = m }))) f key
by_value true m f key e v w = record { number_is = ap (λ (x : Bool). cond x 0 17) e; values_are = v; values_few = w }
by_value false m f key e v w = record { number_is = ap (λ (x : Bool). cond x 0 17) e; values_are = v; values_few = w }

pub tested_is : (t : Counted Bool) (f : Facts) (key : List ℕ) → IsTest t f key → IsTested (tested t) f key
tested_is t f key h = by_value t.value t.made f key h.matches_is h.values_are h.values_few
