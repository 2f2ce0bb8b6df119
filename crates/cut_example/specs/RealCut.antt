-- A change of the built suite, cut: the last call of the list on the built drive (`Real.antt` of `example`), which is a change from slot 2 to slot 3.
use Rattle.std.specs.Prelude.{◌≡◌, List, [], ◌∷◌, ◌++◌, ℕ, take}
use Rattle.rules.specs.Calls.{Call, change}
use Rattle.rules.specs.Step.{step}
use Rattle.profiles.specs.Suites.{built}
use Rattle.ledger.specs.Demand3.{last_image, last_ledger}
use Rattle.cuts.specs.CutSafe.{CutSafe}
use Rattle.example.specs.Example.{two, change_buffer}
use Rattle.example.specs.Real.{real_input, real_image, slot_three, filler, real_calls}

-- the calls before it
unfoldable pub calls_before : List Call
calls_before = take 9 real_calls

-- the change
unfoldable pub real_change : Call
real_change = change 2 two 3 slot_three filler change_buffer

-- the theorem's hypotheses are met, and what it says then
pub record RealCut : Type 0 where
  pub list_is : real_calls ≡ calls_before ++ (real_change ∷ [])
  pub accepted : (step built (last_image built real_input real_image calls_before) real_change).said.code ≡ 0
  pub safe : CutSafe built (last_image built real_input real_image calls_before) (last_ledger built real_input real_image calls_before) real_change
