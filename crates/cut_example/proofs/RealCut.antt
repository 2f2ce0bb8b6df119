-- The built drive's change under Wish 5's theorem: its hypotheses are met.
use mathlib.Core.Path.{◌≡◌, refl, ap}
use mathlib.Core.List.{List, [], ◌∷◌, ◌++◌}
use Prim.Native.Nat.{ℕ}
use lib.ListN.{get_or}
use Rattle.rules.specs.Calls.{Call, Answer, done}
use Rattle.rules.specs.Step.{step, run}
use Rattle.profiles.specs.Suites.{built}
use Rattle.ledger.specs.Demand3.{Typed, AllTyped, last_image}
use Rattle.cuts.specs.CutSafe.{gives_list}
use Rattle.cuts.proofs.Built.{cut-safe-built}
use Rattle.example.specs.Example.{said}
use Rattle.example.specs.Real.{real_input, real_image, real_calls, real_answers}
use Rattle.example.proofs.Real.{both_drives}
use Rattle.cut_example.specs.RealCut.{calls_before, real_change, RealCut}

typed-split : (cs ds : List Call) → AllTyped (cs ++ ds) → AllTyped cs × AllTyped ds
typed-split [] ds t = (tt, t)
typed-split (c ∷ cs) ds t = let q = typed-split cs ds t.1 in ((t.0, q.0), q.1)

typed : AllTyped calls_before × AllTyped (real_change ∷ [])
unfolding calls_before real_change real_calls
typed = typed-split calls_before (real_change ∷ []) both_drives.new_drive.calls_typed

-- the list's last answer is the change's
accepted : (step built (last_image built real_input real_image calls_before) real_change).said.code ≡ 0
unfolding run calls_before real_change real_calls real_answers said
accepted = ap (λ (xs : List Answer). (get_or xs 9 done).code) both_drives.new_drive.answers_are

pub real_cut : RealCut
unfolding gives_list calls_before real_change real_calls
real_cut =
    record {
      list_is = refl;
      accepted = accepted;
      safe = cut-safe-built real_input both_drives.new_drive.input_typed real_image both_drives.new_drive.accepted calls_before typed.0 real_change refl typed.1.0 accepted;
    }
