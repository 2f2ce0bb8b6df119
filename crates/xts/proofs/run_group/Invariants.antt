use Rattle.std.proofs.Common.{◌≡◌, ℕ, ◌+◌, ◌*◌, min, List, ◌++◌, length, take, drop}
use Rattle.suite.specs.Units.{in_units}
use Rattle.xts.specs.Keys.{Under}
use Rattle.xts.proofs.run_group.Given as goal

abbrev pub invariant-loop-i : goal.invariant-loop-i
invariant-loop-i g l =
    let at = min (512 * l.i) (length l.fn.s) in
    (f : ℕ → List ℕ → List ℕ) → Under g.D.Direction.forward l.keys.rounds l.keys.blocks.now l.keys.tweaks.now f
    → take at l.s ++ in_units f (l.first + l.i) (drop at l.s) ≡ in_units f l.first l.fn.s
