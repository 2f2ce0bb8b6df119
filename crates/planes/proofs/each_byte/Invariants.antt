use Rattle.std.proofs.Common.{◌≡◌, List, ℕ, length}
use Rattle.bitslice.specs.Words.{ones}
use Rattle.planes.proofs.CellLaws.{Cells}
use Rattle.planes.proofs.each_byte.Given as goal

abbrev pub invariant-loop-p : goal.invariant-loop-p
invariant-loop-p g l =
    (f : ℕ → List ℕ → List ℕ) → ((x : List ℕ) → length (f ones x) ≡ 8) → ((x y : List ℕ) → goal.F-post g l.circuit x y → y ≡ f ones x) → Cells f l.fn.q l.p l.q
