use mathlib.Core.Path.{ap}
use Prim.Native.Nat.{ℕ, ◌+◌, ◌*◌}
use native.Mathlib.Omega.{arith}
use Rattle.rules.specs.Sectors.{slot_count}
use Rattle.sectors.proofs.list_bytes.Goals as goal

pub returns : goal.returns
unfolding slot_count
returns c =
    let a = c.area_of-a.ensures in
    (ap (λ (n : ℕ). (n + 2) * 516) a.0.count_is, omega (arith, a.1))
