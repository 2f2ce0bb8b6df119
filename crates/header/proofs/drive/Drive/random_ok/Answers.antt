use mathlib.Core.Path.{ap₂}
use Prim.Native.Nat.{ℕ, ◌-◌, ◌*◌}
use native.Mathlib.Omega.{arith}
use lib.Dec.{eqb}
use lib.ListN.{length}
use Rattle.rules.specs.Calls.{random_ok}
use Rattle.header.proofs.SoundLaws.{sound}
use Rattle.header.proofs.drive.Drive.random_ok.Goals as goal

pub overflow_sub-result : goal.overflow_sub-result
overflow_sub-result c =
    let s = (sound c.args.self.image.now c.args.self.accepted).slot c.args.slot.number c.args.slot.in_range in
    omega (arith, c.slot.ensures.stripes_is, s.stripes_least)

pub returns : goal.returns
unfolding random_ok
returns c = ap₂ (λ (n L : ℕ). eqb (length c.args.random.now) ((n - 1) * L)) c.slot.ensures.stripes_is c.key_bytes.ensures.0
