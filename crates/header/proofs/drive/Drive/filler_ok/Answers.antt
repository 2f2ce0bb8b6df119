use mathlib.Core.Path.{ap₂}
use Prim.Native.Nat.{ℕ, ◌*◌}
use lib.Dec.{eqb}
use lib.ListN.{length}
use Rattle.rules.specs.Calls.{filler_ok}
use Rattle.header.proofs.drive.Drive.filler_ok.Goals as goal

pub returns : goal.returns
unfolding filler_ok
returns c = ap₂ (λ (n L : ℕ). eqb (length c.args.filler.now) (n * L)) c.slot.ensures.stripes_is c.key_bytes.ensures.0
