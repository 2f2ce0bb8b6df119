use mathlib.Core.Path.{ap}
use Prim.Native.Nat.{ℕ}
use lib.Dec.{eqb}
use lib.ListN.{length}
use Rattle.rules.specs.Calls.{key_ok}
use Rattle.header.proofs.drive.Drive.key_ok.Goals as goal

pub returns : goal.returns
unfolding key_ok
returns c = ap (λ (n : ℕ). eqb (length c.args.key.now) n) c.key_bytes.ensures.0
