use mathlib.Core.Path.{ap}
use Prim.Native.Nat.{ℕ}
use lib.Dec.{eqb}
use lib.ListN.{length}
use Rattle.rules.specs.Calls.{list_ok}
use Rattle.sectors.proofs.list_ok.Goals as goal

pub returns : goal.returns
unfolding list_ok
returns c = ap (λ (n : ℕ). eqb (length c.args.list.now) n) c.list_bytes.ensures.0
