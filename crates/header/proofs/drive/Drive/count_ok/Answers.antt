use mathlib.Core.Path.{ap}
use Prim.Native.Nat.{ℕ}
use lib.Dec.{leb}
use Rattle.rules.specs.Calls.{count_ok}
use Rattle.header.proofs.drive.Drive.count_ok.Goals as goal

pub returns : goal.returns
unfolding count_ok
returns c = ap (λ (n : ℕ). leb n c.args.count) c.profile.ensures.slot_count_is
