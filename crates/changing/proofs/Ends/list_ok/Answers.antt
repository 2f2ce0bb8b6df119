use mathlib.Core.Path.{◌≡◌, ap}
use Prim.Native.Nat.{ℕ, ◌+◌, ◌*◌}
use native.Mathlib.Omega.{arith}
use lib.Dec.{eqb}
use lib.ListN.{length}
use Rattle.rules.specs.Calls.{list_ok}
use Rattle.rules.specs.Sectors.{slot_count, entry_bytes}
use Rattle.header.specs.Records.{facts_in}
use Rattle.changing.proofs.Ends.list_ok.Goals as goal

pub returns : goal.returns
unfolding list_ok
returns c =
    let a = c.args in
    let f = facts_in a.drive.image.now in
    let e : c.list_bytes.result + c.list_bytes-2.result ≡ (slot_count f a.self.to.number + slot_count f a.self.from.number) * entry_bytes
    = omega (arith, c.list_bytes.ensures.0, c.list_bytes-2.ensures.0) in
    ap (λ (n : ℕ). eqb (length a.list.now) n) e
