use mathlib.Core.Path.{◌≡◌, subst}
use Prim.Native.Nat.{ℕ, ◌+◌, ◌-◌}
use native.Mathlib.Omega.{arith}
use Rattle.rules.specs.Facts.{slot_of}
use Rattle.rules.proofs.ArgumentLaws.{number_in}
use Rattle.header.specs.Records.{facts_in, IsSlot}
use Rattle.header.proofs.head.Head.slot.Goals as goal

pub overflow_sub-slot : goal.overflow_sub-slot
overflow_sub-slot c = (number_in c.args.slot.number c.args.slot.in_range).0

pub slot_at-requires : goal.slot_at-requires
slot_at-requires c =
    let n = number_in c.args.slot.number c.args.slot.in_range in
    omega (arith, n.0, n.1)

pub returns : goal.returns
returns c =
    let k = c.args.slot.number in
    let e : k - 1 + 1 ≡ k = omega (arith, (number_in k c.args.slot.in_range).0) in
    subst (λ (j : ℕ). IsSlot c.slot_at.result (slot_of (facts_in c.args.self.image.now) j)) e c.slot_at.ensures
