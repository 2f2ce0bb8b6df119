use mathlib.Core.Path.{◌≡◌}
use native.Mathlib.Omega.{arith}
use lib.ListN.{length}
use Rattle.std.proofs.Common.{rules}
use Rattle.rules.proofs.ArgumentLaws.{number_in}
use Rattle.slots.proofs.put_head.Goals as goal

pub overflow_sub-slot : goal.overflow_sub-slot
overflow_sub-slot c = (number_in c.args.slot.number c.args.slot.in_range).0

pub record_at-at-requires : goal.record_at-at-requires
record_at-at-requires c =
    let n = number_in c.args.slot.number c.args.slot.in_range in
    omega (arith, n.0, n.1)

pub copy_into-requires : goal.copy_into-requires
copy_into-requires c =
    let n = number_in c.args.slot.number c.args.slot.in_range in
    let l : length c.record_head.result ≡ 40 = search rules in
    omega (arith, n.0, n.1, c.requires, c.record_at-at.ensures, l)
