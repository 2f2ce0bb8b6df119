use Rattle.std.proofs.Common.{◌≡◌, length}
use Rattle.octets.specs.Splice.{splice}
use Rattle.rules.specs.Sectors.{sectors_from, encoded}
use Rattle.sectors.proofs.put_sectors.Given as goal

abbrev pub invariant-loop-i : goal.invariant-loop-i
invariant-loop-i l =
    (length l.list ≡ length l.initial.list) × (l.list ≡ splice l.initial.list l.at (encoded (sectors_from l.image l.area.start.0 l.i)))
