use Rattle.std.proofs.Common.{◌≡◌, ◌*◌, length, take}
use Rattle.lanes.proofs.LanesLaws.{lane_digests}
use Rattle.lanes.proofs.store.Given as goal

-- the bytes of the first i lanes are in the array
abbrev pub invariant-loop-i : goal.invariant-loop-i
invariant-loop-i l = record { long : length l.d ≡ 80; first : take (20 * l.i) l.d ≡ lane_digests l.s l.i }
