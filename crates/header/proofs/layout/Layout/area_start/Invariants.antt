-- the start so far is that of the area of the loop's turn
use Rattle.std.proofs.Common.{◌≡◌, ◌+◌, ◌*◌, ◌≤◌}
use Rattle.rules.specs.Layout.{area_start}
use Rattle.header.proofs.layout.Layout.area_start.Given as goal

abbrev pub invariant-loop : goal.invariant-loop
invariant-loop l = (l.start ≡ area_start l.fn.self.stripes l.fn.self.key_bytes l.counter) × (l.start ≤ 8 + l.counter * 512)
