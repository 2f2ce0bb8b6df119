-- `value` is a byte that stays below m.
use Rattle.std.proofs.Common.{◌<◌}
use Rattle.testing.proofs.sequence.Given as goal

abbrev pub invariant-loop-byte : goal.invariant-loop-byte
invariant-loop-byte l = l.value < l.fn.m
