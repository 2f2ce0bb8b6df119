-- `octets::xor_into`: what is done before the index, and what is left behind it, make the whole.
use Rattle.std.proofs.Common.{◌≡◌, ◌++◌, take, drop}
use Rattle.octets.specs.Octets.{xors}
use Rattle.octets.proofs.xor_into.Given as goal

abbrev pub invariant-loop-i : goal.invariant-loop-i
invariant-loop-i l = take l.i l.d ++ xors (drop l.i l.d) (drop l.i l.b) ≡ xors l.fn.d l.b
