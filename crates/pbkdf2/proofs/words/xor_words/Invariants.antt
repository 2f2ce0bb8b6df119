-- `pbkdf2::words::xor_words`: what is done before the index, and what is left behind it, make the whole.
use Rattle.std.proofs.Common.{◌≡◌, ◌++◌, length, take, drop}
use Rattle.octets.specs.Octets.{xors}
use Rattle.pbkdf2.proofs.words.xor_words.Given as goal

abbrev pub invariant-loop-i : goal.invariant-loop-i
invariant-loop-i g l =
    (length l.y-items ≡ length l.fn.a) × (take l.i l.y-items ++ xors (drop l.i l.y-items) (drop l.i l.fn.b) ≡ xors l.fn.a l.fn.b)
