-- `pbkdf2::words::iterate`: the last value, the exclusive or of all so far, and how many were made.
use Rattle.std.proofs.Common.{◌≡◌, ◌-◌}
use Rattle.pbkdf2.specs.Words.{prf_words}
use Rattle.pbkdf2.proofs.Pbkdf2Laws.{Values}
use Rattle.pbkdf2.proofs.words.iterate.Given as goal

abbrev pub invariant-loop-k : goal.invariant-loop-k
invariant-loop-k g l = Values (prf_words g.C.Compression.compression l.fn.inner l.fn.outer) l.fn.first l.k l.u l.t × (l.made ≡ l.k - 1)
