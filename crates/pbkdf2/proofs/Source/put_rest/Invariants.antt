-- `pbkdf2::Source::put_rest`: the first j blocks are in out, cropped at its end, and their values were made.
use Rattle.std.proofs.Common.{◌≡◌, ◌<◌, ◌*◌, ◌^◌, length}
use Rattle.hash.specs.Hash.{compression_of, chain}
use Rattle.pbkdf2.specs.Words.{Holds}
use Rattle.pbkdf2.proofs.Source.put_rest.Given as goal

abbrev pub invariant-loop-j : goal.invariant-loop-j
invariant-loop-j l =
    let s = l.fn.self in
    let h = l.fn.hash in
    (length l.out ≡ length l.fn.out) × Holds (compression_of h) (chain h s.key.inner) (chain h s.key.outer) s.salt.now s.count l.j l.out
    × (l.blocks < 2 ^ 32) × (l.made ≡ s.count * l.j)
