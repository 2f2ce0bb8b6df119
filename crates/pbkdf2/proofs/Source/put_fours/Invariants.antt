-- `pbkdf2::Source::put_fours`: the first 4 g blocks are in out, cropped at its end, and their values were made.
use Rattle.std.proofs.Common.{◌≡◌, ◌*◌, length, take}
use Rattle.sha_1.specs.Sha1.{compression}
use Rattle.pbkdf2.specs.Words.{Holds}
use Rattle.pbkdf2.proofs.Source.put_fours.Given as goal

abbrev pub invariant-loop-g : goal.invariant-loop-g
invariant-loop-g l =
    let s = l.fn.self in
    (length l.out ≡ length l.fn.out) × Holds compression (take 5 s.key.inner) (take 5 s.key.outer) s.salt.now s.count (4 * l.g) l.out
    × (l.made ≡ s.count * (4 * l.g))
