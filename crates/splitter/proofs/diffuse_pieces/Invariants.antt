-- `splitter::diffuse_pieces`: the pieces that are done, and what is made of the rest, are together what is wanted.
use Rattle.std.proofs.Common.{◌≡◌, ◌++◌, ◌*◌, length, take, drop}
use Rattle.octets.specs.Pieces.{in_pieces}
use Rattle.hash.specs.Hash.{digest_of}
use Rattle.splitter.specs.Diffuse.{piece_digest, diffuse}
use Rattle.splitter.proofs.diffuse_pieces.Given as goal

abbrev pub invariant-loop-i : goal.invariant-loop-i
invariant-loop-i l =
    let H = digest_of l.fn.hash in
    (length l.d ≡ length l.fn.d)
    × (take (l.size * l.i) l.d ++ in_pieces H.size (piece_digest H) l.i (drop (l.size * l.i) l.d) ≡ diffuse H l.fn.d)
