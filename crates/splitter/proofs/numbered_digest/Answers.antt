-- `splitter::numbered_digest`: what is hashed is the number and the piece.
use Rattle.std.proofs.Common.{◌∙◌, ap}
use Rattle.octets.specs.Octets.{be32}
use Rattle.octets.proofs.OctetsLaws.{length-big_endian}
use Rattle.hash.specs.Hash.{digest_of}
use Rattle.splitter.proofs.DiffuseLaws.{put_two}
use Rattle.splitter.proofs.numbered_digest.Goals as goal

pub returns : goal.returns
returns c =
    let a = c.args in
    c.digest.ensures
    ∙ ap (digest_of a.hash).hash (put_two _ (be32 a.number) _ a.piece.now c.copy_into.new.d c.copy_into-2.new.d 4 (length-big_endian 4 a.number)
    c.be32.ensures c.copy_into.ensures c.copy_into-2.ensures)
