-- `hash::finish_words`: the buffer is what is left over whole blocks, and the padding.
use Rattle.std.proofs.Common.{◌≡◌, length, refl, rules}
use Rattle.octets.specs.Octets.{zeros}
use Rattle.digest.proofs.ChainingLaws.{finish-padded}
use Rattle.hash.specs.Hash.{compression_of, chain}
use Rattle.hash.proofs.finish_words.Goals as goal

pub returns : goal.returns
unfolding zeros
returns c =
    let l : length c.copy_into-2.new.d ≡ 128 = search rules in
    finish-padded (compression_of c.args.hash) (chain c.args.hash c.args.s) c.args.m.now c.args.t.now c.args.n
    c.requires.0 c.requires.1 refl refl refl
    c.absorb-v.ensures c.be64-bits.ensures c.copy_into.ensures c.copy_into-2.ensures l c.copy_into-3.ensures c.absorb.ensures
