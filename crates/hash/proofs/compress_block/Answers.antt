-- `hash::compress_block`: the words of the block, compressed.
use Rattle.digest.specs.Chaining.{compress_block}
use Rattle.hash.proofs.compress_block.Goals as goal

pub returns : goal.returns
unfolding compress_block
returns c = cc
