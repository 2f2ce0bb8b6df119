-- `hash::absorb`: the chaining words after the blocks that came, and what is left of the message.
use Rattle.std.proofs.Common.{◌≡◌, ◌*◌, length, drop}
use Rattle.digest.specs.Chaining.{blocks}
use Rattle.hash.specs.Hash.{compression_of, chain}
use Rattle.hash.proofs.absorb.Given as goal

abbrev pub invariant-loop-block : goal.invariant-loop-block
invariant-loop-block l =
    (l.block-iterator.size ≡ 64) × (l.block-iterator.rest.now ≡ drop (64 * length l.yielded) l.m)
    × (chain l.hash l.v ≡ blocks (compression_of l.hash) (chain l.hash l.fn.s) l.m (length l.yielded))
