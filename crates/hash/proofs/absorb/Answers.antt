-- `hash::absorb`: a block more.
use Rattle.std.proofs.Common.{◌∙◌, ◌∷◌, [], length, refl, sym, rules, length-append}
use Rattle.digest.specs.Chaining.{blocks}
use Rattle.digest.proofs.ChainingLaws.{blocks_more}
use Rattle.hash.specs.Hash.{compression_of, chain}
use Rattle.hash.proofs.absorb.Goals as goal

pub loop-block-init : goal.loop-block-init
unfolding blocks
loop-block-init c = (search rules, search rules, refl)

pub loop-block-preserved : goal.loop-block-preserved
loop-block-preserved c =
    let l = c.loop-block in
    let came = c.in-Some.ensures.steps in
    let more =
    blocks_more (compression_of c.args.hash) (chain c.args.hash c.args.s) (chain c.args.hash l.v) (chain c.args.hash c.compress_block-u.result) c.args.m.now
    c.in-Some.block.now c.next.new.self.rest.now (length l.yielded) _ (length-append l.yielded (c.in-Some.block ∷ []))
    (sym l.invariant.1 ∙ came.1.0) (came.1.1 ∙ l.invariant.0) l.invariant.2 c.compress_block-u.ensures in
    (came.0 ∙ l.invariant.0, more.0, more.1)
