-- `digest::store`: the bytes of a word more, and the end.
use Rattle.std.proofs.Common.{◌≡◌, ◌∙◌, length, arith, refl, ap, sym, take_all, rules}
use Rattle.digest.specs.Chaining.{digest}
use Rattle.digest.proofs.ChainingLaws.{digest_more}
use Rattle.digest.proofs.store.Goals as goal

pub loop-i-init : goal.loop-i-init
unfolding digest
loop-i-init c = (refl, refl)

pub loop-i-preserved : goal.loop-i-preserved
loop-i-preserved c =
    let l : length c.args.s ≡ 8 = search rules in (
      c.copy_into.auto.d ∙ c.loop-i.invariant.0,
      digest_more c.args.s c.loop-i.d c.copy_into.new.d c.be32.result c.loop-i.i (omega arith) (omega arith) c.loop-i.invariant.1 c.be32.ensures c.copy_into.ensures,
    )

pub returns : goal.returns
returns c =
    let l : length c.args.s ≡ 8 = search rules in
    let e : c.loop-i.i ≡ 8 = omega arith in
    sym (take_all 32 c.loop-i.d (omega arith)) ∙ (rw e at c.loop-i.invariant.1) ∙ ap digest (take_all 8 c.args.s (omega arith))
