-- The tweaks before b are stored.
use Rattle.std.proofs.Common.{ℕ, List, replicate, refl, ◌∙◌, arith, rules}
use Rattle.xts.specs.Keys.{tweak_bytes, tweak_at}
use Rattle.xts.proofs.GroupLaws.{stored_none, stored_more, tweak_next, four-columns-of}
use Rattle.xts.proofs.tweaks.Goals as goal

pub loop-b-init : goal.loop-b-init
unfolding tweak_at
loop-b-init c = let z : List ℕ = replicate 128 0 in (refl, stored_none (λ m. tweak_at m (tweak_bytes c.args.first)) z refl)

pub loop-b-preserved : goal.loop-b-preserved
unfolding tweak_bytes
loop-b-preserved c =
    let l = c.loop-b in
    let f = c.args.first in
    let x = c.columns in
    let y = c.columns-in-loop-b in (
      tweak_next l.b (tweak_bytes f) (tweak_bytes l.t) (tweak_bytes c.double-t.result) l.invariant.0 c.double-t.ensures,
      stored_more (λ m. tweak_at m (tweak_bytes f)) l.u l.b _ _ _ _ (search rules) (four-columns-of _ _ _ _ l.t.low l.t.high x.ensures y.ensures ∙ l.invariant.0) l.invariant.1,
    )

pub returns : goal.returns
returns c = λ b h. c.loop-b.invariant.1.new b (omega arith)
