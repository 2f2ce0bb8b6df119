-- The numbers before b are stored.
use Rattle.std.proofs.Common.{ℕ, List, replicate, ◌+◌, ◌%◌, ◌^◌, refl, ap, ◌∙◌, arith, rules}
use Rattle.aes.specs.Aes.{cipher}
use Rattle.xts.specs.Xts.{unit_block}
use Rattle.xts.specs.Keys.{Firsts}
use Rattle.xts.proofs.TweakLaws.{unit_tweak}
use Rattle.xts.proofs.GroupLaws.{stored_none, stored_more, two-columns, four-columns-of}
use Rattle.xts.proofs.first_tweaks.Goals as goal

pub loop-b-init : goal.loop-b-init
loop-b-init c = let z : List ℕ = replicate 128 0 in stored_none (λ m. unit_block ((c.args.first + m) % 2 ^ 64)) z refl

pub loop-b-preserved : goal.loop-b-preserved
loop-b-preserved c =
    let l = c.loop-b in
    let f = c.args.first in
    let m = (f + l.b) % 2 ^ 64 in
    stored_more (λ m. unit_block ((f + m) % 2 ^ 64)) l.q l.b _ _ _ _ (search rules)
    (four-columns-of _ _ _ _ m 0 c.columns.ensures (two-columns 0) ∙ unit_tweak m) l.invariant

pub returns : goal.returns
unfolding Firsts
returns c = λ v s b h. c.encrypt_blocks.ensures v s b h ∙ ap (cipher c.args.keys.rounds v) (c.loop-b.invariant.new b (omega arith))
