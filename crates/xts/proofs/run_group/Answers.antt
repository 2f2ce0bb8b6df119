-- The parts before i are done.
use Rattle.std.proofs.Common.{◌+◌, length, refl, arith, rules}
use Rattle.xts.specs.Keys.{tweak_bytes}
use Rattle.xts.proofs.UnitLaws.{unit_last}
use Rattle.xts.proofs.GroupLaws.{unit_under, no_part, next_unit}
use Rattle.xts.proofs.run_group.Goals as goal

pub loop-i-init : goal.loop-i-init
loop-i-init g c = λ f u. no_part f c.args.first _ _ c.args.s.now (omega arith) (omega arith)

pub loop-i-preserved : goal.loop-i-preserved
loop-i-preserved g c = λ f u.
    let l = c.loop-i in
    let a = c.args in
    next_unit f a.first (length a.s.now) l.i c.min-k.result l.s c.run_blocks.new.s _ (search rules) (omega arith) (omega arith) (search rules)
    (unit_under g.D.Direction.forward a.keys.rounds a.first l.i (a.first + l.i) a.keys.blocks.now a.keys.tweaks.now c.first_tweaks-t.result (tweak_bytes c.tweak_at.result)
    c.run_blocks.new.s _ f u c.first_tweaks-t.ensures (omega arith) refl (omega arith) c.tweak_at.ensures c.run_blocks.ensures)
    (l.invariant f u)

pub returns : goal.returns
returns g c = λ f u. unit_last f _ _ c.loop-i.s _ (omega arith) (c.loop-i.invariant f u)
