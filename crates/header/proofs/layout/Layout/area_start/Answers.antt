use mathlib.Core.Path.{◌≡◌, refl, ◌∙◌}
use native.Mathlib.Omega.{arith}
use Rattle.rules.specs.Layout.{area_start, round_up}
use Rattle.header.proofs.SlotLaws.{start-next}
use Rattle.header.proofs.layout.Layout.area_start.Goals as goal

pub loop-init : goal.loop-init
unfolding area_start round_up
loop-init c = (refl, omega arith)

pub overflow_add-start : goal.overflow_add-start
overflow_add-start c = record { fits = omega (arith, c.loop.invariant.1, c.area_sectors-size.ensures.1) }

pub round_up-start-requires : goal.round_up-start-requires
round_up-start-requires c = (omega arith, omega (arith, c.loop.invariant.1, c.area_sectors-size.ensures.1))

pub loop-preserved : goal.loop-preserved
loop-preserved c =
    let a = c.args in
    let l = c.loop in
    let z = c.area_sectors-size in
    let r = c.round_up-start in
    (r.ensures.0 ∙ start-next a.self.stripes a.self.key_bytes l.counter l.start z.result l.invariant.0 z.ensures.0, omega (arith, l.invariant.1, z.ensures.1, r.ensures.1))

pub returns : goal.returns
returns c =
    let l = c.loop in
    let e : l.counter ≡ c.args.k = omega arith in
    (rw e at l.invariant.0, omega arith)
