use mathlib.Core.Path.{sym, ap, ◌∙◌}
use Prim.Native.Nat.{ℕ, ◌+◌, ◌*◌}
use native.Mathlib.Omega.{arith}
use mathlib.Core.Path.{refl}
use Rattle.octets.specs.Splice.{splice}
use Rattle.octets.proofs.SpliceLaws.{splice-nil}
use Rattle.rules.specs.Sectors.{sectors_from, encoded}
use Rattle.sectors.proofs.ListLaws.{run-put}
use Rattle.sectors.proofs.put_sectors.Goals as goal

pub loop-i-init : goal.loop-i-init
unfolding encoded sectors_from
loop-i-init c = (refl, sym (splice-nil c.args.list.now c.args.at))

pub loop-i-preserved : goal.loop-i-preserved
loop-i-preserved c =
    let a = c.args in
    let l = c.loop-i in (
      c.put_sector.auto.list ∙ l.invariant.0,
      run-put a.list.now a.image.now l.list _ a.at a.area.start.0 l.i
          (omega (arith, c.requires.1)) (omega (arith, c.requires.0.before, c.requires.0.inside, c.loop-i-test.true)) l.invariant.1
          (c.put_sector.ensures ∙ ap (λ (s : ℕ). splice l.list (a.at + l.i * 516) (encoded (sectors_from a.image.now s 1))) c.sector_at.ensures),
    )
