-- Each time round is five turns more.
use Rattle.std.proofs.Common.{◌≡◌, ◌+◌, ◌*◌, ℕ, refl, ap, ◌∙◌, arith}
use Rattle.digest.specs.Turns.{turns}
use Rattle.sha_1.specs.Turns.{turn}
use Rattle.sha_1.specs.Quarters.{number}
use Rattle.sha_1.proofs.RoundLaws.{five_more}
use Rattle.sha_1.proofs.twenty.Goals as goal

pub loop-i-init : goal.loop-i-init
unfolding turns
loop-i-init c = (omega arith, refl)

pub loop-i-preserved : goal.loop-i-preserved
loop-i-preserved c =
    let a = c.args in
    let l = c.loop-i in
    let r = c.five-u in
    let e : 20 * c.number-first.result + 5 * l.i ≡ 20 * number a.q + 5 * l.i = omega (arith, c.number-first.ensures.0) in (
      omega arith,
      five_more (a.w.now, a.s) (l.w, l.v) (r.new.w, r.result) (20 * number a.q) l.i l.invariant.1
          (r.ensures ∙ ap (λ (n : ℕ). turns turn (l.w, l.v) n 5) e),
    )
