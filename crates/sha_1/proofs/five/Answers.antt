-- Each time round is a turn more.
use Rattle.std.proofs.Common.{◌≡◌, ◌+◌, ◌/◌, refl, ap, ◌∙◌, arith}
use Rattle.digest.specs.Turns.{turns}
use Rattle.sha_1.specs.Sha1.{k}
use Rattle.sha_1.specs.Quarters.{number}
use Rattle.sha_1.proofs.RoundLaws.{turn_more}
use Rattle.sha_1.proofs.five.Goals as goal

pub loop-j-init : goal.loop-j-init
unfolding turns
loop-j-init c = (omega arith, refl)

pub loop-j-preserved : goal.loop-j-preserved
loop-j-preserved c =
    let a = c.args in
    let l = c.loop-j in
    let x = c.word-x in
    let e : (a.t + l.j) / 20 ≡ number a.q = omega arith in
    let ek : c.round_constant-c.result ≡ k (number a.q) = c.round_constant-c.ensures ∙ ap k c.number.ensures.0 in (
      omega arith,
      turn_more (a.w.now, a.s) l.w x.new.w l.v c.step-u.result a.t l.j (number a.q) x.result c.function.result c.round_constant-c.result
          l.invariant.1 e x.ensures.0 x.ensures.1 c.function.ensures ek c.step-u.ensures,
    )
