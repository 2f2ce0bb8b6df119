-- `pbkdf2::words::iterate`: the first value, and one more.
use Rattle.std.proofs.Common.{◌≡◌, refl, arith}
use Rattle.pbkdf2.proofs.Pbkdf2Laws.{one_value, more_values}
use Rattle.pbkdf2.proofs.words.iterate.Goals as goal

pub loop-k-init : goal.loop-k-init
loop-k-init g c = (one_value _ _, refl)

pub loop-k-preserved : goal.loop-k-preserved
loop-k-preserved g c =
    let l = c.loop-k in
    (more_values l.invariant.0 c.prf_words-v.ensures c.xor_words-x.ensures, omega (arith, l.invariant.0.some, l.invariant.1))

pub returns : goal.returns
returns g c =
    let e : c.loop-k.k ≡ c.args.count = omega arith in
    (rw e at c.loop-k.invariant.0.sum, rw e at c.loop-k.invariant.1)
