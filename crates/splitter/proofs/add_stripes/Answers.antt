-- `splitter::add_stripes`: a stripe more, and the end.
use Rattle.std.proofs.Common.{◌≡◌, ◌∙◌, ◌+◌, ◌-◌, ◌*◌, ℕ, length, take, drop, ap, arith}
use Rattle.octets.specs.Octets.{xors}
use Rattle.hash.specs.Hash.{digest_of}
use Rattle.suite.specs.Split.{running}
use Rattle.suite.proofs.SplitLaws.{running-step, running-end}
use Rattle.splitter.specs.Diffuse.{diffuse}
use Rattle.splitter.proofs.add_stripes.Goals as goal

pub loop-m-preserved : goal.loop-m-preserved
loop-m-preserved c =
    let a = c.args in
    let l = c.loop-m in
    let y = c.add_stripe in
    let L = length a.d.now in
    let H = diffuse (digest_of a.hash) in
    let k : l.m * L + L - l.m * L ≡ L = omega arith in
    let n : (l.m + 1) * L ≡ l.m * L + L = omega arith in (
      y.auto.d ∙ l.invariant.0,
      rw n
          (running-step H L l.m a.count (l.m * L) l.d y.new.d a.stripes.now (running H L a.d.now a.count a.stripes.now) (omega arith)
          (y.ensures ∙ ap (λ (i : ℕ). H (xors l.d (take i (drop (l.m * L) a.stripes.now)))) k) l.invariant.1),
    )

pub returns : goal.returns
returns c =
    let a = c.args in
    let l = c.loop-m in
    let L = length a.d.now in
    let H = diffuse (digest_of a.hash) in
    running-end H L l.m a.count l.d (drop (l.m * L) a.stripes.now) (running H L a.d.now a.count a.stripes.now) (omega arith) l.invariant.1
