-- `pbkdf2::Source::iterate_lanes`: a turn more in each lane, and at the end each lane has its sum.
use Rattle.std.proofs.Common.{◌≡◌, ◌≤◌, ◌<◌, ◌∙◌, ◌-◌, ℕ, List, take, ap₂, refl, arith, rules}
use Rattle.sha_1.specs.Sha1.{compression}
use Rattle.lanes.specs.Lanes.{lane}
use Rattle.pbkdf2.specs.Pbkdf2.{folded}
use Rattle.pbkdf2.specs.Words.{prf_words}
use Rattle.pbkdf2.proofs.Pbkdf2Laws.{one_value, more_values}
use Rattle.pbkdf2.proofs.Source.iterate_lanes.Goals as goal

pub loop-j-init : goal.loop-j-init
loop-j-init c = (refl, (λ i h. one_value _ _), refl)

pub loop-j-preserved : goal.loop-j-preserved
loop-j-preserved c =
    let l = c.loop-j in
    let v = c.prf_lanes-v in
    (v.ensures.0, (λ i h. more_values (l.invariant.1 i h) (v.ensures.1 i h) (c.xor-x.ensures i h)), omega (arith, l.invariant.2))

pub returns : goal.returns
returns c =
    let l = c.loop-j in
    let s = c.args.self.now in
    let some : 1 ≤ s.count = search rules in
    let e : l.j ≡ s.count = omega arith in
    let sum : (i : ℕ) → i < 4 → lane i l.t ≡ folded (prf_words compression (take 5 s.key.inner) (take 5 s.key.outer)) (lane i c.args.first) (s.count - 1) = λ i h.
    (rw e at (l.invariant.1 i h).sum)
    ∙ ap₂ (λ (x y : List ℕ). folded (prf_words compression x y) (lane i c.args.first) (s.count - 1)) (c.broadcast-inners.ensures i h) (c.broadcast-outers.ensures i h) in
    (rw (sum 0 (omega arith), sum 1 (omega arith), sum 2 (omega arith), sum 3 (omega arith)) at c.store.ensures, rw e at l.invariant.2)
