-- `lanes::store` meets its contract.
use Rattle.std.proofs.Common.{◌≡◌, length, take, refl, ap, ◌∙◌, arith, length-take-le, rules}
use Rattle.digest.specs.Chaining.{digest}
use Rattle.digest.proofs.ChainingLaws.{take-digest}
use Rattle.lanes.specs.Lanes.{lane}
use Rattle.lanes.proofs.LanesLaws.{lane_digests, digests_more, digests_end}
use Rattle.lanes.proofs.store.Goals as goal

pub loop-i-init : goal.loop-i-init
unfolding lane_digests
loop-i-init c = record { long = refl; first = refl }

pub loop-i-preserved : goal.loop-i-preserved
loop-i-preserved c =
    let l = c.loop-i in
    let t = c.args.s in
    let p = c.copy_into in
    let s = c.store-b in
    let x = c.lane in
    let lx : length x.result ≡ 8 = search rules in
    let ls : length s.result ≡ 32 = search rules in
    let eb : take 20 s.result ≡ digest (lane l.i t) = ap (take 20) s.ensures ∙ take-digest 5 x.result (omega arith) ∙ ap digest x.ensures in
    record {
      long = p.auto.d ∙ l.invariant.long;
      first = digests_more t l.d p.new.d (take 20 s.result) l.i (length-take-le 20 s.result (omega arith)) (omega arith) l.invariant.first eb p.ensures;
    }

pub returns : goal.returns
returns c =
    let l = c.loop-i in
    let e : l.i ≡ 4 = omega arith in
    digests_end c.args.s l.d l.invariant.long (rw e at l.invariant.first)
