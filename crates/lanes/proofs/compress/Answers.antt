-- In a lane each of the five words is the sum of the two.
use Rattle.std.proofs.Common.{◌≡◌, length, take, rules}
use Rattle.lanes.specs.Lanes.{lane}
use Rattle.lanes.proofs.LanesLaws.{added-lane}
use Rattle.lanes.proofs.compress.Goals as goal

pub returns : goal.returns
returns c =
    let a = c.args in
    let v = c.all_rounds-v in
    let r = c.pairwise in
    let lr : length r.result ≡ 5 = search rules in (
      v.array_long,
      λ i h. added-lane i a.s v.result r.result (take 16 (lane i a.w.now)) lr (λ k hk. (r.ensures k hk).2 i h) (v.ensures i h),
    )
