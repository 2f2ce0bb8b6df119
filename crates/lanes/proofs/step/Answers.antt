-- A round in each lane.
use Rattle.std.proofs.Common.{◌≡◌, ◌*◌, ◌/◌, ◌%◌, ◌^◌, [], get_or, rules}
use Rattle.sha_1.specs.Quarters.{number}
use Rattle.lanes.specs.Lanes.{Each}
use Rattle.lanes.proofs.LanesLaws.{step-lane}
use Rattle.lanes.proofs.step.Goals as goal

pub returns : goal.returns
returns c i h =
    let a = c.args in
    let g : Each (λ i. get_or c.from_fn.result i 0 ≡ get_or (get_or a.v 1 []) i 0 * 2 ^ 30 % 2 ^ 32) = search rules in
    let l : Each (λ i. get_or c.from_fn-2.result i 0 ≡ get_or (get_or a.v 1 []) i 0 / 2 ^ 2) = search rules in
    step-lane i a.v (number a.q) a.c a.w c.or_word-h.result c.round_function-x.result c.sums.result c.from_fn.result c.from_fn-2.result
    (c.or_word-h.ensures i h) (c.round_function-x.ensures i h) (c.sums.ensures i h) (g i h) (l i h)
