-- The taps of a lane are read across the lanes.
use Rattle.std.proofs.Common.{◌≡◌, ◌+◌, [], get_or, rules}
use lib.Bits.{bit_xor}
use Rattle.lanes.specs.Lanes.{Each}
use Rattle.lanes.proofs.LanesLaws.{taps-lane}
use Rattle.lanes.proofs.taps_at.Goals as goal

pub returns : goal.returns
returns c i h =
    let w = c.args.w.now in
    let t = c.args.t in
    let e : Each (λ i.
    get_or c.from_fn.result i 0
    ≡ bit_xor (bit_xor (bit_xor (get_or (get_or w (t + 13) []) i 0) (get_or (get_or w (t + 8) []) i 0)) (get_or (get_or w (t + 2) []) i 0)) (get_or (get_or w t []) i 0)) = search rules in
    taps-lane w t i _ (e i h)
