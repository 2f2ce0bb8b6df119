use Rattle.std.proofs.Common.{◌-◌, ◌≡◌, ◌+◌, ◌*◌, ◌^◌, ◌≤◌}
use Rattle.rules.specs.Calls.{seek}
use Rattle.rules.specs.Costs.{search_cost}
use Rattle.header.specs.Records.{facts_in}
use Rattle.opening.proofs.find_slot.Given as goal

-- the search from the next slot on has the whole search's answer, and the rest of its cost
abbrev pub invariant-loop-number : goal.invariant-loop-number
invariant-loop-number l =
    let f = facts_in l.drive.image.now in
    let p = l.passphrase.bytes.now in
    record {
      low : 1 ≤ l.number;
      high : l.number ≤ 9;
      found : seek f p l.number (9 - l.number) ≡ seek f p 1 8;
      spent : l.made + search_cost f p l.number (9 - l.number) ≡ search_cost f p 1 8;
      few : l.made ≤ (l.number - 1) * 2 ^ 35;
    }

abbrev pub decreases-loop-number : goal.decreases-loop-number
decreases-loop-number l = 9 - l.number
