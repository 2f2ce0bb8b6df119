-- In a lane each of the five words is the exclusive or of the two.
use Rattle.std.proofs.Common.{◌≡◌, length, rules}
use Rattle.lanes.proofs.LanesLaws.{xor-lane}
use Rattle.lanes.proofs.xor.Goals as goal

pub returns : goal.returns
returns c i h =
    let a = c.args in
    let r = c.pairwise in
    let la : length a.a ≡ 5 = search rules in
    let lb : length a.b ≡ 5 = search rules in
    let lr : length r.result ≡ 5 = search rules in
    xor-lane i a.a a.b r.result la lb lr (λ k hk. (r.ensures k hk).2 i h)
