-- Eight times eight turns are the 64 rounds.
use Rattle.std.proofs.Common.{◌≡◌, length, rules}
use Rattle.sha256.proofs.RoundLaws.{rounds_are}
use Rattle.sha256.proofs.all_rounds.Goals as goal

pub returns : goal.returns
returns c =
    let l : length c.args.m ≡ 16 = search rules in
    rounds_are c.args.m c.args.s _ _ _ _ _ _ _ _ l c.eight_rounds-a.ensures c.eight_rounds-b.ensures c.eight_rounds-c.ensures c.eight_rounds-d.ensures
    c.eight_rounds-e.ensures c.eight_rounds-f.ensures c.eight_rounds-g.ensures c.eight_rounds.ensures
