-- Turns in one pass, which `turns-rounds` turns into the schedule and then the rounds.
use Rattle.std.proofs.Common.{◌≡◌, List, ℕ, length, ap, ◌∙◌, arith, rules}
use Rattle.sha_1.proofs.RoundLaws.{four_twenties, turns-rounds}
use Rattle.sha_1.proofs.all_rounds.Goals as goal

pub returns : goal.returns
returns c =
    let w = c.spread-w in
    let l : length w.result ≡ 96 = search rules in
    ap (λ (x : List ℕ × List ℕ). x.1) (four_twenties _ _ _ _ _ c.twenty-a.ensures c.twenty-b.ensures c.twenty-c.ensures c.twenty.ensures)
    ∙ turns-rounds c.args.m c.args.s w.result 80 l w.ensures (omega arith)
