-- The block's words are in front.
use Rattle.std.proofs.Common.{◌≡◌, length, ◌∙◌, arith, take_all, rules}
use Rattle.std.proofs.lemmas.List.{take-append-le}
use Rattle.sha_1.proofs.spread.Goals as goal

pub returns : goal.returns
returns c =
    let m = c.args.m in
    let l : length m ≡ 16 = search rules in
    rw c.copy_from_slice.ensures.after (take-append-le 16 m _ (omega arith) ∙ take_all 16 m (omega arith))
