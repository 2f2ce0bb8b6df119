-- The first word of the first block.
use Rattle.std.proofs.Common.{refl}
use Rattle.cipher.proofs.RoundLaws.{word-substituted}
use Rattle.cipher.proofs.sub_word.Goals as goal

pub returns : goal.returns
returns c =
    let t = c.transpose in
    let e = c.sub_bytes in
    let u = c.transpose-2 in
    word-substituted c.args.x _ _ t.new.q e.new.q u.new.q refl t.ensures e.ensures u.ensures refl
