-- `cipher::next_word` meets its contract.
use Rattle.cipher.proofs.ScheduleLaws.{next_word_lem}
use Rattle.cipher.proofs.next_word.Goals as goal

pub returns : goal.returns
returns c =
    let a = c.args in
    next_word_lem a.nk a.i c.word_at.result c.word_at-2.result c.temp_word.result a.w.now c.word_at.ensures
    c.word_at-2.ensures c.temp_word.ensures
