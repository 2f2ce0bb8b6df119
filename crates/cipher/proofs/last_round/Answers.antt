-- The three steps, in each lane.
use Rattle.cipher.proofs.RoundLaws.{last-each}
use Rattle.cipher.proofs.last_round.Goals as goal

pub returns : goal.returns
returns c = λ j h.
    let a = c.args in
    let x = c.shift_rows in
    let y = c.sub_bytes in
    let r = c.xor_words in
    last-each a.q.now r.new.q a.k.now j h x.new.q y.new.q a.l.now (x.ensures j h) y.ensures r.ensures
