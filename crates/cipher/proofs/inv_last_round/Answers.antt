-- The three steps, in each lane.
use Rattle.cipher.proofs.RoundLaws.{inv_last-each}
use Rattle.cipher.proofs.inv_last_round.Goals as goal

pub returns : goal.returns
returns c = λ j h.
    let a = c.args in
    let x = c.xor_words in
    let y = c.inv_sub_bytes in
    let r = c.inv_shift_rows in
    inv_last-each a.q.now r.new.q a.k.now j h x.new.q y.new.q a.l.now x.ensures y.ensures (r.ensures j h)
