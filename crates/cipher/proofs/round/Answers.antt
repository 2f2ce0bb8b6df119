-- The three steps, in each lane.
use Rattle.cipher.proofs.RoundLaws.{round-each}
use Rattle.cipher.proofs.round.Goals as goal

pub returns : goal.returns
returns c = λ j h.
    let a = c.args in
    let x = c.shift_rows in
    let y = c.sub_bytes in
    let r = c.mix_columns in
    round-each a.q.now r.new.q a.k.now j h x.new.q y.new.q (x.ensures j h) y.ensures r.ensures
