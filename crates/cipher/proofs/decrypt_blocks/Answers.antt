-- The rounds from i on are undone.
use Rattle.std.proofs.Common.{refl, arith}
use Rattle.cipher.proofs.RoundLaws.{inv_again, decrypted}
use Rattle.cipher.proofs.decrypt_blocks.Goals as goal

pub loop-i-init : goal.loop-i-init
loop-i-init c = λ w s j h. refl

pub loop-i-preserved : goal.loop-i-preserved
loop-i-preserved c = λ w s j h.
    let l = c.loop-i in
    let a = c.args in
    inv_again a.n w a.k.now s j h l.i l.q c.inv_round.new.q _ _ _ (omega arith) (omega arith) refl refl (l.invariant w s j h) (c.inv_round.ensures j h)

pub returns : goal.returns
returns c = λ w s b h.
    let l = c.loop-i in
    let a = c.args in
    let t = c.transpose in
    let r = c.inv_last_round in
    let u = c.transpose-2 in
    decrypted a.n w a.k.now s b h _ _ refl refl a.q.now t.new.q r.new.q l.q u.new.q l.i _ refl t.ensures r.ensures (l.invariant w s) (omega arith) u.ensures
