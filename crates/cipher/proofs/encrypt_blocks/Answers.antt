-- The rounds before i are done, but for the last key.
use Rattle.std.proofs.Common.{refl, arith}
use Rattle.aes.specs.Planes.{state}
use Rattle.cipher.proofs.RoundLaws.{round_none, round-again, encrypted}
use Rattle.cipher.proofs.encrypt_blocks.Goals as goal

pub loop-i-init : goal.loop-i-init
loop-i-init c = λ w s j h. round_none w (state j c.transpose.new.q)

pub loop-i-preserved : goal.loop-i-preserved
loop-i-preserved c = λ w s j h.
    let l = c.loop-i in
    let a = c.args in
    let q = c.transpose.new.q in
    let r = c.round in
    round-again a.n w a.k.now s j h l.i q l.q r.new.q _ _ (omega arith) refl refl (l.invariant w s j h) (r.ensures j h)

pub returns : goal.returns
returns c = λ w s b h.
    let l = c.loop-i in
    let a = c.args in
    let t = c.transpose in
    let r = c.last_round in
    let u = c.transpose-2 in
    encrypted a.n w a.k.now s b h _ _ refl refl a.q.now t.new.q l.q r.new.q u.new.q l.i _ refl t.ensures (omega arith) (l.invariant w s) r.ensures u.ensures
