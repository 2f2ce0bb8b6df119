-- The four steps, for the blocks that s has.
use Rattle.std.proofs.Common.{◌≡◌, ◌*◌, ◌/◌, length, ◌∙◌, arith}
use Rattle.xts.specs.Keys.{tweak_bytes, cipher_of}
use Rattle.xts.proofs.GroupLaws.{group}
use Rattle.xts.proofs.run_blocks.Goals as goal

pub returns : goal.returns
returns g c = λ w e.
    let a = c.args in
    let n : length a.s.now ≡ length a.s.now / 16 * 16 = omega arith in
    group (cipher_of g.D.Direction.forward a.keys.rounds w) (length a.s.now / 16) (tweak_bytes a.t) a.s.now c.store.new.s c.tweaks-u.result c.load.new.q c.run.new.q
    (omega arith) (c.store.auto.s ∙ n) c.tweaks-u.ensures c.load.ensures (c.run.ensures w e) c.store.ensures
