-- `pbkdf2::words::xor_words`: a word more, and the end.
use Rattle.std.proofs.Common.{◌≡◌, ◌∙◌, length, refl, arith, rules, length-set}
use Rattle.octets.specs.Octets.{xors}
use Rattle.octets.proofs.InPlaceLaws.{xor_more, xor-last}
use Rattle.pbkdf2.proofs.words.xor_words.Goals as goal

pub loop-i-init : goal.loop-i-init
loop-i-init g c = (refl, refl)

pub loop-i-preserved : goal.loop-i-preserved
loop-i-preserved g c =
    let l = c.loop-i in
    let a : length c.args.a ≡ g.row.N = search rules in
    let b : length c.args.b ≡ g.row.N = search rules in
    (length-set _ _ _ ∙ l.invariant.0, xor_more l.y-items c.args.b (xors c.args.a c.args.b) l.i (omega arith) (omega arith) l.invariant.1)

pub returns : goal.returns
returns g c =
    let l = c.loop-i in
    let a : length c.args.a ≡ g.row.N = search rules in
    xor-last l.y-items c.args.b (xors c.args.a c.args.b) l.i (omega arith) l.invariant.1
