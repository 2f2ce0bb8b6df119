-- The high word shifted does not wrap.
use Rattle.std.proofs.Common.{◌≡◌, ◌+◌, ◌*◌, ◌%◌, ap, ◌∙◌, arith}
use Rattle.xts.specs.Xts.{little_endian}
use Rattle.xts.proofs.GroupLaws.{join-columns}
use Rattle.xts.proofs.joined.Goals as goal

pub returns : goal.returns
returns c =
    let a = c.args.a in
    let b = c.args.b in
    let e : c.from.result + c.from-2.result * 4294967296 % 18446744073709551616 ≡ a + b * 4294967296 = omega arith in
    ap (little_endian 8) e ∙ join-columns a b (omega arith)
