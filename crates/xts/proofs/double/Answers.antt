-- `xts::double` meets its contract.
use Rattle.xts.specs.Keys.{tweak_bytes}
use Rattle.xts.proofs.TweakLaws.{mask-room, double-halves}
use Rattle.std.proofs.Common.{rules}
use Rattle.xts.proofs.double.Goals as goal

pub overflow_sub-result : goal.overflow_sub-result
overflow_sub-result c = mask-room c.args.t.high (search rules)

pub returns : goal.returns
unfolding tweak_bytes
returns c =
    let t = c.args.t in
    double-halves t.low t.high (search rules) (search rules)
