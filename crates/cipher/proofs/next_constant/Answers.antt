-- `cipher::next_constant` meets its contract.
use mathlib.Core.Path.{ap, ◌∙◌}
use Rattle.gf256.specs.Field.{xtime}
use Rattle.cipher.proofs.ScheduleLaws.{rcon-next, rcon-same}
use Rattle.cipher.proofs.next_constant.Goals as goal

pub returns-then-i-nk-eq0 : goal.returns-then-i-nk-eq0
returns-then-i-nk-eq0 c =
    let s = c in
    c.double.ensures ∙ ap xtime s.requires.2 ∙ rcon-next s.args.nk s.args.i s.requires.0 s.requires.1 c.if-i-nk-eq0.true

pub returns : goal.returns
returns c =
    let s = c in
    s.requires.2 ∙ rcon-same s.args.nk s.args.i s.requires.0 c.if-i-nk-eq0.false
