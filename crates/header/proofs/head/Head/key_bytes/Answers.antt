use mathlib.Core.Path.{sym, ◌∙◌}
use native.Mathlib.Omega.{arith}
use Rattle.header.proofs.SoundLaws.{key_is, key-small}
use Rattle.header.proofs.head.Head.key_bytes.Goals as goal

pub returns : goal.returns
returns c =
    let image = c.args.self.image.now in
    let e = c.be32_at.ensures ∙ sym (key_is image c.requires) in
    (e, omega (arith, e, key-small image c.requires))
