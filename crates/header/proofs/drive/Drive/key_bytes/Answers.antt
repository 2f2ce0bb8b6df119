use mathlib.Core.Path.{ap, sym, subst, ◌∙◌}
use mathlib.Core.List.{List}
use Prim.Native.Nat.{ℕ}
use Rattle.header.specs.Records.{facts_in, Named}
use Rattle.header.proofs.SoundLaws.{sound}
use Rattle.header.proofs.drive.Drive.key_bytes.Goals as goal

pub key_bytes-requires : goal.key_bytes-requires
key_bytes-requires c = subst Named (sym c.head.ensures) (sound c.args.self.image.now c.args.self.accepted).named

pub returns : goal.returns
returns c =
    let e = c.key_bytes.ensures in
    (e.0 ∙ ap (λ (m : List ℕ). (facts_in m).profile.key_bytes) c.head.ensures, e.1)
