use mathlib.Core.Path.{ap, ◌∙◌}
use mathlib.Core.List.{List}
use Prim.Native.Nat.{ℕ}
use lib.Dec.{ltb}
use Rattle.rules.specs.Facts.{profile_in}
use Rattle.profiles.specs.Rows.{rows}
use Rattle.header.proofs.SoundLaws.{sound}
use Rattle.header.proofs.drive.Drive.profile.Goals as goal

pub unwrap-requires : goal.unwrap-requires
unwrap-requires c =
    c.profile.ensures.found
    ∙ ap (λ (m : List ℕ). ltb 0 (profile_in rows m)) c.head.ensures
    ∙ (sound c.args.self.image.now c.args.self.accepted).named.found
