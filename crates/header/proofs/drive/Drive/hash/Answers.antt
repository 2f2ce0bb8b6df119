use mathlib.Core.Path.{ap, ◌∙◌}
use mathlib.Core.List.{List}
use Prim.Native.Nat.{ℕ}
use Rattle.rules.specs.Facts.{profile_in}
use Rattle.profiles.specs.Rows.{hash_of, rows}
use Rattle.header.proofs.drive.Drive.hash.Goals as goal

pub returns : goal.returns
returns c = c.hash.ensures ∙ ap (λ (m : List ℕ). hash_of (profile_in rows m)) c.head.ensures
