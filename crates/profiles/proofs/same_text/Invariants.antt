use Rattle.std.proofs.Common.{◌≡◌, drop}
use Rattle.profiles.specs.Records.{same_text}
use Rattle.profiles.proofs.same_text.Given as goal

abbrev pub invariant-loop-i : goal.invariant-loop-i
invariant-loop-i l = same_text (drop l.i l.field) (drop l.i l.name) ≡ same_text l.field l.name
