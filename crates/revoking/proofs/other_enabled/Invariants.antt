use Rattle.std.proofs.Common.{◌≡◌, ℕ, ◌≤◌, ◌<◌, false}
use mathlib.Core.Logic.{◌≢◌}
use Rattle.rules.specs.Facts.{slot_of, is_enabled}
use Rattle.header.specs.Records.{facts_in}
use Rattle.revoking.proofs.other_enabled.Given as goal

abbrev pub invariant-loop-number : goal.invariant-loop-number
invariant-loop-number l =
    (1 ≤ l.number) × ((k : ℕ) → 1 ≤ k → k < l.number → k ≢ l.slot.number → is_enabled (slot_of (facts_in l.drive.image.now) k) ≡ false)
