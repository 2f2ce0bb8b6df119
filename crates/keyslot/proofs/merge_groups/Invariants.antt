use Rattle.std.proofs.Common.{◌≡◌, ℕ, ◌-◌, ◌*◌, ◌≤◌, false, List, length, drop}
use Rattle.hash.specs.Hash.{digest_of}
use Rattle.suite.specs.Split.{merge_from}
use Rattle.suite.specs.Units.{in_units}
use Rattle.splitter.specs.Diffuse.{diffuse}
use Rattle.xts.specs.Keys.{Under}
use Rattle.keyslot.proofs.merge_groups.Given as goal

abbrev pub invariant-loop-i : goal.invariant-loop-i
invariant-loop-i l =
    let L = length l.initial.d in
    let H = diffuse (digest_of l.hash) in
    (1 ≤ l.left) × (l.left * L ≡ length l.area - 16384 * l.i) × (length l.b ≡ 16384)
    × ((f : ℕ → List ℕ → List ℕ) → Under false l.keys.rounds l.keys.blocks.now l.keys.tweaks.now f
    → merge_from H L l.d (l.left - 1) (in_units f (32 * l.i) (drop (16384 * l.i) l.area)) ≡ merge_from H L l.initial.d (l.n - 1) (in_units f 0 l.area))
