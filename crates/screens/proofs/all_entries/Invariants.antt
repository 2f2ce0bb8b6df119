use Rattle.std.proofs.Common.{◌≡◌, map, length, take}
use Rattle.header.specs.Records.{facts_in}
use Rattle.screens.specs.Screens.{details_of}
use Rattle.screens.specs.Entries.{details_in}
use Rattle.screens.proofs.ScreenLaws.{shown}
use Rattle.screens.proofs.all_entries.Given as goal

-- the first i entries are in the array
abbrev pub invariant-loop-i : goal.invariant-loop-i
invariant-loop-i l =
    record {
      eight : length l.entries ≡ 8;
      first : map details_in (take l.i l.entries) ≡ take l.i (shown details_of (facts_in l.drive.image.now));
    }
