-- The quarters of SHA-1's 80 rounds.
use Rattle.std.specs.Prelude.{ℕ}
use Rattle.sha_1.specs.declared.Quarter.{Quarter}
use Rattle.sha_1.specs.declared.Quarter.TheVariants.{First, Second, Third, Fourth}

-- q, where the quarter's rounds are 20 q to 20 q + 19
abbrev pub number : Quarter → ℕ
number First = 0
number Second = 1
number Third = 2
number Fourth = 3
