-- The code's screens in the rules' words.
use Rattle.std.specs.Prelude.{List, map, cond, Result, Ok, Err, replicate, Bool, ℕ}
use Rattle.screens.specs.Screens.{Details, no_details}
use Rattle.header.specs.declared.refusal.Refusal.{Refusal}
use Rattle.screens.specs.declared.Entry.{Entry}

-- an entry's numbers
abbrev pub details_in : Entry → Details
details_in e = record { enabled = cond e.enabled 1 0; count = e.count; start = e.start.0; stripes = e.stripes }

-- the first screen: 1 for an enabled slot and 0 for a disabled one; zeros where the header is refused
abbrev pub bits_shown : Result (List Bool) Refusal → List ℕ
bits_shown (Ok bits) = map (λ b. cond b 1 0) bits
bits_shown (Err r) = replicate 8 0

-- the second screen: the eight slots; zeros where the header is refused
abbrev pub details_shown : Result (List Entry) Refusal → List Details
details_shown (Ok entries) = map details_in entries
details_shown (Err r) = replicate 8 no_details
