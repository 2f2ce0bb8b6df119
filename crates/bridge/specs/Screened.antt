-- The two screens after a list of calls, by the ledger alone.
use Rattle.std.specs.Prelude.{◌≡◌, List, map, ℕ}
use Rattle.rules.specs.Profiles.{Table}
use Rattle.rules.specs.Layout.{area_start}
use Rattle.rules.specs.Calls.{Call}
use Rattle.rules.specs.Format.{FormatInput, key_bytes_of}
use Rattle.profiles.specs.Suites.{built}
use Rattle.screens.specs.Screens.{Screen, Details, slot_screen, detail_screen, Shows}
use Rattle.ledger.specs.Drive.{map_from}
use Rattle.ledger.specs.Ledger.{Ledger, SlotEntry, empty, live, count_of}
use Rattle.ledger.specs.Demand3.{last_image, last_ledger}
use Rattle.bridge.specs.Trace.{Returned, last_left}

-- 1 for a live slot, 0 for an empty one
unfoldable pub live_bit : SlotEntry → ℕ
live_bit (empty area) = 0
live_bit (live key x) = 1

-- the slot at index i, from 0: its entry's count (0 where it is empty), and start and stripes as format laid them
unfoldable pub ledger_details : ℕ → ℕ → ℕ → SlotEntry → Details
ledger_details n L i s = record { enabled = live_bit s; count = count_of s; start = area_start n L i; stripes = n }

-- the ledger's first screen
unfoldable pub ledger_slots : Ledger → Screen ℕ
ledger_slots l = record { code = 0; entries = map live_bit l.slot_entries }

-- its second
unfoldable pub ledger_slot_details : Table → Ledger → Screen Details
ledger_slot_details table l =
    let a = l.input in
    record { code = 0; entries = map_from (ledger_details a.stripes (key_bytes_of table a)) 0 l.slot_entries }

-- after every list of calls that follows an accepted format, the screens are the ledger's
pub record ScreensFollow (table : Table) (a : FormatInput) (image : List ℕ) (cs : List Call) : Type 0 where
  pub slots_are : slot_screen table (last_image table a image cs) ≡ ledger_slots (last_ledger table a image cs)
  pub details_are : detail_screen table (last_image table a image cs) ≡ ledger_slot_details table (last_ledger table a image cs)

-- the same of what the functions return after a trace on a drive that was formatted by the rules of a table: a screen's function, called then,
-- shows the ledger's screen
pub record ShownFollow (table : Table) (a : FormatInput) (image after : List ℕ) (cs : List Call) (rs : List Returned) : Type 0 where
  pub slots_show : (code : ℕ) (enabled : List ℕ) → Shows (slot_screen built (last_left after rs)) code enabled → Shows (ledger_slots (last_ledger table a image cs)) code enabled
  pub details_show : (code : ℕ) (entries : List Details) → Shows (detail_screen built (last_left after rs)) code entries
      → Shows (ledger_slot_details table (last_ledger table a image cs)) code entries
