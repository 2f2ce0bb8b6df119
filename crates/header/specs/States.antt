-- The states of a slot in code (01, "Header and layout": "State 0x00AC71F3 is enabled, 0x0000DEAD disabled").
use Rattle.std.specs.Prelude.{Bool, true, false, ◌&&◌, ◌||◌, not, cond, ℕ, eqb, leb}
use Rattle.rules.specs.Facts.{enabled, disabled}
use Rattle.header.specs.declared.slot.SlotState.{SlotState}
use Rattle.header.specs.declared.slot.SlotState.TheVariants.{Enabled, Disabled, Unknown}

-- the state that a record's number says
abbrev pub state_of : ℕ → SlotState
state_of n = cond (eqb n enabled) Enabled (cond (eqb n disabled) Disabled (Unknown n))

-- the number that a record has for a state
abbrev pub state_number : SlotState → ℕ
state_number Enabled = enabled
state_number Disabled = disabled
state_number (Unknown n) = n

-- it is the enabled one
abbrev pub is_state_enabled : SlotState → Bool
is_state_enabled Enabled = true
is_state_enabled Disabled = false
is_state_enabled (Unknown n) = false

-- it is one of the two
abbrev pub is_state_known : SlotState → Bool
is_state_known Enabled = true
is_state_known Disabled = true
is_state_known (Unknown n) = false

-- a record with this state, count and number of stripes is in order, as `record_ok` of the rules says it of the state's number
unfoldable pub is_record_ok : SlotState → ℕ → ℕ → Bool
is_record_ok s count n = is_state_known s && (leb 1 n && (leb n 4000 && (not (is_state_enabled s) || not (eqb count 0))))
