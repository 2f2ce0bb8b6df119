-- The arguments of format in the rules' words.
use Rattle.std.specs.Prelude.{List, ℕ}
use Rattle.rules.specs.Format as rules
use Rattle.formatting.specs.declared.FormatInput.{FormatInput}

-- what a call is handed, with this salt in place of its own
abbrev pub salted : FormatInput → List ℕ → rules.FormatInput
salted a salt = rules.format_input a.profile a.stripes a.key.now salt a.count a.uuid.now

-- what a call is handed
abbrev pub input_of : FormatInput → rules.FormatInput
input_of a = salted a a.salt.now
