-- What a key slot is filled with, in the words of the rules.
use Rattle.rules.specs.Facts as facts
use Rattle.keyslot.specs.declared.SlotInput.{SlotInput}

-- the passphrase, the salt and the count, and the random stripes
abbrev pub input_of : SlotInput → facts.SlotInput
input_of x = facts.slot_input x.passphrase.now x.salt.now x.count x.random.now
