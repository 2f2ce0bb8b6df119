-- the records from k on, written now, complete what is to be written
use Rattle.std.proofs.Common.{◌≡◌, length}
use Rattle.formatting.proofs.FieldsLaws.{completed}
use Rattle.formatting.proofs.fields.put_slots.Given as goal

abbrev pub invariant-loop-k : goal.invariant-loop-k
invariant-loop-k l = (length l.h ≡ 592) × (completed l.layout.stripes l.layout.key_bytes l.h l.k ≡ completed l.layout.stripes l.layout.key_bytes l.fn.h 0)
