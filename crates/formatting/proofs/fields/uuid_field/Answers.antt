-- `formatting::fields::uuid_field` meets its contract.
use Rattle.octets.specs.Octets.{zeros}
use Rattle.formatting.proofs.FieldsLaws.{splice-padded}
use Rattle.formatting.proofs.fields.uuid_field.Goals as goal

pub returns : goal.returns
unfolding zeros
returns c = splice-padded 40 c.args.uuid.now _ c.copy_into.ensures
