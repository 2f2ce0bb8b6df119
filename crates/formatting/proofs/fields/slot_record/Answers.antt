use Rattle.std.proofs.Common.{ap, ◌∙◌}
use Rattle.octets.specs.Octets.{zeros, be32}
use Rattle.octets.specs.Splice.{splice}
use Rattle.formatting.proofs.FieldsLaws.{record_is}
use Rattle.formatting.proofs.fields.slot_record.Goals as goal

pub returns : goal.returns
unfolding zeros
returns c =
    let a = c.args in
    record_is a.layout.stripes a.layout.key_bytes a.k _ _ _ _ c.area_start.ensures.0
    (c.put_be32.ensures ∙ ap (λ n. splice (zeros 48) 0 (be32 n)) c.number.ensures) c.put_be32-2.ensures c.put_be32-3.ensures
