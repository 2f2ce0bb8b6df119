use Rattle.std.proofs.Common.{◌≡◌, ◌≤◌, length, rules, arith}
use Rattle.octets.specs.Octets.{padded}
use Rattle.octets.proofs.OctetsLaws.{length-padded}
use Rattle.rules.specs.Layout.{payload_start}
use Rattle.profiles.specs.Suites.{alignment}
use Rattle.formatting.proofs.FieldsLaws.{in_order, number_widths, number-widths}
use Rattle.formatting.proofs.fields.put_numbers.Goals as goal

pub returns : goal.returns
returns c =
    let a = c.args in
    let i = a.input in
    let u : length i.uuid.now ≤ 40 = omega (arith, c.requires) in
    let s : length a.sum.now ≡ 20 = search rules in
    let t : length i.salt.now ≡ 32 = search rules in
    let w = number-widths (payload_start alignment a.layout.stripes a.layout.key_bytes) a.layout.key_bytes a.sum.now i.salt.now i.count (padded 40 i.uuid.now)
    s t (length-padded 40 i.uuid.now u) in
    rw (
      c.copy_into-3.ensures,
      c.put_be32-3.ensures,
      c.copy_into-2.ensures,
      c.copy_into.ensures,
      c.put_be32-2.ensures,
      c.put_be32.ensures,
      c.payload_start.ensures.0,
      c.uuid_field.ensures,
    ) (in_order _ number_widths w a.h.now 104 (omega arith))
