use Rattle.std.proofs.Common.{rules, refl, arith}
use Rattle.octets.proofs.PartsLaws.{Widths}
use Rattle.formatting.proofs.FieldsLaws.{in_order, names, name_widths}
use Rattle.formatting.proofs.fields.put_names.Goals as goal

pub returns : goal.returns
returns c =
    let p = c.args.p in
    let w : Widths (names p) name_widths = (refl, (refl, (search rules, (search rules, (search rules, tt))))) in
    rw (c.copy_into-5.ensures, c.copy_into-4.ensures, c.copy_into-3.ensures, c.copy_into-2.ensures, c.copy_into.ensures)
    (in_order (names p) name_widths w c.args.h.now 0 (omega arith))
