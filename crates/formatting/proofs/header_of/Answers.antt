use Rattle.std.proofs.Common.{◌≡◌, length, rules, refl}
use Rattle.octets.specs.Octets.{zeros}
use Rattle.octets.proofs.PartsLaws.{Widths}
use Rattle.formatting.specs.Inputs.{input_of}
use Rattle.formatting.proofs.FieldsLaws.{names, name_widths}
use Rattle.formatting.proofs.FormatLaws.{header_is, suite-made}
use Rattle.formatting.proofs.header_of.Goals as goal

pub returns : goal.returns
unfolding zeros
returns c =
    let a = c.args in
    let r = c.requires.row in
    let w : Widths (names a.p) name_widths = (refl, (refl, (search rules, (search rules, (search rules, tt))))) in
    let t : length a.input.salt.now ≡ 32 = search rules in (
      header_is (input_of a.input) a.p r w t c.requires.fits.2 a.layout.stripes a.layout.key_bytes c.requires.layout.0 c.requires.layout.1
          c.pbkdf2-made.new.out _ _ _ c.pbkdf2-made.auto.out c.pbkdf2-made.ensures.0
          c.put_names.ensures c.put_numbers.ensures c.put_slots.ensures,
      suite-made a.input.profile a.input.count c.pbkdf2-made.result a.p r c.pbkdf2-made.ensures.1,
    )
