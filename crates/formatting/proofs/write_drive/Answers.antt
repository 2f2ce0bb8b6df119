use Rattle.std.proofs.Common.{◌≡◌, rules, arith, sym, length}
use lib.Seq.{length-take-le}
use Rattle.formatting.specs.Inputs.{input_of}
use Rattle.formatting.proofs.FormatLaws.{row_most, start_is, fit, drive_written}
use Rattle.formatting.proofs.write_drive.Goals as goal

pub invariant_of-layout : goal.invariant_of-layout
invariant_of-layout c =
    let a = c.args in
    let f = fit (input_of a.input) a.image.now c.requires.accepted in
    record { stripes_most = f.stripes_most; key_most = row_most a.input.profile a.p c.requires.row }

pub slice_bounds-clear-end : goal.slice_bounds-clear-end
slice_bounds-clear-end c =
    let a = c.args in
    let i = input_of a.input in
    let s = c.payload_start in
    omega (arith, start_is i a.p c.requires.row s.result.0 s.ensures.0, (fit i a.image.now c.requires.accepted).payload_ends)

pub slice_bounds-clear-end-2 : goal.slice_bounds-clear-end-2
slice_bounds-clear-end-2 c =
    let a = c.args in
    let i = input_of a.input in
    let s = c.payload_start in
    sym (length-take-le _ _ (omega (arith, start_is i a.p c.requires.row s.result.0 s.ensures.0, (fit i a.image.now c.requires.accepted).payload_ends)))

pub header_of-header-requires-clause-fits : goal.header_of-header-requires-clause-fits
header_of-header-requires-clause-fits c =
    let f = fit (input_of c.args.input) c.args.image.now c.requires.accepted in
    (f.key_most, f.count_least, f.uuid_is)

pub copy_into-requires : goal.copy_into-requires
copy_into-requires c =
    let l : length c.header_of-header.result.value ≡ 592 = search rules in
    omega (arith, l, (fit (input_of c.args.input) c.args.image.now c.requires.accepted).size)

pub returns : goal.returns
returns c =
    let a = c.args in
    let i = input_of a.input in
    let s = c.payload_start in
    let h = c.header_of-header in (
      drive_written i a.image.now (fit i a.image.now c.requires.accepted) s.result.0 c.clear.new.d h.result.value c.copy_into.new.d
          (start_is i a.p c.requires.row s.result.0 s.ensures.0) c.clear.ensures h.ensures.0 c.copy_into.ensures,
      h.ensures.1,
    )
