-- `payload::read_units` meets its contract.
use mathlib.Core.Path.{◌≡◌, ap, ◌∙◌}
use mathlib.Core.List.{List}
use Prim.Native.Nat.{ℕ, ◌+◌, ◌*◌}
use native.Mathlib.Omega.{arith}
use lib.ListN.{length}
use borrow.Author.Rules.{rules}
use Rattle.header.specs.Records.{facts_in}
use Rattle.payload.proofs.PayloadLaws.{room, read_is}
use Rattle.payload.proofs.read_units.Goals as goal

pub unit_offset-at-requires : goal.unit_offset-at-requires
unit_offset-at-requires c =
    let a = c.args in
    let p = c.payload_at.ensures ∙ ap (λ (m : List ℕ). (facts_in m).payload_at) c.head.ensures in
    omega (arith, (room a.drive.image.now a.drive.accepted a.key.now a.from.0 a.units.0 a.buffer.now c.requires).ends, p)

pub overflow_add-end : goal.overflow_add-end
overflow_add-end c =
    let a = c.args in
    let p = c.payload_at.ensures ∙ ap (λ (m : List ℕ). (facts_in m).payload_at) c.head.ensures in
    omega (arith, (room a.drive.image.now a.drive.accepted a.key.now a.from.0 a.units.0 a.buffer.now c.requires).ends, p, c.unit_offset-at.ensures)

pub slice_bounds-copy_into-end : goal.slice_bounds-copy_into-end
slice_bounds-copy_into-end c =
    let a = c.args in
    let p = c.payload_at.ensures ∙ ap (λ (m : List ℕ). (facts_in m).payload_at) c.head.ensures in
    omega (arith, (room a.drive.image.now a.drive.accepted a.key.now a.from.0 a.units.0 a.buffer.now c.requires).ends, p, c.unit_offset-at.ensures)

pub decrypt_all-requires : goal.decrypt_all-requires
decrypt_all-requires c =
    let a = c.args in
    let r = room a.drive.image.now a.drive.accepted a.key.now a.from.0 a.units.0 a.buffer.now c.requires in
    let l : length c.copy_into.new.d ≡ length a.buffer.now = search rules in
    (omega (arith, r.size), omega (arith, r.ends), r.key_least, r.key_most, r.key_whole)

pub returns : goal.returns
returns c =
    let a = c.args in
    let p = c.payload_at.ensures ∙ ap (λ (m : List ℕ). (facts_in m).payload_at) c.head.ensures in
    read_is a.drive.image.now a.drive.accepted a.key.now a.from.0 a.units.0 a.buffer.now c.requires c.unit_offset-at.result
    (c.unit_offset-at.ensures ∙ ap (λ (n : ℕ). n * 512 + a.from.0 * 512) p) c.copy_into.new.d _ c.copy_into.ensures c.decrypt_all.ensures
