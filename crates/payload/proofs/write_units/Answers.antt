-- `payload::write_units` meets its contract.
use mathlib.Core.Path.{◌≡◌, ap, ◌∙◌}
use mathlib.Core.List.{List}
use Prim.Native.Nat.{ℕ, ◌+◌, ◌*◌, ◌-◌}
use native.Mathlib.Omega.{arith}
use lib.ListN.{length, take, drop}
use borrow.Author.Rules.{rules}
use Rattle.header.specs.Records.{facts_in}
use Rattle.payload.proofs.PayloadLaws.{room, length_lent, written_is}
use Rattle.payload.proofs.write_units.Goals as goal

pub unit_offset-at-requires : goal.unit_offset-at-requires
unit_offset-at-requires c =
    let a = c.args in
    let p = c.payload_at.ensures ∙ ap (λ (m : List ℕ). (facts_in m).payload_at) c.head.ensures in
    omega (arith, (room a.image.now c.requires.0 a.key.now a.from.0 a.units.0 a.buffer.now c.requires.1).ends, p)

pub overflow_add-end : goal.overflow_add-end
overflow_add-end c =
    let a = c.args in
    let p = c.payload_at.ensures ∙ ap (λ (m : List ℕ). (facts_in m).payload_at) c.head.ensures in
    omega (arith, (room a.image.now c.requires.0 a.key.now a.from.0 a.units.0 a.buffer.now c.requires.1).ends, p, c.unit_offset-at.ensures)

pub copy_into-requires : goal.copy_into-requires
copy_into-requires c =
    let a = c.args in
    let p = c.payload_at.ensures ∙ ap (λ (m : List ℕ). (facts_in m).payload_at) c.head.ensures in
    omega (arith, (room a.image.now c.requires.0 a.key.now a.from.0 a.units.0 a.buffer.now c.requires.1).ends, p, c.unit_offset-at.ensures)

pub slice_bounds-encrypt_all-end : goal.slice_bounds-encrypt_all-end
slice_bounds-encrypt_all-end c =
    let a = c.args in
    let p = c.payload_at.ensures ∙ ap (λ (m : List ℕ). (facts_in m).payload_at) c.head.ensures in
    let l : length c.copy_into.new.d ≡ length a.image.now = search rules in
    omega (arith, (room a.image.now c.requires.0 a.key.now a.from.0 a.units.0 a.buffer.now c.requires.1).ends, p, c.unit_offset-at.ensures)

pub encrypt_all-requires : goal.encrypt_all-requires
encrypt_all-requires c =
    let a = c.args in
    let p = c.payload_at.ensures ∙ ap (λ (m : List ℕ). (facts_in m).payload_at) c.head.ensures in
    let r = room a.image.now c.requires.0 a.key.now a.from.0 a.units.0 a.buffer.now c.requires.1 in
    let i : length c.copy_into.new.d ≡ length a.image.now = search rules in
    let l = length_lent c.copy_into.new.d c.unit_offset-at.result (length a.buffer.now) (omega (arith, r.ends, p, c.unit_offset-at.ensures)) in
    (omega (arith, l, r.size), omega (arith, l, r.ends), r.key_least, r.key_most, r.key_whole)

pub returns : goal.returns
returns c =
    let a = c.args in
    let p = c.payload_at.ensures ∙ ap (λ (m : List ℕ). (facts_in m).payload_at) c.head.ensures in
    let at = c.unit_offset-at.result in
    let copied = c.copy_into.new.d in
    let r = room a.image.now c.requires.0 a.key.now a.from.0 a.units.0 a.buffer.now c.requires.1 in
    let i : length copied ≡ length a.image.now = search rules in
    let l = length_lent copied at (length a.buffer.now) (omega (arith, r.ends, p, c.unit_offset-at.ensures)) in
    let e = c.encrypt_all in
    let kept : length e.new.s ≡ length (take (at + length a.buffer.now - at) (drop at copied)) = search rules in
    written_is a.image.now c.requires.0 a.key.now a.from.0 a.units.0 a.buffer.now c.requires.1 at
    (c.unit_offset-at.ensures ∙ ap (λ (n : ℕ). n * 512 + a.from.0 * 512) p) copied e.new.s c.copy_into.ensures e.ensures (kept ∙ l)
