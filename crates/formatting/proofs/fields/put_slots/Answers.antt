use Rattle.std.proofs.Common.{◌≡◌, ◌+◌, ◌*◌, ℕ, List, length, rules, arith, sym, ap₂, ◌∙◌}
use Rattle.octets.specs.Splice.{splice}
use Rattle.formatting.proofs.FieldsLaws.{blank, record-next, records-end}
use Rattle.formatting.proofs.fields.put_slots.Goals as goal

pub loop-k-preserved : goal.loop-k-preserved
loop-k-preserved c =
    let l = c.loop-k in
    let a = c.args.layout in
    let n : length c.copy_into.new.d ≡ 592 = search rules in
    let e : c.copy_into.new.d ≡ splice l.h (208 + l.k * 48) (blank a.stripes a.key_bytes l.k)
    = c.copy_into.ensures ∙ ap₂ (λ (o : ℕ) (b : List ℕ). splice l.h o b) c.record_at.ensures c.slot_record.ensures in
    (n, rw e (record-next a.stripes a.key_bytes l.h l.k (omega arith) (omega arith)) ∙ l.invariant.1)

pub returns : goal.returns
returns c =
    let l = c.loop-k in
    let a = c.args.layout in
    let e : l.k ≡ 8 = omega arith in
    sym (records-end a.stripes a.key_bytes l.h) ∙ rw e at l.invariant.1
