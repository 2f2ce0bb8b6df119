use mathlib.Core.Path.{◌≡◌, ap, ap₂, ◌∙◌}
use mathlib.Core.List.{List}
use mathlib.Core.Bool.{true}
use Prim.Native.Nat.{ℕ, ◌*◌, ◌≤◌}
use native.Mathlib.Omega.{arith}
use Rattle.octets.specs.Pieces.{piece_count}
use Rattle.rules.specs.Sectors.{area_count}
use Rattle.rules.specs.Facts.{slot_of}
use Rattle.header.specs.Records.{facts_in, HeaderOk}
use Rattle.header.proofs.SlotLaws.{stripes-fit}
use Rattle.header.proofs.SoundLaws.{sound}
use Rattle.rules.specs.Calls.{slot_number_ok}
use Rattle.sectors.proofs.ListLaws.{ceil-pieces}
use Rattle.sectors.proofs.area_of.Goals as goal

-- n × L bytes are few
few : (m : List ℕ) → HeaderOk m → (k : ℕ) → slot_number_ok k ≡ true → (n L : ℕ) → n ≡ (slot_of (facts_in m) k).stripes → L ≤ 64 → n * L ≤ 4000 * 64
few m ok k h n L e l = stripes-fit n L (omega (arith, e, ((sound m ok).slot k h).stripes_most)) l

pub overflow_mul-bytes : goal.overflow_mul-bytes
overflow_mul-bytes c =
    let d = c.args.drive in
    record { fits = omega (arith, few d.image.now d.accepted c.args.slot.number c.args.slot.in_range _ _ c.slot-s.ensures.stripes_is c.key_bytes.ensures.1) }

pub returns : goal.returns
unfolding area_count
returns c =
    let d = c.args.drive in
    let n = c.slot-s.result.stripes in
    let L = c.key_bytes.result in
    let e = c.div_ceil.ensures ∙ ceil-pieces (n * L) in (
      record {
        start_is = c.slot-s.ensures.start_is;
        count_is = e ∙ ap₂ (λ (n L : ℕ). piece_count 512 (n * L)) c.slot-s.ensures.stripes_is c.key_bytes.ensures.0;
        payload_is = c.payload_at.ensures ∙ ap (λ (m : List ℕ). (facts_in m).payload_at) c.head.ensures;
      },
      omega (arith, e, few d.image.now d.accepted c.args.slot.number c.args.slot.in_range _ _ c.slot-s.ensures.stripes_is c.key_bytes.ensures.1),
    )
