-- `payload::payload_units` meets its contract.
use mathlib.Core.Path.{◌≡◌, ap, ◌∙◌}
use mathlib.Core.List.{List}
use Prim.Native.Nat.{ℕ, ◌-◌, ◌*◌, ◌/◌}
use native.Mathlib.Omega.{arith}
use lib.ListN.{length}
use Rattle.header.specs.Records.{facts_in}
use Rattle.header.proofs.SoundLaws.{sound}
use Rattle.payload.proofs.PayloadLaws.{payload-length}
use Rattle.payload.proofs.payload_units.Goals as goal

pub overflow_sub-result : goal.overflow_sub-result
overflow_sub-result c =
    let d = c.args.drive in
    let s = sound d.image.now d.accepted in
    let at : c.payload_at.result.0 ≡ (facts_in d.image.now).payload_at = c.payload_at.ensures ∙ ap (λ (m : List ℕ). (facts_in m).payload_at) c.head.ensures in
    omega (arith, c.unit_offset-start.ensures, at, s.payload_ends)

pub returns : goal.returns
returns c =
    let m = c.args.drive.image.now in
    let at : c.payload_at.result.0 ≡ (facts_in m).payload_at = c.payload_at.ensures ∙ ap (λ (m : List ℕ). (facts_in m).payload_at) c.head.ensures in
    let e : length m - c.unit_offset-start.result ≡ length (facts_in m).payload = omega (arith, c.unit_offset-start.ensures, at, payload-length m) in
    ap (λ (n : ℕ). n / 512) e
