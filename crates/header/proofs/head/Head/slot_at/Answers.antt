use mathlib.Core.Path.{sym, ap, ◌∙◌}
use Prim.Native.Nat.{ℕ, ◌+◌}
use Rattle.octets.specs.Octets.{be32_at}
use Rattle.octets.specs.Splice.{part}
use Rattle.header.specs.States.{state_of}
use Rattle.header.proofs.FactsLaws.{state-at, count_at, salt-at, start-at, stripes-at}
use Rattle.header.proofs.head.Head.slot_at.Goals as goal

pub returns : goal.returns
returns c =
    let m = c.args.self.image.now in
    let at = c.record_at-at.ensures in
    let h = c.requires in
    record {
      state_is = c.from.ensures ∙ ap state_of (c.be32_at.ensures ∙ ap (be32_at m) at ∙ sym (state-at m c.args.i h));
      count_is = c.be32_at-2.ensures ∙ ap (λ (x : ℕ). be32_at m (x + 4)) at ∙ sym (count_at m c.args.i h);
      salt_is = c.field_at.ensures ∙ ap (λ (x : ℕ). part m (x + 8) 32) at ∙ sym (salt-at m c.args.i h);
      start_is = c.be32_at-3.ensures ∙ ap (λ (x : ℕ). be32_at m (x + 40)) at ∙ sym (start-at m c.args.i h);
      stripes_is = c.be32_at-4.ensures ∙ ap (λ (x : ℕ). be32_at m (x + 44)) at ∙ sym (stripes-at m c.args.i h);
    }
