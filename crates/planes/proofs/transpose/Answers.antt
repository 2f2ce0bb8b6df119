-- The five exchanges, one after the other.
use Rattle.std.proofs.Common.{refl}
use Rattle.aes.proofs.TransposeLaws.{transposed}
use Rattle.planes.proofs.transpose.Goals as goal

pub returns : goal.returns
returns c =
    let q = c.args.q.now in
    let x₁ = c.exchange in
    let x₂ = c.exchange-2 in
    let x₃ = c.exchange-3 in
    let x₄ = c.exchange-4 in
    let x₅ = c.exchange-5 in
    transposed q x₅.new.d (record {
      mid = x₄.new.d;
      earlier = record {
        mid = x₃.new.d;
        earlier = record {
          mid = x₂.new.d;
          earlier = record { mid = x₁.new.d; earlier = record { mid = q; earlier = refl; last = x₁.ensures }; last = x₂.ensures };
          last = x₃.ensures;
        };
        last = x₄.ensures;
      };
      last = x₅.ensures;
    })
