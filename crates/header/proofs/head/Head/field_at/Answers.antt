use mathlib.Core.Path.{◌≡◌, ap, ◌∙◌}
use Prim.Native.Nat.{ℕ, ◌+◌, ◌-◌}
use native.Mathlib.Omega.{arith}
use lib.ListN.{take, drop}
use Rattle.std.proofs.lemmas.Result.{MatchResult-at_ok}
use Rattle.octets.specs.Splice.{part}
use Rattle.header.proofs.head.Head.field_at.Goals as goal

pub returns : goal.returns
unfolding part
returns c =
    let at = c.args.at in
    let e : at + 32 - at ≡ 32 = omega arith in
    (MatchResult-at_ok _ _ _ c.unwrap.ensures c.try_into.ensures.1).same ∙ ap (λ (n : ℕ). take n (drop at c.args.self.image.now)) e
