use mathlib.Core.Path.{◌≡◌, sym, ap, subst, ◌∙◌}
use mathlib.Core.List.{List}
use Prim.Native.Nat.{ℕ}
use native.Mathlib.Omega.{arith}
use lib.Dec.{ltb}
use borrow.Author.Tests.{le-leb, lt-ltb}
use Rattle.std.proofs.Common.{Option, IfSome, is_some}
use Rattle.octets.specs.Octets.{padded}
use Rattle.rules.specs.Facts.{candidate}
use Rattle.rules.proofs.ArgumentLaws.{number_is}
use Rattle.header.specs.Records.{facts_in}
use Rattle.opening.proofs.OpenLaws.{seek_hit, seek_miss, seek_none, cost_hit, cost_miss, cost_none}
use Rattle.opening.proofs.find_slot.Goals as goal

pub invariant_of-slot : goal.invariant_of-slot
invariant_of-slot c =
    let l = c.loop-number in
    record { in_range = sym (number_is l.number l.invariant.low) ∙ le-leb l.number 8 (omega (arith, l.invariant.high, c.if-number-eq9.false)) }

pub loop-number-preserved : goal.loop-number-preserved
loop-number-preserved c =
    let f = facts_in c.args.drive.image.now in
    let p = c.args.passphrase.bytes.now in
    let l = c.loop-number in
    let t = c.try_slot-trial in
    let miss = sym t.ensures.opens_is ∙ ap is_some c.in_default.is in
    record {
      low = omega arith;
      high = omega (arith, l.invariant.high, c.if-number-eq9.false);
      found = seek_miss f p l.number _ l.invariant.found (omega (arith, l.invariant.high, c.if-number-eq9.false)) miss;
      spent = cost_miss f p l.number _ _ l.invariant.spent t.result.made (omega (arith, l.invariant.high, c.if-number-eq9.false)) miss t.ensures.values_are;
      few = omega (arith, l.invariant.low, l.invariant.few, t.ensures.values_few);
    }

pub returns-then-number-eq9 : goal.returns-then-number-eq9
returns-then-number-eq9 c =
    let f = facts_in c.args.drive.image.now in
    let p = c.args.passphrase.bytes.now in
    let l = c.loop-number in
    let n = seek_none f p l.number _ l.invariant.found c.if-number-eq9.true in
    record { any_is = ap (ltb 0) n; slot_is = n; key_is = tt; values_are = cost_none f p l.number _ _ l.invariant.spent c.if-number-eq9.true }

pub returns-in-Some : goal.returns-in-Some
returns-in-Some c =
    let f = facts_in c.args.drive.image.now in
    let p = c.args.passphrase.bytes.now in
    let l = c.loop-number in
    let t = c.try_slot-trial in
    let hit = sym t.ensures.opens_is ∙ ap is_some c.in-Some.is in
    let n = seek_hit f p l.number _ l.invariant.found (omega (arith, l.invariant.high, c.if-number-eq9.false)) hit in
    let key = subst (λ (o : Option (List ℕ)). IfSome o (λ x. x ≡ padded 64 (candidate f l.number p))) c.in-Some.is t.ensures.key_is in
    record {
      any_is = sym (lt-ltb 0 l.number l.invariant.low) ∙ ap (ltb 0) n;
      slot_is = n;
      key_is = key ∙ ap (λ (j : ℕ). padded 64 (candidate f j p)) n;
      values_are = cost_hit f p l.number _ _ l.invariant.spent t.result.made (omega (arith, l.invariant.high, c.if-number-eq9.false)) hit t.ensures.values_are;
    }
