use mathlib.Core.Path.{◌≡◌, sym, ap, ◌∙◌}
use mathlib.Core.List.{List, ◌++◌}
use Prim.Native.Nat.{ℕ}
use native.Mathlib.Omega.{arith}
use lib.ListN.{length, take, drop, replicate}
use lib.Seq.{take_at, length-take-le}
use Rattle.std.proofs.Common.{rules}
use Rattle.octets.proofs.BoolLaws.{true_by, false_by, no}
use Rattle.rules.specs.Facts.{candidate}
use Rattle.header.specs.Records.{facts_in}
use Rattle.slots.proofs.AreaLaws.{opens_off, opens-on, key-padded, given_is, key_given}
use Rattle.slots.proofs.CostLaws.{disabled-cost, enabled-cost}
use Rattle.slots.proofs.try_slot.Goals as goal

-- the 64 zeros where the key is laid
abbrev z64 : List ℕ
z64 = replicate 64 0

pub returns-then-not-is_enabled : goal.returns-then-not-is_enabled
returns-then-not-is_enabled c =
    let f = facts_in c.args.drive.image.now in
    let k = c.args.slot.number in
    let off = false_by c.is_enabled.ensures c.if-not-is_enabled.true in
    record {
      opens_is = opens_off f k c.args.passphrase.bytes.now off;
      key_is = tt;
      length_is = λ q. no q;
      values_are = disabled-cost f k off;
      values_few = omega arith;
    }

pub returns : goal.returns
returns c =
    let f = facts_in c.args.drive.image.now in
    let k = c.args.slot.number in
    let p = c.args.passphrase.bytes.now in
    let on = true_by c.is_enabled.ensures c.if-not-is_enabled.false in
    let n = c.key_bytes-l.result in
    let y = c.slot_candidate-derived.new.d in
    let v = c.slot_candidate-derived.ensures in
    let t = c.key_matches-test in
    let rest : List ℕ = drop n z64 in
    let front : length (take n z64) ≡ n = length-take-le n z64 (omega (arith, c.key_bytes-l.ensures.1)) in
    let laid : length y ≡ n = search rules in
    record {
      opens_is = given_is _ _ _ c.then_some.ensures ∙ opens-on f k p (take n (y ++ rest)) t.result.value on (take_at y rest n laid ∙ v.0) t.ensures.matches_is;
      key_is = key_given _ _ _ _ c.then_some.ensures (key-padded y (candidate f k p) n laid v.0);
      length_is = λ q. sym (ap length v.0) ∙ laid ∙ c.key_bytes-l.ensures.0;
      values_are = enabled-cost f k c.slot_candidate-derived.result t.result.made on v.1 t.ensures.values_are;
      values_few = omega (arith, v.2, t.ensures.values_few);
    }
