-- `payload::read` meets its contract: header, then the checks that derive nothing, then the key.
use mathlib.Core.Path.{◌≡◌, refl, sym, ap, subst, ◌∙◌}
use mathlib.Core.Logic.{◌≢◌}
use mathlib.Core.List.{List}
use mathlib.Core.Bool.{Bool, cond}
use Prim.Native.Nat.{ℕ, ◌+◌}
use native.Mathlib.Omega.{arith}
use Rattle.std.specs.Prelude.{Ok, Err}
use Rattle.rules.specs.Checks.{first}
use Rattle.rules.specs.Facts.{matches}
use Rattle.rules.specs.Calls.{Call, read, early_checks, late_checks, answer, range_checks, bytes_read}
use Rattle.rules.specs.Costs.{checksum_cost, test_cost, work_cost}
use Rattle.rules.proofs.ChecksLaws.{refused_by, first_pass}
use Rattle.rules.proofs.StepLaws.{step-header, step-early, step-late, step-accepted, reads-refused, reads-accepted}
use Rattle.profiles.specs.Suites.{built}
use Rattle.header.specs.Refusals.{number}
use Rattle.header.specs.Records.{facts_in}
use Rattle.header.proofs.AnswerLaws.{answered_err, values_err, answered_as, values_as, number_some}
use Rattle.slots.specs.Trials.{IsTested}
use Rattle.slots.proofs.TestLaws.{tested_is}
use Rattle.payload.proofs.PayloadLaws.{room, tested-wrong, tested-right}
use Rattle.payload.proofs.read.Goals as goal

pub returns-in_err-drive : goal.returns-in_err-drive
returns-in_err-drive c =
    let a = c.args in
    let m = a.image.now in
    let call = read a.key.now a.from.0 a.units.0 a.buffer.now in
    let e = c.in_err-drive.field-0.0 in
    let n : number e ≢ 0 = number_some e in
    let p = reads-refused built m call (number e) 0 n a.buffer.now (step-header built m call (number e) n c.in_err-drive.ensures.number) in
    let h = c.from_residual.ensures.1 in
    record { code_is = answered_err _ e h ∙ p.code_is; buffer_is = p.buffer_is; values_are = values_err _ e h ∙ p.values_are }

pub returns-in_err-range_check : goal.returns-in_err-range_check
unfolding early_checks
returns-in_err-range_check c =
    let a = c.args in
    let m = a.image.now in
    let call = read a.key.now a.from.0 a.units.0 a.buffer.now in
    let d = c.in_ok-drive.ensures in
    let e = c.in_err-range_check.field-0.0 in
    let n : number e ≢ 0 = number_some e in
    let r = c.in_err-range_check.ensures ∙ ap (λ (i : List ℕ). first (range_checks (facts_in i) a.key.now a.from.0 a.units.0 a.buffer.now)) d.same in
    let p = reads-refused built m call (number e) 0 n a.buffer.now (step-early built m call (sym d.number) (number e) n r) in
    let h = c.from_residual-in_err-range_check.ensures.1 in
    record { code_is = answered_err _ e h ∙ p.code_is; buffer_is = p.buffer_is; values_are = values_err _ e h ∙ p.values_are }

pub key_matches-test-requires : goal.key_matches-test-requires
key_matches-test-requires c =
    let a = c.args in
    let d = c.in_ok-drive in
    (room d.drive.image.now d.drive.accepted a.key.now a.from.0 a.units.0 a.buffer.now (sym c.in_ok-range_check.ensures)).key_most

pub returns : goal.returns
unfolding early_checks late_checks answer test_cost work_cost
returns c =
    let a = c.args in
    let m = a.image.now in
    let call = read a.key.now a.from.0 a.units.0 a.buffer.now in
    let d = c.in_ok-drive.ensures in
    let early : first (early_checks (facts_in m) call) ≡ 0 =
    sym (c.in_ok-range_check.ensures ∙ ap (λ (i : List ℕ). first (range_checks (facts_in i) a.key.now a.from.0 a.units.0 a.buffer.now)) d.same)
    in
    let f = facts_in c.in_ok-drive.drive.image.now in
    let t : IsTested (Ok c.in_ok-values.values) f a.key.now
    = subst (λ r. IsTested r f a.key.now) (sym c.in_ok-values.ensures) (tested_is _ f a.key.now c.key_matches-test.ensures)
    in
    let right = tested-right (matches (facts_in m) a.key.now) (t.number_is ∙ ap (λ (i : List ℕ). cond (matches (facts_in i) a.key.now) 0 17) d.same) in
    let late = first_pass (late_checks (facts_in m) call) (right, tt) in
    let cost = t.values_are ∙ ap (λ (i : List ℕ). checksum_cost (facts_in i)) d.same in
    let v : c.in_ok-values.values ≡ checksum_cost (facts_in m) + 0 = omega (arith, cost) in
    let settled = step-accepted built m call (sym d.number) early late c.in_ok-values.values v in
    reads-accepted built m call _ _ settled 0 a.buffer.now _ refl refl
    (c.read_units.ensures ∙ ap (λ (i : List ℕ). bytes_read (facts_in i) a.key.now a.from.0 a.units.0) d.same)

pub returns-in_err-values : goal.returns-in_err-values
unfolding early_checks late_checks test_cost
returns-in_err-values c =
    let a = c.args in
    let m = a.image.now in
    let call = read a.key.now a.from.0 a.units.0 a.buffer.now in
    let d = c.in_ok-drive.ensures in
    let early : first (early_checks (facts_in m) call) ≡ 0 =
    sym (c.in_ok-range_check.ensures ∙ ap (λ (i : List ℕ). first (range_checks (facts_in i) a.key.now a.from.0 a.units.0 a.buffer.now)) d.same)
    in
    let e = c.in_err-values.field-0.0 in
    let f = facts_in c.in_ok-drive.drive.image.now in
    let t : IsTested (Err e) f a.key.now
    = subst (λ r. IsTested r f a.key.now) (sym c.in_err-values.ensures) (tested_is _ f a.key.now c.key_matches-test.ensures)
    in
    let wrong = tested-wrong e.refusal (matches (facts_in m) a.key.now) (t.number_is ∙ ap (λ (i : List ℕ). cond (matches (facts_in i) a.key.now) 0 17) d.same) in
    let late = refused_by (late_checks (facts_in m) call) 0 tt wrong in
    let p = reads-refused built m call 17 e.values (λ q. omega arith) a.buffer.now
    (step-late built m call (sym d.number) early 17 (λ q. omega arith) late e.values (t.values_are ∙ ap (λ (i : List ℕ). checksum_cost (facts_in i)) d.same))
    in
    let h = c.from_residual-in_err-values.ensures.1 in
    let seventeen = t.number_is ∙ ap (λ (i : List ℕ). cond (matches (facts_in i) a.key.now) 0 17) d.same ∙ ap (λ (b : Bool). cond b 0 17) wrong in
    record { code_is = answered_as _ e h ∙ seventeen ∙ p.code_is; buffer_is = p.buffer_is; values_are = values_as _ e h ∙ p.values_are }
