use mathlib.Core.Path.{◌≡◌, refl, sym, subst, ap, ap₂, ◌∙◌}
use mathlib.Core.List.{List}
use mathlib.Core.Bool.{true}
use Prim.Native.Nat.{ℕ, ◌+◌, ◌≤◌}
use native.Mathlib.Omega.{arith}
use lib.ListN.{length}
use borrow.Author.Tests.{eqb-true}
use Rattle.std.specs.Prelude.{Ok, Err}
use Rattle.rules.specs.Checks.{first}
use Rattle.rules.specs.Calls.{add, key_ok, early_checks, late_checks, done, answer}
use Rattle.rules.specs.Promises.{DoesListed}
use Rattle.rules.specs.Sectors.{encoded, slot_list}
use Rattle.rules.specs.Step.{writes}
use Rattle.rules.specs.Lists.{list_of}
use Rattle.rules.specs.Costs.{test_cost, work_cost}
use Rattle.rules.proofs.StepLaws.{step-accepted, lists_accepted}
use Rattle.profiles.specs.Suites.{built}
use Rattle.keyslot.specs.Input.{input_of}
use Rattle.header.specs.Records.{facts_in, HeaderOk}
use Rattle.header.proofs.SoundLaws.{sound}
use Rattle.sectors.specs.Areas.{IsArea}
use Rattle.sectors.proofs.ListLaws.{area-within, list-room, list-filled}
use Rattle.sectors.proofs.CallLaws.{listed-header, listed-early, listed-late, ready}
use Rattle.slots.specs.Trials.{IsTested}
use Rattle.adding.proofs.add.Goals as goal

pub returns-in_err-drive : goal.returns-in_err-drive
returns-in_err-drive c =
    let a = c.args in
    listed-header a.image.now (add a.slot a.key.now (input_of a.input) a.list.now) a.list.now _ _ c.from_residual.ensures.1 c.in_err-drive.ensures.number

pub returns-in_err-slot : goal.returns-in_err-slot
returns-in_err-slot c =
    let a = c.args in
    let d = c.in_ok-drive in
    listed-early a.image.now (add a.slot a.key.now (input_of a.input) a.list.now) a.list.now _ _ c.from_residual-in_err-slot.ensures.1
    d.drive.image.now d.ensures.same d.drive.accepted c.in_err-slot.ensures.number

-- ---- where the early checks pass

key-few : (m key : List ℕ) → HeaderOk m → key_ok (facts_in m) key ≡ true → length key ≤ 64
unfolding key_ok
key-few m key ok e = omega (arith, eqb-true (length key) (facts_in m).profile.key_bytes e, (sound m ok).key_most)

pub test_key-requires : goal.test_key-requires
unfolding early_checks
test_key-requires c =
    let a = c.args in
    let d = c.in_ok-drive in
    let k = c.in_ok-slot in
    let r = ready a.image.now _ d.ensures.same d.drive.accepted k.slot.number _ k.ensures.same (λ (k : ℕ). add k a.key.now (input_of a.input) a.list.now) k.ensures.number in
    key-few a.image.now a.key.now r.header_ok r.passed.1.1.0

pub returns-in_err-tested : goal.returns-in_err-tested
unfolding late_checks first test_cost
returns-in_err-tested c =
    let a = c.args in
    let d = c.in_ok-drive in
    let k = c.in_ok-slot in
    let r = ready a.image.now _ d.ensures.same d.drive.accepted a.slot _ refl (λ (k : ℕ). add k a.key.now (input_of a.input) a.list.now) k.ensures.number in
    let t = subst (λ (m : List ℕ). IsTested (Err c.in_err-tested.field-0.0) (facts_in m) a.key.now) d.ensures.same c.in_err-tested.ensures in
    listed-late a.image.now (add a.slot a.key.now (input_of a.input) a.list.now) a.list.now _ _ c.from_residual-in_err-tested.ensures.1
    r.header_ok r.early t.number_is t.values_are

pub enable_slot-made-requires : goal.enable_slot-made-requires
unfolding early_checks
enable_slot-made-requires c =
    let a = c.args in
    let d = c.in_ok-drive in
    let k = c.in_ok-slot in
    let r = ready a.image.now _ d.ensures.same d.drive.accepted k.slot.number _ k.ensures.same (λ (k : ℕ). add k a.key.now (input_of a.input) a.list.now) k.ensures.number in
    let p = r.passed.1.1 in
    (r.header_ok, p.0, p.1.0, p.1.1.0, p.1.1.1.0)

pub put_list-requires : goal.put_list-requires
unfolding early_checks
put_list-requires c =
    let a = c.args in
    let d = c.in_ok-drive in
    let k = c.in_ok-slot in
    let r = ready a.image.now _ d.ensures.same d.drive.accepted k.slot.number _ k.ensures.same (λ (k : ℕ). add k a.key.now (input_of a.input) a.list.now) k.ensures.number in
    let area = subst (λ (m : List ℕ). IsArea c.area_of-area.result (facts_in m) k.slot.number) d.ensures.same c.area_of-area.ensures.0 in
    let after = c.enable_slot-made.new.image in
    let l = c.enable_slot-made.auto.image in (
      area-within a.image.now r.header_ok k.slot.number k.slot.in_range _ area after l,
      list-room a.image.now r.header_ok k.slot.number k.slot.in_range _ area after l a.list.now r.passed.1.1.1.1.1.1.0,
    )

pub returns : goal.returns
unfolding answer done writes early_checks late_checks first list_of test_cost work_cost
returns c =
    let a = c.args in
    let m = a.image.now in
    let d = c.in_ok-drive in
    let k = c.in_ok-slot in
    let x = input_of a.input in
    let r = ready m _ d.ensures.same d.drive.accepted k.slot.number _ k.ensures.same (λ (k : ℕ). add k a.key.now x a.list.now) k.ensures.number in
    let area = subst (λ (m : List ℕ). IsArea c.area_of-area.result (facts_in m) k.slot.number) d.ensures.same c.area_of-area.ensures.0 in
    let t = subst (λ (m : List ℕ). IsTested (Ok c.in_ok-tested.tested) (facts_in m) a.key.now) d.ensures.same c.in_ok-tested.ensures in
    let made = c.enable_slot-made in
    let i = made.ensures.0 in
    subst (λ (k : ℕ). DoesListed built m (add k a.key.now x a.list.now) 0 made.new.image a.list.now c.put_list.new.list (c.in_ok-tested.tested + made.result)) k.ensures.same
    (lists_accepted built m (add k.slot.number a.key.now x a.list.now) _ (c.in_ok-tested.tested + made.result)
    (step-accepted built m (add k.slot.number a.key.now x a.list.now) r.header_ok r.early (sym t.number_is) (c.in_ok-tested.tested + made.result)
    (ap₂ ◌+◌ t.values_are made.ensures.2)) 0 _ a.list.now _ refl refl i
    (list-filled m r.header_ok k.slot.number k.slot.in_range _ area made.new.image made.auto.image a.list.now _ r.passed.1.1.1.1.1.1.0 c.put_list.ensures
    ∙ ap (λ (y : List ℕ). encoded (slot_list (facts_in m) k.slot.number y)) i))
