use mathlib.Core.Path.{◌≡◌, refl, sym, subst, ap, ◌∙◌}
use mathlib.Core.List.{List, []}
use Prim.Native.Nat.{ℕ}
use Rattle.rules.specs.Checks.{first}
use Rattle.rules.specs.Calls.{revoke, early_checks, late_checks, done, answer}
use Rattle.rules.specs.Promises.{DoesListed}
use Rattle.rules.specs.Sectors.{encoded, slot_list}
use Rattle.rules.specs.Step.{writes}
use Rattle.rules.specs.Lists.{list_of}
use Rattle.rules.specs.Costs.{test_cost, work_cost}
use Rattle.rules.proofs.ChecksLaws.{Pass, accepted, all_pass}
use Rattle.rules.proofs.StepLaws.{numbered-early, step-accepted, lists_accepted}
use Rattle.profiles.specs.Suites.{built}
use Rattle.header.specs.Records.{facts_in, HeaderOk}
use Rattle.header.proofs.SoundLaws.{sound}
use Rattle.sectors.specs.Areas.{IsArea}
use Rattle.sectors.proofs.ListLaws.{area-within, list-room, list-filled}
use Rattle.sectors.proofs.CallLaws.{listed-header, listed-early, ready}
use Rattle.revoking.proofs.RevokeLaws.{filler-room}
use Rattle.revoking.proofs.revoke.Goals as goal

pub returns-in_err-drive : goal.returns-in_err-drive
returns-in_err-drive c =
    let a = c.args in
    listed-header a.image.now (revoke a.slot a.filler.now a.list.now) a.list.now _ _ c.from_residual.ensures.1 c.in_err-drive.ensures.number

pub returns-in_err-slot : goal.returns-in_err-slot
returns-in_err-slot c =
    let a = c.args in
    let d = c.in_ok-drive in
    listed-early a.image.now (revoke a.slot a.filler.now a.list.now) a.list.now _ _ c.from_residual-in_err-slot.ensures.1
    d.drive.image.now d.ensures.same d.drive.accepted c.in_err-slot.ensures.number

-- ---- where the checks pass

pub disable_slot-requires : goal.disable_slot-requires
unfolding early_checks
disable_slot-requires c =
    let a = c.args in
    let d = c.in_ok-drive in
    let k = c.in_ok-slot in
    let r = ready a.image.now _ d.ensures.same d.drive.accepted k.slot.number _ k.ensures.same (λ (k : ℕ). revoke k a.filler.now a.list.now) k.ensures.number in
    ((sound a.image.now r.header_ok).size, filler-room a.image.now r.header_ok k.slot.number k.slot.in_range a.filler.now r.passed.1.1.1.0)

pub put_list-requires : goal.put_list-requires
unfolding early_checks
put_list-requires c =
    let a = c.args in
    let d = c.in_ok-drive in
    let k = c.in_ok-slot in
    let r = ready a.image.now _ d.ensures.same d.drive.accepted k.slot.number _ k.ensures.same (λ (k : ℕ). revoke k a.filler.now a.list.now) k.ensures.number in
    let area = subst (λ (m : List ℕ). IsArea c.area_of-area.result (facts_in m) k.slot.number) d.ensures.same c.area_of-area.ensures.0 in
    let after = c.disable_slot.new.image in
    let l = c.disable_slot.auto.image in (
      area-within a.image.now r.header_ok k.slot.number k.slot.in_range _ area after l,
      list-room a.image.now r.header_ok k.slot.number k.slot.in_range _ area after l a.list.now r.passed.1.1.1.1.0,
    )

pub returns : goal.returns
unfolding answer done writes early_checks late_checks list_of test_cost work_cost
returns c =
    let a = c.args in
    let m = a.image.now in
    let d = c.in_ok-drive in
    let k = c.in_ok-slot in
    let r = ready m _ d.ensures.same d.drive.accepted k.slot.number _ k.ensures.same (λ (k : ℕ). revoke k a.filler.now a.list.now) k.ensures.number in
    let area = subst (λ (m : List ℕ). IsArea c.area_of-area.result (facts_in m) k.slot.number) d.ensures.same c.area_of-area.ensures.0 in
    let after = c.disable_slot.new.image in
    let i = c.disable_slot.ensures in
    subst (λ (k : ℕ). DoesListed built m (revoke k a.filler.now a.list.now) 0 after a.list.now c.put_list.new.list 0) k.ensures.same
    (lists_accepted built m (revoke k.slot.number a.filler.now a.list.now) _ 0
    (step-accepted built m (revoke k.slot.number a.filler.now a.list.now) r.header_ok r.early (sym (all_pass [] tt)) 0 refl) 0 _ a.list.now _ refl refl i
    (list-filled m r.header_ok k.slot.number k.slot.in_range _ area after c.disable_slot.auto.image a.list.now _ r.passed.1.1.1.1.0 c.put_list.ensures
    ∙ ap (λ (x : List ℕ). encoded (slot_list (facts_in m) k.slot.number x)) i))
