-- `laying::lay_slots` meets its contract.
use Rattle.std.proofs.Common.{rules, ◌≡◌, refl, Bool, false, cond, length}
use Rattle.screens.proofs.MappedLaws.{mapped}
use Rattle.laying.proofs.lay_slots.Goals as goal

pub returns-in-Ok : goal.returns-in-Ok
returns-in-Ok c =
    let long : length c.in-Ok.bits ≡ 8 = search rules in
    rw c.in-Ok.is (refl, mapped (λ (b : Bool). cond b 1 0) false 0 (λ p q x y k. search (rules, k)) long c.map.ensures.items)
