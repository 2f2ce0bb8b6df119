-- `laying::lay_opened` meets its contract.
use Rattle.std.proofs.Common.{◌∙◌, ap, List, ℕ, ◌++◌, take, drop, set, replicate}
use Rattle.octets.specs.Octets.{zeros}
use Rattle.laying.proofs.OpenedLaws.{laid}
use Rattle.laying.proofs.lay_opened.Goals as goal

pub returns-in-Ok : goal.returns-in-Ok
returns-in-Ok c =
    let o = c.in-Ok.o in
    let v = c.lay_values.ensures in
    let d = set (set c.args.opened.now 0 o.slot) 1 o.key_length in
    let key = ap (λ (k : List ℕ). take 2 d ++ (k ++ drop 64 (drop 2 d))) c.copy_from_slice.ensures.after in
    rw c.in-Ok.is (v.0, key ∙ laid c.args.opened.now o.key o.slot o.key_length c.told-opened, v.1)

pub returns-in-Err : goal.returns-in-Err
unfolding zeros
returns-in-Err c =
    let v = c.lay_values-in-Err.ensures in
    rw c.in-Err.is (v.0, c.fill.ensures.after (λ y h. h) ∙ ap (λ (n : ℕ). replicate n 0) c.told-opened, v.1)
