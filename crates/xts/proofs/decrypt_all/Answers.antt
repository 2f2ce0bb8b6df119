-- The expanded key does what the key does.
use Rattle.std.proofs.Common.{ℕ, List, ap, ◌∙◌}
use Rattle.suite.specs.Units.{in_units}
use Rattle.xts.proofs.KeysLaws.{unit_decrypt-is}
use Rattle.xts.proofs.decrypt_all.Goals as goal

pub returns : goal.returns
returns c =
    let a = c.args in
    let x = c.expand in
    c.run_units.ensures ∙ ap (λ (f : ℕ → List ℕ → List ℕ). in_units f a.first a.s.now) (unit_decrypt-is x.result a.key.now c.requires.4 x.ensures)
