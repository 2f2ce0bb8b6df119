use mathlib.Core.Path.{ap, ap₂, ◌∙◌}
use mathlib.Core.List.{List}
use Prim.Native.Nat.{ℕ}
use lib.ListN.{replicate}
use Rattle.std.proofs.Common.{rules}
use Rattle.octets.specs.Octets.{be32}
use Rattle.octets.specs.Splice.{splice}
use Rattle.header.specs.States.{state_number}
use Rattle.slots.proofs.AreaLaws.{head-is}
use Rattle.slots.proofs.record_head.Goals as goal

-- the head after the state, and after the count
pub returns : goal.returns
returns c =
    let a = c.args in
    let one = c.copy_into.ensures ∙ ap (splice (replicate 40 0) 0) (c.be32.ensures ∙ ap be32 c.number.ensures) in
    let two = c.copy_into-2.ensures ∙ ap₂ (λ (x y : List ℕ). splice x 4 y) one c.be32-2.ensures in
    head-is _ a.salt.now (state_number a.state) a.count (search rules) (c.copy_into-3.ensures ∙ ap (λ (x : List ℕ). splice x 8 a.salt.now) two)
