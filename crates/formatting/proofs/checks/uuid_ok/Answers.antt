use Rattle.std.proofs.Common.{◌≡◌, ◌&&◌, Bool, true, ℕ, List, [], ◌∷◌, length, eqb, leb, rules, refl, ap, ◌∙◌}
use Rattle.std.specs.List.{list_all}
use mathlib.Core.Bool.{and_assoc}
use Rattle.octets.proofs.BoolLaws.{and_yes}
use Rattle.rules.specs.Format.{printable}
use Rattle.formatting.proofs.checks.uuid_ok.Goals as goal

printable-all : (u : List ℕ) → list_all (λ x. leb 33 x && leb x 126) u ≡ printable u
unfolding printable
printable-all [] = refl
printable-all (x ∷ u) = ap (λ (b : Bool). (leb 33 x && leb x 126) && b) (printable-all u) ∙ and_assoc (leb 33 x) (leb x 126) (printable u)

pub returns-then-uuid-eq36 : goal.returns-then-uuid-eq36
returns-then-uuid-eq36 c =
    let u = c.args.uuid.now in
    let n : eqb (length u) 36 ≡ true = search rules in
    and_yes (eqb (length u) 36) (printable u) c.all_printable.result n (c.all_printable.ensures ∙ printable-all u)
