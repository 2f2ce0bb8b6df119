use Rattle.std.proofs.Common.{◌≡◌, map, nat_eq, is_some, IfSome, ap, sym, subst, ◌∙◌}
use Rattle.std.specs.List.{find}
use Rattle.octets.specs.Octets.{zeros}
use Rattle.profiles.specs.Rows.{name_of, hash_of, aes_xts_row, rows}
use Rattle.profiles.specs.Records.{IsRow}
use Rattle.profiles.proofs.RowLaws.{coded, with_number-known, with_number-row}
use Rattle.profiles.proofs.with_number.Goals as goal
use Rattle.profiles.proofs.with_number.Goals.{After-first_numbered}

found : (c : After-first_numbered) → c.first_numbered.result ≡ find (λ r. nat_eq r.number c.args.number) (map coded rows)
unfolding zeros name_of hash_of aes_xts_row rows
found c = c.first_numbered.ensures

pub returns-clause-known : goal.returns-clause-known
returns-clause-known c = ap is_some (found c) ∙ with_number-known rows c.args.number

pub returns-clause-row : goal.returns-clause-row
returns-clause-row c = subst (λ o. IfSome o (IsRow c.args.number)) (sym (found c)) (with_number-row c.args.number)
