use Rattle.std.proofs.Common.{◌≡◌, map, IfSome, ap, sym, subst, ◌∙◌}
use Rattle.std.specs.List.{find}
use Rattle.octets.specs.Octets.{zeros}
use Rattle.profiles.specs.Rows.{name_of, hash_of, aes_xts_row, rows}
use Rattle.profiles.specs.Records.{IsRow, number_found, has_row}
use Rattle.profiles.proofs.RowLaws.{coded, of_header-number, of_header-row}
use Rattle.profiles.proofs.of_header.Goals as goal
use Rattle.profiles.proofs.of_header.Goals.{After-first_fit}

found : (c : After-first_fit) → c.first_fit.result ≡ find (has_row c.args.cipher.now c.args.mode.now c.args.hash.now c.args.key_bytes) (map coded rows)
unfolding zeros name_of hash_of aes_xts_row rows
found c = c.first_fit.ensures

pub returns-clause-number : goal.returns-clause-number
returns-clause-number c = ap number_found (found c) ∙ of_header-number c.args.cipher.now c.args.mode.now c.args.hash.now c.args.key_bytes

pub returns-clause-row : goal.returns-clause-row
returns-clause-row c =
    subst (λ o. IfSome o (λ r. IsRow r.number r)) (sym (found c)) (of_header-row c.args.cipher.now c.args.mode.now c.args.hash.now c.args.key_bytes)
