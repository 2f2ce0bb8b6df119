use mathlib.Core.Path.{◌≡◌, sym, ap, ◌∙◌}
use mathlib.Core.Bool.{false}
use Prim.Native.Nat.{ℕ}
use borrow.Author.Tests.{ne_eqb}
use Rattle.octets.proofs.BoolLaws.{no}
use Rattle.hash.specs.declared.Hash.TheVariants.{Sha1}
use Rattle.rules.specs.Profiles.{known}
use Rattle.rules.proofs.RowLaws.{number_at}
use Rattle.profiles.specs.Rows.{hash_of, aes_xts_row, rows}
use Rattle.profiles.proofs.hash_of.Goals as goal

-- a number that no row has
unknown : (n : ℕ) → known rows n ≡ false → Sha1 ≡ hash_of n
unfolding known hash_of aes_xts_row rows
unknown n e = rw (ne_eqb n 3 (λ p. no (sym e ∙ ap (known rows) p)), ne_eqb n 4 (λ p. no (sym e ∙ ap (known rows) p)))

pub returns-in-Some : goal.returns-in-Some
returns-in-Some c =
    let e = c.in-Some.ensures.row in
    e.profile_is.digest_is ∙ ap hash_of (number_at rows c.args.number e.known_is)

pub returns-in-None : goal.returns-in-None
returns-in-None c = unknown c.args.number (sym c.in-None.ensures.known)
