use mathlib.Core.Path.{◌≡◌, ◌∙◌}
use Rattle.rules.specs.Profiles.{number_of}
use Rattle.rules.specs.Facts.{profile_in, facts_of}
use Rattle.profiles.specs.Records.{number_found}
use Rattle.profiles.specs.Rows.{rows}
use Rattle.header.proofs.FoundLaws.{found_is, row_is, key_few}
use Rattle.header.proofs.head.Head.profile.Goals as goal

number_is : (c : goal.After-of_header) → number_found c.of_header.result ≡ profile_in rows c.args.self.image.now
unfolding profile_in
number_is c =
    c.of_header.ensures.number
    ∙ (λ i. number_of rows (c.field_at.ensures i) (c.field_at-2.ensures i) (c.field_at-3.ensures i) (c.be32_at.ensures i))

pub returns-clause-number : goal.returns-clause-number
returns-clause-number c = number_is c

pub returns-clause-found : goal.returns-clause-found
returns-clause-found c = found_is c.of_header.result _ (number_is c) c.of_header.ensures.row

pub returns-clause-row : goal.returns-clause-row
unfolding facts_of
returns-clause-row c = row_is c.of_header.result _ (number_is c) c.of_header.ensures.row

pub returns-clause-key : goal.returns-clause-key
unfolding facts_of
returns-clause-key c =
    let o = c.of_header.result in
    let r = c.of_header.ensures.row in
    key_few c.args.self.image.now c.args.self.room o (found_is o _ (number_is c) r) (row_is o _ (number_is c) r)
