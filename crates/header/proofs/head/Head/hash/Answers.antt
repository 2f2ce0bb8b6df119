use mathlib.Core.Path.{sym, ap, ◌∙◌}
use Rattle.profiles.specs.Rows.{hash_of}
use Rattle.header.proofs.head.Head.hash.Goals as goal

pub returns-in-Some : goal.returns-in-Some
returns-in-Some c = let e = c.in-Some.ensures in e.row.digest_is ∙ ap hash_of (sym e.row.number_is ∙ e.number)

pub returns-in-None : goal.returns-in-None
unfolding hash_of
returns-in-None c = ap hash_of c.in-None.ensures.number
