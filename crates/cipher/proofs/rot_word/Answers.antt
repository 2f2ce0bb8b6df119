-- `cipher::rot_word` meets its contract.
use Rattle.cipher.proofs.WordLaws.{rot_word_lem}
use borrow.Author.Rules.{rules}
use Rattle.cipher.proofs.rot_word.Goals as goal

pub returns : goal.returns
returns c = rot_word_lem c.args.x (search rules)
