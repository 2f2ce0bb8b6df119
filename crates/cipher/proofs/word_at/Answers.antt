-- `cipher::word_at` meets its contract.
use native.Mathlib.Omega.{arith}
use Rattle.cipher.proofs.WordLaws.{word_at}
use borrow.Author.Rules.{rules}
use Rattle.cipher.proofs.word_at.Goals as goal

pub returns : goal.returns
returns c =
    word_at c.args.w.now c.args.at c.be32_at.result (search rules) (search rules) c.be32_at.ensures
