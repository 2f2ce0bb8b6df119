-- The four bytes are those of the word.
use Rattle.std.proofs.Common.{arith}
use Rattle.cipher.proofs.WordLaws.{column-at}
use Rattle.cipher.proofs.column_at.Goals as goal

pub returns : goal.returns
returns c =
    let a = c.args in
    column-at a.s.now a.at c.from_le_bytes.result c.requires (λ i. omega (arith, c.type_inv.s i)) (omega (arith, c.from_le_bytes.ensures))
