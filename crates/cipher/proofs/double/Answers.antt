-- `cipher::double` meets its contract.
use Rattle.cipher.proofs.ScheduleLaws.{mask-room, doubled}
use borrow.Author.Rules.{rules}
use Rattle.cipher.proofs.double.Goals as goal

pub overflow_sub-result : goal.overflow_sub-result
overflow_sub-result c = mask-room c.args.a (search rules)

pub returns : goal.returns
returns c = doubled c.args.a (search rules)
