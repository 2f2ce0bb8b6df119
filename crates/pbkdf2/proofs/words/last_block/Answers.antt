-- `pbkdf2::words::last_block`: the words, and their padding laid behind them.
use Rattle.std.proofs.Common.{◌≡◌, length, rules}
use Rattle.octets.specs.Octets.{zeros}
use Rattle.pbkdf2.proofs.LastLaws.{last-set}
use Rattle.pbkdf2.proofs.words.last_block.Goals as goal

pub returns : goal.returns
unfolding zeros
returns g c =
    let l : length c.args.u ≡ g.row.N = search rules in
    last-set c.args.u c.copy_into.new.d g.row.N l c.requires c.copy_into.ensures
