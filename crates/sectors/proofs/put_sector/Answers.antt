use native.Mathlib.Omega.{arith}
use Rattle.sectors.proofs.ListLaws.{sector_lent, entry-put}
use Rattle.sectors.proofs.put_sector.Goals as goal

pub returns : goal.returns
returns c =
    let a = c.args in
    entry-put a.list.now a.image.now _ _ _ _ a.at a.sector.0 (omega (arith, c.requires.0)) c.be32-number.ensures (sector_lent a.image.now a.sector.0)
    c.copy_into.ensures c.copy_into-2.ensures
