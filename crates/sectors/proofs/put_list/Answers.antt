use native.Mathlib.Omega.{arith}
use Rattle.sectors.proofs.ListLaws.{length-writes, list_put}
use Rattle.sectors.proofs.put_list.Goals as goal

pub put_sectors-requires : goal.put_sectors-requires
put_sectors-requires c = (c.requires.0, omega (arith, c.requires.1, length-writes c.args.image.now c.args.area c.requires.0))

pub put_sector-requires : goal.put_sector-requires
put_sector-requires c =
    let h = c.requires.0.header in
    (omega (arith, c.requires.1, length-writes c.args.image.now c.args.area c.requires.0, c.put_sectors.auto.list), omega (arith, h))

pub put_sector-requires-2 : goal.put_sector-requires-2
put_sector-requires-2 c =
    let h = c.requires.0.header in
    (omega (arith, c.requires.1, length-writes c.args.image.now c.args.area c.requires.0, c.put_sectors.auto.list, c.put_sector.auto.list), omega (arith, h))

pub returns : goal.returns
returns c =
    list_put c.args.list.now c.args.image.now _ _ _ c.args.area c.args.at (omega (arith, c.requires.1)) c.requires.0 c.put_sectors.ensures
    c.put_sector.ensures c.put_sector-2.ensures
