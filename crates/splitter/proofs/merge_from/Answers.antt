-- `splitter::merge_from` meets its contract.
use mathlib.Core.Path.{sym}
use Prim.Native.Nat.{◌-◌}
use native.Mathlib.Omega.{arith}
use lib.ListN.{length}
use lib.Seq.{length-take-le}
use Rattle.hash.specs.Hash.{digest_of}
use Rattle.splitter.specs.Diffuse.{diffuse}
use Rattle.splitter.proofs.StripesLaws.{merge_from-is}
use Rattle.splitter.proofs.merge_from.Goals as goal

pub slice_bounds-add_stripes-end : goal.slice_bounds-add_stripes-end
slice_bounds-add_stripes-end c =
    let a = c.args in
    sym (length-take-le (length a.stripes.now - length a.d.now) a.stripes.now (omega arith))

pub add_stripes-requires : goal.add_stripes-requires
add_stripes-requires c =
    let a = c.args in
    let k = length-take-le (length a.stripes.now - length a.d.now) a.stripes.now (omega arith) in
    (omega arith, omega (arith, k))

pub returns : goal.returns
returns c =
    let added = c in
    let a = added.args in
    let L = length a.d.now in
    merge_from-is (diffuse (digest_of a.hash)) L a.m (length a.stripes.now - L) a.d.now added.add_stripes.new.d _ a.stripes.now (omega arith)
    added.add_stripes.ensures c.xor_into.ensures
