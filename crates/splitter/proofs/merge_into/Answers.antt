-- `splitter::merge_into` meets its contract.
use mathlib.Core.Path.{◌≡◌, ap}
use Prim.Native.Nat.{ℕ, ◌-◌, ◌*◌}
use native.Mathlib.Omega.{arith}
use lib.ListN.{length}
use borrow.Author.Rules.{rules}
use Rattle.hash.specs.Hash.{digest_of}
use Rattle.splitter.specs.Diffuse.{diffuse}
use Rattle.splitter.proofs.StripesLaws.{merge-is}
use Rattle.splitter.proofs.merge_into.Goals as goal

pub merge_from-requires : goal.merge_from-requires
merge_from-requires c =
    let a = c.args in
    let l : length c.clear.new.d ≡ length a.d.now = search rules in
    (omega (arith, ap (λ (n : ℕ). (a.n - 1) * n) l), omega arith)

pub returns : goal.returns
returns c =
    let a = c.args in
    let d = c.clear in
    let l : length d.new.d ≡ length a.d.now = search rules in
    merge-is (diffuse (digest_of a.hash)) (length a.d.now) a.n d.new.d _ a.stripes.now l d.ensures c.merge_from.ensures
