-- `splitter::split_into` meets its contract.
use mathlib.Core.Path.{◌≡◌, refl}
use Prim.Native.Nat.{◌-◌}
use native.Mathlib.Omega.{arith}
use lib.ListN.{length}
use borrow.Author.Rules.{rules}
use Rattle.hash.specs.Hash.{digest_of}
use Rattle.splitter.specs.Diffuse.{diffuse}
use Rattle.splitter.proofs.StripesLaws.{split-is}
use Rattle.splitter.proofs.split_into.Goals as goal

pub returns : goal.returns
returns c =
    let a = c.args in
    let b = c.copy_into.new.d in
    let y = c.last_stripe in
    let l : length b ≡ length a.area.now = search rules in
    split-is (diffuse (digest_of a.hash)) (length a.key.now) a.n (length b - length a.random.now) a.area.now b _ y.new.d a.random.now a.key.now
    (omega arith) c.copy_into.ensures y.ensures refl
