-- `splitter::last_stripe` meets its contract.
use mathlib.Core.Path.{◌≡◌, ap, ◌∙◌}
use Prim.Native.Nat.{ℕ, ◌*◌}
use native.Mathlib.Omega.{arith}
use lib.ListN.{length}
use borrow.Author.Rules.{rules}
use Rattle.octets.specs.Octets.{zeros}
use Rattle.hash.specs.Hash.{digest_of}
use Rattle.splitter.specs.Diffuse.{diffuse}
use Rattle.splitter.proofs.StripesLaws.{last-stripe-is}
use Rattle.splitter.proofs.last_stripe.Goals as goal

pub add_stripes-requires : goal.add_stripes-requires
add_stripes-requires c =
    let a = c.args in
    let l : length c.clear.new.d ≡ length a.key.now = search rules in
    (omega arith, omega (arith, ap (λ (n : ℕ). a.m * n) l))

pub returns : goal.returns
returns c =
    let a = c.args in
    let d = c.clear in
    let k : length a.d.now ≡ length a.key.now = c.requires.0 in
    let l : length d.new.d ≡ length a.d.now = search rules in
    last-stripe-is (diffuse (digest_of a.hash)) (length a.key.now) a.m d.new.d c.add_stripes.new.d _ a.key.now a.random.now
    (l ∙ k) (d.ensures ∙ ap zeros k) c.add_stripes.ensures c.xor_into.ensures
