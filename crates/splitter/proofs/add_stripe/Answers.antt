-- `splitter::add_stripe` meets its contract.
use mathlib.Core.Path.{ap, ◌∙◌}
use Rattle.hash.specs.Hash.{digest_of}
use Rattle.splitter.specs.Diffuse.{diffuse}
use Rattle.splitter.proofs.add_stripe.Goals as goal

pub returns : goal.returns
returns c =
    let x = c in
    c.diffuse_in.ensures ∙ ap (diffuse (digest_of x.args.hash)) x.xor_into.ensures
