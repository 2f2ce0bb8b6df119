-- `splitter::diffuse_in` meets its contract.
use mathlib.Core.Path.{sym, ap, ◌∙◌}
use Rattle.hash.specs.declared.Hash.{Hash}
use Rattle.hash.specs.Hash.{digest_of}
use Rattle.splitter.specs.Diffuse.{diffuse}
use Rattle.splitter.proofs.diffuse_in.Goals as goal

pub returns-then-d-eq64 : goal.returns-then-d-eq64
returns-then-d-eq64 c =
    let d = c.args.d.now in
    c.diffuse_64.ensures ∙ ap (λ (h : Hash). diffuse (digest_of h) d) (sym c.in-Sha1.is)
