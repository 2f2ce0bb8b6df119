-- `hmac::hmac`: the chaining words after the two key blocks stand for the blocks.
use Rattle.std.proofs.Common.{◌∙◌}
use Rattle.hash.specs.Hash.{compression_of, chain}
use Rattle.hash.proofs.HashLaws.{lawful-compression}
use Rattle.hmac.proofs.HmacLaws.{hmac-keyed}
use Rattle.hmac.proofs.hmac.Goals as goal

pub returns : goal.returns
returns c =
    let a = c.args in
    let k = c.prepare in
    c.hmac_with.ensures ∙ hmac-keyed (compression_of a.hash) (lawful-compression a.hash) a.key.now a.m.now
    (chain a.hash k.result.inner) (chain a.hash k.result.outer) k.ensures.0 k.ensures.1
