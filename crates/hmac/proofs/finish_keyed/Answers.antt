-- `hmac::finish_keyed`: the bytes of the last chaining words.
use Rattle.std.proofs.Common.{◌≡◌, ◌∙◌, length, ap, rules, append-nil}
use Rattle.digest.specs.Chaining.{digest, finish}
use Rattle.hash.specs.Hash.{compression_of, chain}
use Rattle.hash.proofs.HashLaws.{digest-chain}
use Rattle.hmac.specs.Keyed.{finish_keyed}
use Rattle.hmac.proofs.finish_keyed.Goals as goal

pub returns : goal.returns
unfolding finish_keyed
returns c =
    let a = c.args in
    let l : length c.finish_words.result ≡ 8 = search rules in
    digest-chain a.hash c.finish_words.result c.store.result l c.store.ensures
    ∙ ap digest (c.finish_words.ensures ∙ ap (finish (compression_of a.hash) (chain a.hash a.s) 64) (append-nil a.m.now))
