-- `hash::digest`: from the first chaining words, with nothing before.
use Rattle.std.proofs.Common.{◌≡◌, ◌∙◌, List, ℕ, length, ap, ap₂, sym, rules, append-nil}
use Rattle.digest.specs.Chaining.{digest, finish}
use Rattle.digest.proofs.ChainingLaws.{hash_is}
use Rattle.hash.specs.Hash.{compression_of}
use Rattle.hash.proofs.HashLaws.{digest-chain}
use Rattle.hash.proofs.digest.Goals as goal

pub returns : goal.returns
returns c =
    let a = c.args in
    let C = compression_of a.hash in
    let l : length c.finish_words.result ≡ 8 = search rules in
    digest-chain a.hash c.finish_words.result c.store.result l c.store.ensures
    ∙ ap digest (c.finish_words.ensures ∙ ap₂ (λ (s x : List ℕ). finish C s 0 x) c.start.ensures (append-nil a.m.now)) ∙ sym (hash_is C a.m.now)
