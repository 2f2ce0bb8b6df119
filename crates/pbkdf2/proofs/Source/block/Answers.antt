-- `pbkdf2::Source::block`: the bytes of the sum, and the first value counted.
use Rattle.std.proofs.Common.{◌≡◌, ◌≤◌, ◌∙◌, ◌-◌, ℕ, List, length, ap, arith, rules}
use Rattle.digest.specs.Chaining.{digest}
use Rattle.hash.specs.Hash.{compression_of, chain}
use Rattle.hash.proofs.HashLaws.{digest-chain}
use Rattle.pbkdf2.specs.Pbkdf2.{folded}
use Rattle.pbkdf2.specs.Words.{prf_words, block_words}
use Rattle.pbkdf2.proofs.Source.block.Goals as goal

pub returns : goal.returns
unfolding block_words
returns c =
    let a = c.args in
    let s = a.self.now in
    let w = c.iterate-s.result.value in
    let l : length w ≡ 8 = search rules in
    let some : 1 ≤ s.count = search rules in
    let f = prf_words (compression_of a.hash) (chain a.hash s.key.inner) (chain a.hash s.key.outer) in (
      digest-chain a.hash w c.store.result l c.store.ensures
          ∙ ap digest (c.iterate-s.ensures.0 ∙ ap (λ (x : List ℕ). folded f x (s.count - 1)) c.first_words.ensures),
      omega (arith, c.iterate-s.ensures.1),
    )
