-- `pbkdf2::Source::four_blocks`: the four sums are those of the four first values.
use Rattle.std.proofs.Common.{◌≤◌, ◌∙◌, ◌-◌, ℕ, List, take, ap, arith, rules}
use Rattle.sha_1.specs.Sha1.{compression}
use Rattle.pbkdf2.specs.Pbkdf2.{folded}
use Rattle.pbkdf2.specs.Words.{prf_words, block_words}
use Rattle.pbkdf2.proofs.Source.four_blocks.Goals as goal

pub returns : goal.returns
unfolding block_words
returns c =
    let s = c.args.self.now in
    let g = c.gather.ensures in
    let some : 1 ≤ s.count = search rules in
    let T : List ℕ → List ℕ = λ x. folded (prf_words compression (take 5 s.key.inner) (take 5 s.key.outer)) x (s.count - 1) in
    let e₀ = ap T (g.0 ∙ c.first_words-a.ensures) in
    let e₁ = ap T (g.1 ∙ c.first_words-b.ensures) in
    let e₂ = ap T (g.2 ∙ c.first_words-c.ensures) in
    let e₃ = ap T (g.3 ∙ c.first_words-d.ensures) in
    (rw (e₀, e₁, e₂, e₃) at c.iterate_lanes-s.ensures.0, omega (arith, c.iterate_lanes-s.ensures.1))
