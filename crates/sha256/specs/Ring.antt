-- What the compression's inner functions compute: the schedule and the rounds in one pass, over a ring of 16 words. Word t stands at t mod 16,
-- and word t + 16 takes its place once round t has used it.
use Rattle.std.specs.Prelude.{ℕ, ◌+◌, ◌%◌, List, slice_index, slice_index_or, slice_set}
use Rattle.digest.specs.Chaining.{◌⊞◌}
use Rattle.sha256.specs.Sha256.{σ₀, σ₁, constants, mix}

-- the ring w with the next word in place i
unfoldable pub grow : List ℕ → ℕ → List ℕ
grow w i = slice_set w i (σ₁ (slice_index w ((i + 14) % 16)) ⊞ slice_index_or w ((i + 9) % 16) 0 ⊞ σ₀ (slice_index w ((i + 1) % 16)) ⊞ slice_index_or w i 0)

-- a turn does round t, and makes the word that is 16 ahead
unfoldable pub turn : ℕ → List ℕ × List ℕ → List ℕ × List ℕ
turn t a = (grow a.0 (t % 16), mix (slice_index constants t) (slice_index a.0 (t % 16)) a.1)
