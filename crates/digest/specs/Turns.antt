-- Turns of a loop over rounds: each makes words of the message schedule and the working words, as a pair, from those before it.
use Rattle.std.specs.Prelude.{List, ℕ, zero, suc, ◌+◌}

-- n turns from number t on
unfoldable pub turns : (ℕ → List ℕ × List ℕ → List ℕ × List ℕ) → List ℕ × List ℕ → ℕ → ℕ → List ℕ × List ℕ
turns turn a t zero = a
turns turn a t (suc n) = turn (t + n) (turns turn a t n)
