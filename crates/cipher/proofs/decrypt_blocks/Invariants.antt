use Rattle.std.proofs.Common.{◌≡◌, ℕ, ◌+◌, ◌<◌, List}
use Rattle.aes.specs.Planes.{state, Sliced}
use Rattle.cipher.proofs.RoundLaws.{undone}
use Rattle.cipher.proofs.decrypt_blocks.Given as goal

abbrev pub invariant-loop-i : goal.invariant-loop-i
invariant-loop-i l =
    (w : List ℕ) → Sliced (l.n + 2) w l.k → (j : ℕ) → j < 32 → undone l.i w (state j l.q) ≡ undone l.n w (state j l.initial.q)
