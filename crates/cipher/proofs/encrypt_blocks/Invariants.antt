use Rattle.std.proofs.Common.{◌≡◌, ℕ, ◌+◌, ◌<◌, List}
use Rattle.octets.specs.Octets.{xors}
use Rattle.aes.specs.Aes.{round_key, rounds}
use Rattle.aes.specs.Planes.{state, Sliced}
use Rattle.cipher.proofs.encrypt_blocks.Given as goal

abbrev pub invariant-loop-i : goal.invariant-loop-i
invariant-loop-i l =
    (w : List ℕ) → Sliced (l.n + 2) w l.k → (j : ℕ) → j < 32
    → xors (state j l.q) (round_key w l.i) ≡ rounds l.i w (xors (state j l.initial.q) (round_key w 0))
