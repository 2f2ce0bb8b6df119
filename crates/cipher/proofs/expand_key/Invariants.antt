use Rattle.std.proofs.Common.{◌≡◌, ◌-◌, ◌*◌, ◌/◌, take}
use Rattle.aes.specs.Aes.{rcon, schedule}
use Rattle.cipher.proofs.expand_key.Given as goal

abbrev pub invariant-loop-i : goal.invariant-loop-i
invariant-loop-i l = (take (l.i * 4) l.w ≡ schedule l.nk l.key (l.i - l.nk)) × (l.constant ≡ rcon (l.i / l.nk - 1))
