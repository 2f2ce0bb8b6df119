-- Data units (01, "Ciphers and hashes"): one sector each, the last maybe the shorter rest of a key area.
use Rattle.std.specs.Prelude.{List, ℕ}
use Rattle.octets.specs.Pieces.{in_pieces}

-- what f makes of the data units of x, numbered from u
abbrev pub in_units : (ℕ → List ℕ → List ℕ) → ℕ → List ℕ → List ℕ
in_units f u x = in_pieces 512 f u x
