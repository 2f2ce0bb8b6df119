-- What the inner functions compute for a block of 64 bytes: it has pieces of 20, 20, 20 and 4 bytes, and one block of SHA-1 is hashed
-- for each.
use Rattle.std.specs.Prelude.{List, [], ◌∷◌, ◌++◌, ℕ, ◌+◌, ◌*◌, length, take, drop}
use Rattle.octets.specs.Octets.{be32, be32_at}
use Rattle.digest.specs.Chaining.{words, padding}

-- piece i of d
abbrev pub piece : List ℕ → ℕ → List ℕ
piece d i = take 20 (drop (20 * i) d)

-- the block that is hashed for it: its number, its bytes and the padding, as 16 words
unfoldable pub piece_block : List ℕ → ℕ → List ℕ
piece_block d i = words ((be32 i ++ piece d i) ++ padding (4 + length (piece d i))) 16

-- the words at o of the first three pieces, and x for the last
abbrev pub across : List ℕ → ℕ → ℕ → List ℕ
across d o x = be32_at d o ∷ be32_at d (o + 20) ∷ be32_at d (o + 40) ∷ x ∷ []
