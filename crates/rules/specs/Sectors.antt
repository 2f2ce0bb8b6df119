-- Sector writes (02, "Wish 5. Plug pulled"): runs of sectors, their bytes in a lent buffer, and the list of the work on one slot.
use Rattle.std.specs.Prelude.{List, [], ◌∷◌, ◌++◌, ℕ, zero, suc, ◌+◌, ◌*◌}
use Rattle.octets.specs.Octets.{be32}
use Rattle.octets.specs.Splice.{part}
use Rattle.octets.specs.Pieces.{piece_count}
use Rattle.rules.specs.Facts.{Facts, slot_of}

-- a sector's number and its 512 bytes
abbrev pub SectorWrite : Type 0
SectorWrite = ℕ × List ℕ

-- m sectors of an image, rising from sector s
unfoldable pub sectors_from : List ℕ → ℕ → ℕ → List SectorWrite
sectors_from image s zero = []
sectors_from image s (suc m) = (s, part image (s * 512) 512) ∷ sectors_from image (suc s) m

-- "sector number as four big-endian bytes, then 512 bytes"
unfoldable pub encoded : List SectorWrite → List ℕ
encoded [] = []
encoded (w ∷ ws) = be32 w.0 ++ (w.1 ++ encoded ws)

-- the bytes of one write so encoded
abbrev pub entry_bytes : ℕ
entry_bytes = 516

-- ---- the list of the work on one slot

-- how many sectors hold the area's n × L bytes
unfoldable pub area_count : Facts → ℕ → ℕ
area_count f k = piece_count 512 ((slot_of f k).stripes * f.profile.key_bytes)

-- "the sectors of the area's n × L bytes rising", with the bytes of an image
unfoldable pub area_list : Facts → ℕ → List ℕ → List SectorWrite
area_list f k image = sectors_from image (slot_of f k).start (area_count f k)

-- "then sector 1, then sector 0"
unfoldable pub head_list : List ℕ → List SectorWrite
head_list image = (1, part image 512 512) ∷ (0, part image 0 512) ∷ []

-- slot k made live or empty, with the bytes of the image after it
unfoldable pub slot_list : Facts → ℕ → List ℕ → List SectorWrite
slot_list f k image = area_list f k image ++ head_list image

-- how many writes it has
unfoldable pub slot_count : Facts → ℕ → ℕ
slot_count f k = area_count f k + 2
