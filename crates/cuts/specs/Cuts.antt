-- Sector writes carried out, read back from their bytes, and the cuts of a list of them (02, "Wish 5. Plug pulled").
use Rattle.std.specs.Prelude.{List, [], ◌∷◌, ◌++◌, Bool, true, false, ℕ, zero, suc, ◌*◌, take, drop}
use Rattle.octets.specs.Octets.{be32_at}
use Rattle.octets.specs.Splice.{part, splice}
use Rattle.rules.specs.Facts.{Facts}
use Rattle.rules.specs.Sectors.{SectorWrite, entry_bytes, area_list, head_list}

-- the image after sector writes, in their order
unfoldable pub carried_out : List SectorWrite → List ℕ → List ℕ
carried_out [] image = image
carried_out (w ∷ ws) image = carried_out ws (splice image (w.0 * 512) w.1)

-- "At the cut, earlier writes are done, later ones not, and the one under way is wholly old or wholly new": the first j are done
unfoldable pub cut_after : ℕ → List SectorWrite → List ℕ → List ℕ
cut_after j ws image = carried_out (take j ws) image

-- the first m entries of a list's bytes, read back: "sector number as four big-endian bytes, then 512 bytes"
unfoldable pub decoded : ℕ → List ℕ → List SectorWrite
decoded zero bytes = []
decoded (suc m) bytes = (be32_at bytes 0, part bytes 4 512) ∷ decoded m (drop entry_bytes bytes)

-- ---- the cuts in the work on one slot; those of 02 are among them

module _ {ℓ} {A : Type ℓ} where
  -- those elements whose place in the list has true; none beyond the marks
  unfoldable pub marked : List Bool → List A → List A
  marked [] xs = []
  marked (b ∷ bs) [] = []
  marked (true ∷ bs) (x ∷ xs) = x ∷ marked bs xs
  marked (false ∷ bs) (x ∷ xs) = marked bs xs

-- how far the work has come: any set of the area's writes is done, or all of them and the first j of the header's
pub data Point : Type 0 where
  in_area : (done : List Bool) → Point
  in_head : (j : ℕ) → Point

-- the image there, where the work on slot k turns an image into after
unfoldable pub stage_at : Facts → ℕ → List ℕ → List ℕ → Point → List ℕ
stage_at f k after image (in_area done) = carried_out (marked done (area_list f k after)) image
stage_at f k after image (in_head j) = carried_out (area_list f k after ++ take j (head_list after)) image
