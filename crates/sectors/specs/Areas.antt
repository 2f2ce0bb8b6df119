-- The code's record of an area's sectors beside the rules' facts, and the list of writes that it stands for.
use Rattle.std.specs.Prelude.{◌≡◌, List, ◌++◌, ℕ, ◌+◌, ◌*◌, ◌≤◌, length}
use Rattle.rules.specs.Facts.{Facts, slot_of}
use Rattle.rules.specs.Sectors.{SectorWrite, sectors_from, head_list, area_count}
use Rattle.sectors.specs.declared.Area.{Area}

-- the record has the first sector of slot k's area, how many hold its n × L bytes, and the payload's start
pub record IsArea (a : Area) (f : Facts) (k : ℕ) : Type 0 where
  pub start_is : a.start.0 ≡ (slot_of f k).start
  pub count_is : a.sectors ≡ area_count f k
  pub payload_is : a.payload.0 ≡ f.payload_at

-- the sectors lie before the payload, and that and the header in the image
pub record Within (a : Area) (image : List ℕ) : Type 0 where
  pub header : 1024 ≤ length image
  pub before : a.start.0 + a.sectors ≤ a.payload.0
  pub inside : a.payload.0 * 512 ≤ length image

-- "the sectors of the area's n × L bytes rising, then sector 1, then sector 0" (02, Wish 5)
abbrev pub writes_of : Area → List ℕ → List SectorWrite
writes_of a image = sectors_from image a.start.0 a.sectors ++ head_list image
