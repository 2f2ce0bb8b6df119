-- A drive as format lays it out: format's arguments, what the eight slots hold, the payload's sectors; its image (01, "Header and layout") and its facts.
use mathlib.Core.List.{List, [], ◌∷◌, ◌++◌, flatten}
use Rattle.std.specs.Prelude.{cond, ℕ, suc, ◌-◌, ◌*◌, ltb}
use Rattle.octets.specs.Octets.{zeros}
use Rattle.rules.specs.Profiles.{Table}
use Rattle.rules.specs.Layout.{area_start}
use Rattle.rules.specs.Facts.{Facts, SlotFacts, checksum_of}
use Rattle.rules.specs.Format.{FormatInput, row_of, key_bytes_of, suite_for, payload_start_of, head_fields, slot_record}

-- what a slot's record and its area hold; the record's start and stripes are format's
pub record SlotContent : Type 0 where
  pub state : ℕ
  pub count : ℕ
  pub salt : List ℕ
  pub area : List ℕ  -- its n × L bytes

-- a drive: format's arguments and what its calls have put there
pub record Drive : Type 0 where
  pub input : FormatInput
  pub contents : List SlotContent  -- of slots 1 to 8
  pub sectors : List (List ℕ)  -- of the payload

-- f of each element with its index, the first index being i
module _ {ℓ κ} {A : Type ℓ} {B : Type κ} where
  unfoldable pub map_from : (ℕ → A → B) → ℕ → List A → List B
  map_from f i [] = []
  map_from f i (x ∷ xs) = f i x ∷ map_from f (suc i) xs

-- ---- the image

-- the bytes from the start of area k, from 0, to the next area's start, or to the payload's, which is given
unfoldable pub area_room : ℕ → ℕ → ℕ → ℕ → ℕ
area_room n L payload k = (cond (ltb k 7) (area_start n L (suc k)) payload - area_start n L k) * 512

-- the record of slot k, from 0
unfoldable pub record_of : ℕ → ℕ → ℕ → SlotContent → List ℕ
record_of n L k c = slot_record n L c.state c.count c.salt k

-- the area of slot k, from 0, with the zeros behind its n × L bytes
unfoldable pub room_of : ℕ → ℕ → ℕ → ℕ → SlotContent → List ℕ
room_of n L payload k c = c.area ++ zeros (area_room n L payload k - n * L)

-- the bytes from the header's end, 592, to the first area, which stands at sector 8
abbrev pub gap_bytes : ℕ
gap_bytes = 8 * 512 - 592

-- the header's fields, the eight records, zeros to the first area, the areas, the payload
unfoldable pub image_parts : Table → Drive → List (List ℕ)
image_parts table d =
    let a = d.input in
    let L = key_bytes_of table a in
    flatten (head_fields table a)
    ∷ flatten (map_from (record_of a.stripes L) 0 d.contents)
    ∷ zeros gap_bytes
    ∷ flatten (map_from (room_of a.stripes L (payload_start_of table a)) 0 d.contents)
    ∷ flatten d.sectors
    ∷ []

-- the drive's image
unfoldable pub drive_image : Table → Drive → List ℕ
drive_image table d = flatten (image_parts table d)

-- ---- the facts

-- slot k, from 0
unfoldable pub content_facts : ℕ → ℕ → ℕ → SlotContent → SlotFacts
content_facts n L k c =
    record { state = c.state; count = c.count; salt = c.salt; start = area_start n L k; stripes = n; area = c.area }

-- what the rules read of the drive
unfoldable pub drive_facts : Table → Drive → Facts
drive_facts table d =
    let a = d.input in
    let L = key_bytes_of table a in
    record {
      profile = row_of table a;
      suite = suite_for table a;
      payload_at = payload_start_of table a;
      checksum = checksum_of (suite_for table a) a.salt a.count a.key;
      checksum_salt = a.salt;
      checksum_count = a.count;
      slot_facts = map_from (content_facts a.stripes L) 0 d.contents;
      payload = flatten d.sectors;
    }
