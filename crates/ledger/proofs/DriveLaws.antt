-- Good drives, and where the parts of a good drive's image stand.
use mathlib.Core.Path.{◌≡◌, refl, sym, ap, ◌∙◌}
use mathlib.Core.List.{List, [], ◌∷◌, append_assoc, append-nil, flatten}
use mathlib.Core.Bool.{true, ◌||◌, not}
use Prim.Native.Nat.{ℕ, ◌+◌, ◌-◌, ◌*◌, ◌^◌, ◌≤◌, ◌<◌}
use native.Mathlib.Nat.{zero-add, add-zero}
use native.Mathlib.Omega.{arith}
use lib.Dec.{eqb}
use lib.ListN.{length, drop, get_or, length-append}
use Rattle.octets.specs.Octets.{zeros, be32, be32_at, padded}
use Rattle.octets.specs.Splice.{part}
use Rattle.octets.proofs.OctetsLaws.{length-zeros, length-big_endian, be32_at-be32, length-padded}
use Rattle.octets.proofs.SpliceLaws.{part-here, part_all, be32_at-part}
use Rattle.octets.proofs.PartsLaws.{Widths, length_flatten}
use Rattle.suite.specs.Suite.{LawfulSuite}
use Rattle.rules.specs.Profiles.{Table}
use Rattle.rules.specs.Lawful.{LawfulRow}
use Rattle.rules.specs.Layout.{area_start, areas_end}
use Rattle.rules.specs.Facts.{enabled, disabled, checksum_of}
use Rattle.rules.specs.Step.{record_head}
use Rattle.rules.specs.Format.{FormatInput, row_of, key_bytes_of, suite_for, payload_start_of, head_fields, slot_record}
use Rattle.rules.proofs.FormatLaws.{length-slot_record}
use Rattle.ledger.specs.Drive.{SlotContent, Drive, map_from, gap_bytes, area_room, record_of, room_of, image_parts, drive_image}
use Rattle.ledger.proofs.PartsLaws.{offset, part-is, inside, parts-drop, length-rows, length_uniform, row, RowsTo, length-map_from, get_d_map_from}
use Rattle.ledger.proofs.LayoutLaws.{stride, start_is, end_is, room-inner, room-last, room_fits, area_ends}
use Rattle.ledger.proofs.AllLaws.{All, all_get}

-- ---- good drives: those that format and the calls make

-- format's arguments
pub record GoodInput (table : Table) (a : FormatInput) : Type 0 where
  pub row : LawfulRow table.rows a.profile
  pub suite : LawfulSuite (suite_for table a) (key_bytes_of table a)
  pub stripes_least : 1 ≤ a.stripes
  pub stripes_most : a.stripes ≤ 4000
  pub salt_is : length a.salt ≡ 32
  pub count_least : 1 ≤ a.count
  pub count_most : a.count < 2 ^ 32
  pub uuid_is : length a.uuid ≡ 36
  pub payload_least : areas_end a.stripes (key_bytes_of table a) ≤ payload_start_of table a
  pub payload_most : payload_start_of table a < 2 ^ 32

-- of a drive with n stripes of L bytes
pub record GoodContent (n L : ℕ) (c : SlotContent) : Type 0 where
  pub state_is : (eqb c.state enabled || eqb c.state disabled) ≡ true
  pub state_most : c.state < 2 ^ 32
  pub count_most : c.count < 2 ^ 32
  pub enabled_count : (not (eqb c.state enabled) || not (eqb c.count 0)) ≡ true
  pub salt_is : length c.salt ≡ 32
  pub area_is : length c.area ≡ n * L

-- a sector's bytes
abbrev pub Sector : List ℕ → Type 0
Sector x = length x ≡ 512

-- a drive
pub record GoodDrive (table : Table) (d : Drive) : Type 0 where
  pub input_ok : GoodInput table d.input
  pub eight : length d.contents ≡ 8
  pub contents_ok : All (GoodContent d.input.stripes (key_bytes_of table d.input)) d.contents
  pub sectors_ok : All Sector d.sectors

-- ---- the header's fields

-- the widths of the header's fields: 208 bytes
abbrev pub head_widths : List ℕ
head_widths = 6 ∷ 2 ∷ 32 ∷ 32 ∷ 32 ∷ 4 ∷ 4 ∷ 20 ∷ 32 ∷ 4 ∷ 40 ∷ []

pub head-widths : (table : Table) (a : FormatInput) (g : GoodInput table a) → Widths (head_fields table a) head_widths
unfolding head_fields checksum_of
head-widths table a g =
    let r = g.row in
    let p = row_of table a in
    let cipher : length (padded 32 p.cipher) ≡ 32 = length-padded 32 p.cipher (omega (arith, r.cipher_most)) in
    let mode : length (padded 32 p.mode) ≡ 32 = length-padded 32 p.mode (omega (arith, r.mode_most)) in
    let hash : length (padded 32 p.hash) ≡ 32 = length-padded 32 p.hash (omega (arith, r.hash_most)) in
    let sum = (g.suite.str_derive a.key a.salt a.count 20).len in
    let uuid : length (padded 40 a.uuid) ≡ 40 = length-padded 40 a.uuid (omega (arith, g.uuid_is)) in
    (refl, (refl, (cipher, (mode, (hash, (length-big_endian 4 _, (length-big_endian 4 _, (sum, (g.salt_is, (length-big_endian 4 _, (uuid, tt)))))))))))

-- a number in its four bytes
pub be32_field : (s : List ℕ) (o x : ℕ) → part s o 4 ≡ be32 x → x < 2 ^ 32 → be32_at s o ≡ x
be32_field s o x e h =
    ap (be32_at s) (sym (add-zero o)) ∙ sym (be32_at-part s o 4 0 (omega arith)) ∙ ap (λ (t : List ℕ). be32_at t 0) e ∙ be32_at-be32 x h

-- ---- a slot's record

-- the record as five fields
unfoldable pub record_fields : ℕ → ℕ → ℕ → ℕ → List ℕ → ℕ → List (List ℕ)
record_fields n L state count salt k = be32 state ∷ be32 count ∷ salt ∷ be32 (area_start n L k) ∷ be32 n ∷ []

record_fields_lem : (n L state count : ℕ) (salt : List ℕ) (k : ℕ) → slot_record n L state count salt k ≡ flatten (record_fields n L state count salt k)
unfolding slot_record record_fields record_head flatten
record_fields_lem n L state count salt k = simp (append_assoc, append-nil)

-- their widths: 48 bytes
abbrev record_widths : List ℕ
record_widths = 4 ∷ 4 ∷ 32 ∷ 4 ∷ 4 ∷ []

pub record_field : (n L state count : ℕ) (salt : List ℕ) (k : ℕ) → length salt ≡ 32 → (i : ℕ) → i < 5
    → part (slot_record n L state count salt k) (offset record_widths i) (get_or record_widths i 0) ≡ get_or (record_fields n L state count salt k) i []
unfolding record_fields
record_field n L state count salt k h i l =
    ap (λ x. part x (offset record_widths i) (get_or record_widths i 0)) (record_fields_lem n L state count salt k)
    ∙ part-is (record_fields n L state count salt k) record_widths (length-big_endian 4 _, (length-big_endian 4 _, (h, (length-big_endian 4 _, (length-big_endian 4 _, tt))))) i l

-- ---- the parts of the image

-- beyond the eight slots
abbrev pub no_content : SlotContent
no_content = record { state = 0; count = 0; salt = []; area = [] }

-- slot k's content, k from 0
abbrev pub content_at : Drive → ℕ → SlotContent
content_at d k = get_or d.contents k no_content

module _ (table : Table) (d : Drive) (g : GoodDrive table d) where
  -- the drive's stripes
  abbrev pub n : ℕ
  n = d.input.stripes

  -- its key bytes
  abbrev pub L : ℕ
  L = key_bytes_of table d.input

  -- where its payload stands, in sectors
  abbrev start : ℕ
  start = payload_start_of table d.input

  pub content_ok : (k : ℕ) → k < 8 → GoodContent n L (content_at d k)
  content_ok k h = all_get (GoodContent n L) d.contents k no_content g.contents_ok (omega (arith, g.eight))

  -- the eight records
  abbrev pub records : List (List ℕ)
  records = map_from (record_of n L) 0 d.contents

  -- the eight areas, each with the zeros behind it
  abbrev pub rooms : List (List ℕ)
  rooms = map_from (room_of n L start) 0 d.contents

  pub record_is : (k : ℕ) → k < 8 → get_or records k [] ≡ record_of n L k (content_at d k)
  record_is k h = get_d_map_from _ 0 d.contents k no_content [] (omega (arith, g.eight)) ∙ rw zero-add

  pub room-is : (k : ℕ) → k < 8 → get_or rooms k [] ≡ room_of n L start k (content_at d k)
  room-is k h = get_d_map_from _ 0 d.contents k no_content [] (omega (arith, g.eight)) ∙ rw zero-add

  pub length-record : (k : ℕ) → k < 8 → length (get_or records k []) ≡ 48
  unfolding record_of
  length-record k h = ap length (record_is k h) ∙ length-slot_record _ _ _ _ _ k (content_ok k h).salt_is

  pub length-room : (k : ℕ) → k < 8 → length (get_or rooms k []) ≡ area_room n L start k
  unfolding room_of
  length-room k h =
      let q = room_fits n L start g.input_ok.payload_least k h in
      let a : List ℕ = (content_at d k).area in
      ap length (room-is k h) ∙ length-append a (zeros (area_room n L start k - n * L)) ∙ omega (arith, (content_ok k h).area_is, length-zeros (area_room n L start k - n * L))

  pub length-records : length (flatten records) ≡ 384
  length-records = length-rows records 48 7 48 (length-map_from _ 0 d.contents ∙ g.eight) (λ j h. length-record j (omega arith)) (length-record 7 (omega arith))

  -- the bytes from the first area to the payload
  abbrev pub area_bytes : ℕ
  area_bytes = start * 512 - 4096

  pub length-rooms : length (flatten rooms) ≡ area_bytes
  length-rooms =
      length-rows rooms (stride n L * 512) 7 _ (length-map_from _ 0 d.contents ∙ g.eight)
      (λ j h. length-room j (omega arith) ∙ room-inner _ _ _ j h) (length-room 7 (omega arith) ∙ room-last _ _ _)
      ∙ (let e = end_is n L in let s = start_is n L 7 in omega (arith, g.input_ok.payload_least))

  pub sector_rows : (k : ℕ) → k ≤ length d.sectors → RowsTo d.sectors 512 k
  sector_rows k h j i = all_get Sector d.sectors j [] g.sectors_ok (omega arith)

  pub length-sectors : length (flatten d.sectors) ≡ length d.sectors * 512
  length-sectors = length_uniform d.sectors 512 (sector_rows (length d.sectors) (omega arith))

  -- the widths of the image's parts
  abbrev pub widths : List ℕ
  widths = 208 ∷ 384 ∷ gap_bytes ∷ area_bytes ∷ length d.sectors * 512 ∷ []

  pub part-widths : Widths (image_parts table d) widths
  unfolding image_parts
  part-widths = (
    length_flatten (head_fields table d.input) head_widths (head-widths table d.input g.input_ok),
    (length-records, (length-zeros gap_bytes, (length-rooms, (length-sectors, tt)))),
  )

  pub length-drive_image : length (drive_image table d) ≡ (start + length d.sectors) * 512
  unfolding drive_image
  length-drive_image = let e = end_is n L in length_flatten (image_parts table d) widths part-widths ∙ omega (arith, g.input_ok.payload_least)

  -- ---- what stands where

  -- field i of the header
  pub header_field : (i : ℕ) → i < 11 → offset head_widths i + get_or head_widths i 0 ≤ 208
      → part (drive_image table d) (offset head_widths i) (get_or head_widths i 0) ≡ get_or (head_fields table d.input) i []
  unfolding drive_image image_parts head_fields
  header_field i h k =
      ap (λ x. part (drive_image table d) x (get_or head_widths i 0)) (sym (zero-add (offset head_widths i)))
      ∙ inside (image_parts table d) widths part-widths 0 (offset head_widths i) (get_or head_widths i 0) (omega arith) k
      ∙ part-is (head_fields table d.input) head_widths (head-widths table d.input g.input_ok) i h

  pub record-at : (k : ℕ) → k < 8 → part (drive_image table d) (208 + k * 48) 48 ≡ record_of n L k (content_at d k)
  unfolding drive_image image_parts
  record-at k h =
      let e = length-record k h in
      inside (image_parts table d) widths part-widths 1 (k * 48) 48 (omega arith) (omega arith)
      ∙ ap (λ x. part (flatten records) x 48) (sym (add-zero (k * 48)))
      ∙ row records 48 k 0 48 (λ j i. length-record j (omega arith)) (omega (arith, length-map_from (record_of n L) 0 d.contents, g.eight)) (omega arith)
      ∙ part_all _ 48 e ∙ record_is k h

  pub area-at : (k : ℕ) → k < 8 → part (drive_image table d) (area_start n L k * 512) (n * L) ≡ (content_at d k).area
  unfolding drive_image image_parts room_of
  area-at k h =
      let W = stride n L * 512 in
      let s = start_is n L k in
      let e : area_start n L k * 512 ≡ 4096 + (k * W + 0) = omega arith in
      let c = length-room k h in
      let r = room_fits n L start g.input_ok.payload_least k h in
      let i = length-map_from (room_of n L start) 0 d.contents in
      let b : k * W + 0 + n * L ≤ area_bytes = let q = area_ends n L start g.input_ok.payload_least k h in omega arith in
      ap (λ x. part (drive_image table d) x (n * L)) e
      ∙ inside (image_parts table d) widths part-widths 3 (k * W + 0) (n * L) (omega arith) b
      ∙ row rooms W k 0 (n * L) (λ j i. length-room j (omega arith) ∙ room-inner n L start j (omega arith)) (omega (arith, g.eight)) (omega arith)
      ∙ ap (λ x. part x 0 (n * L)) (room-is k h)
      ∙ (part-here (content_at d k).area _ 0 (n * L) (omega (arith, (content_ok k h).area_is)))
      ∙ part_all _ (n * L) (content_ok k h).area_is

  pub payload-at : drop (start * 512) (drive_image table d) ≡ flatten d.sectors
  unfolding drive_image image_parts flatten
  payload-at =
      let e = end_is n L in
      let m : start * 512 ≡ offset widths 4 = omega (arith, g.input_ok.payload_least) in
      ap (λ x. drop x (drive_image table d)) m ∙ parts-drop (image_parts table d) widths part-widths 4 (omega arith) ∙ append-nil (flatten d.sectors)
