-- Writing a slot, or sectors of the payload, of a good drive's image gives the image of the drive with that slot, or those sectors.
use mathlib.Core.Path.{◌≡◌, sym, ap, ◌∙◌}
use mathlib.Core.List.{List, [], ◌∷◌, ◌++◌, flatten}
use Prim.Native.Nat.{ℕ, ◌+◌, ◌-◌, ◌*◌, ◌≤◌}
use native.Mathlib.Nat.{zero-add}
use native.Mathlib.Omega.{arith}
use lib.ListN.{length, set, length-set}
use Rattle.octets.specs.Octets.{zeros, be32}
use Rattle.octets.specs.Splice.{splice}
use Rattle.octets.proofs.OctetsLaws.{length-zeros}
use Rattle.octets.proofs.SpliceLaws.{splice-here, splice_all}
use Rattle.octets.proofs.PartsLaws.{Widths, length_flatten}
use Rattle.rules.specs.Profiles.{Table}
use Rattle.rules.specs.Layout.{area_start}
use Rattle.rules.specs.Facts.{Facts, slot_of}
use Rattle.rules.specs.Step.{written, record_head, slot_writes}
use Rattle.rules.specs.Format.{key_bytes_of, payload_start_of, head_fields, slot_record}
use Rattle.rules.proofs.FormatLaws.{length-record_head}
use Rattle.ledger.specs.Drive.{SlotContent, Drive, map_from, gap_bytes, area_room, record_of, room_of, image_parts, drive_image}
use Rattle.ledger.proofs.PartsLaws.{offset, put, row_put, rows-splice, RowsTo, length-map_from, set-map_from, length_uniform}
use Rattle.ledger.proofs.LayoutLaws.{stride, start_is, end_is, room-inner, room_fits, area_ends}
use Rattle.ledger.proofs.AllLaws.{All, all_get, all_set}
use Rattle.ledger.proofs.DriveLaws.{GoodDrive, GoodContent, Sector, head_widths, head-widths, content_at, content_ok, records, rooms, record_is}
use Rattle.ledger.proofs.DriveLaws.{room-is, length-record, length-room, length-records, length-rooms, sector_rows, length-sectors, widths, part-widths}

-- slot k, 1 to 8
unfoldable pub set_content : Drive → ℕ → SlotContent → Drive
set_content d k c = record { input = d.input; contents = set d.contents (k - 1) c; sectors = d.sectors }

-- the payload's sectors
unfoldable pub set_bytes : Drive → List (List ℕ) → Drive
set_bytes d xs = record { input = d.input; contents = d.contents; sectors = xs }

-- ---- a slot

pub good-content : (table : Table) (d : Drive) (g : GoodDrive table d) (k : ℕ) (c : SlotContent) → GoodContent d.input.stripes (key_bytes_of table d.input) c
    → GoodDrive table (set_content d k c)
unfolding set_content
good-content table d g k c h =
    record {
      input_ok = g.input_ok;
      eight = length-set d.contents (k - 1) c ∙ g.eight;
      contents_ok = all_set (GoodContent d.input.stripes (key_bytes_of table d.input)) d.contents (k - 1) c g.contents_ok h;
      sectors_ok = g.sectors_ok;
    }

module _ (table : Table) (d : Drive) (g : GoodDrive table d) (k : ℕ) (hk : 1 ≤ k) (h8 : k ≤ 8) (c : SlotContent) (ok : GoodContent d.input.stripes (key_bytes_of table d.input) c) where
  -- the drive's stripes
  abbrev n : ℕ
  n = d.input.stripes

  -- its key bytes
  abbrev L : ℕ
  L = key_bytes_of table d.input

  -- where its payload stands, in sectors
  abbrev start : ℕ
  start = payload_start_of table d.input

  -- the fields of its header
  abbrev head : List (List ℕ)
  head = head_fields table d.input

  -- the image's parts with slot k's area written and its record not yet
  unfoldable area_written : List (List ℕ)
  area_written = flatten head ∷ flatten (records table d g) ∷ zeros gap_bytes ∷ flatten (map_from (room_of n L start) 0 (set d.contents (k - 1) c)) ∷ flatten d.sectors ∷ []

  area_written-widths : Widths area_written (widths table d g)
  unfolding area_written set_content
  area_written-widths = (
    length_flatten head head_widths (head-widths table d.input g.input_ok),
    (length-records table d g, (length-zeros gap_bytes, (length-rooms table (set_content d k c) (good-content table d g k c ok), (length-sectors table d g, tt)))),
  )

  area-put : splice (drive_image table d) (area_start n L (k - 1) * 512) c.area ≡ flatten area_written
  unfolding drive_image image_parts room_of area_written
  area-put =
      let j = k - 1 in
      let W = stride n L * 512 in
      let s = start_is n L j in
      let e : area_start n L j * 512 ≡ 4096 + (j * W + 0) = omega arith in
      let new = ok.area_is in
      let old = (content_ok table d g j (omega arith)).area_is in
      let q = area_ends n L start g.input_ok.payload_least j (omega arith) in
      let w = length-room table d g j (omega arith) in
      let r = room_fits n L start g.input_ok.payload_least j (omega arith) in
      let i = length-map_from (room_of n L start) 0 d.contents in
      ap (λ x. splice (drive_image table d) x c.area) e
      ∙ put (image_parts table d) (widths table d g) (part-widths table d g) 3 (j * W + 0) c.area (omega arith) (omega arith)
      ∙ ap (λ x. flatten (flatten head ∷ flatten (records table d g) ∷ zeros gap_bytes ∷ x ∷ flatten d.sectors ∷ []))
      (row_put (rooms table d g) W j 0 c.area (λ i h. length-room table d g i (omega arith) ∙ room-inner n L start i (omega arith)) (omega (arith, g.eight)) (omega arith)
      ∙ ap flatten
      (ap (λ x. set (rooms table d g) j x)
      (ap (λ x. splice x 0 c.area) (room-is table d g j (omega arith))
      ∙ splice-here (content_at d j).area _ c.area 0 (omega arith)
      ∙ ap (λ x. x ++ zeros (area_room n L start j - n * L)) (splice_all _ c.area (new ∙ sym old))
      ∙ ap (λ x. room_of n L start x c) (sym (zero-add j)))
      ∙ set-map_from (room_of n L start) 0 d.contents j c))

  record-put : splice (flatten area_written) (208 + (k - 1) * 48) (record_head c.state c.count c.salt) ≡ drive_image table (set_content d k c)
  unfolding area_written set_content drive_image image_parts record_of slot_record
  record-put =
      let j = k - 1 in
      let r = record_head c.state c.count c.salt in
      let b = content_at d j in
      let w : length r ≡ 40 = omega (arith, length-record_head c.state c.count c.salt, ok.salt_is) in
      let v : length (record_head b.state b.count b.salt) ≡ 40 = omega (arith, length-record_head b.state b.count b.salt, (content_ok table d g j (omega arith)).salt_is) in
      let i = length-map_from (record_of n L) 0 d.contents in
      let l = length-record table d g j (omega arith) in
      let e : 208 + j * 48 ≡ 208 + (j * 48 + 0) = omega arith in
      ap (λ x. splice (flatten area_written) x r) e
      ∙ put area_written (widths table d g) area_written-widths 1 (j * 48 + 0) r (omega arith) (omega arith)
      ∙ ap (λ x. flatten (flatten head ∷ x ∷ zeros gap_bytes ∷ flatten (map_from (room_of n L start) 0 (set d.contents j c)) ∷ flatten d.sectors ∷ []))
      (row_put (records table d g) 48 j 0 r (λ i h. length-record table d g i (omega arith)) (omega (arith, g.eight)) (omega arith)
      ∙ ap flatten
      (ap (λ x. set (records table d g) j x)
      (ap (λ x. splice x 0 r) (record_is table d g j (omega arith))
      ∙ splice-here (record_head b.state b.count b.salt) _ r 0 (omega arith)
      ∙ ap (λ x. x ++ (be32 (area_start n L j) ++ be32 n)) (splice_all (record_head b.state b.count b.salt) r (w ∙ sym v))
      ∙ ap (λ x. record_of n L x c) (sym (zero-add j)))
      ∙ set-map_from (record_of n L) 0 d.contents j c))

  pub slot-put : (f : Facts) → (slot_of f k).start ≡ area_start d.input.stripes (key_bytes_of table d.input) (k - 1)
      → written (slot_writes f k c.area (record_head c.state c.count c.salt)) (drive_image table d) ≡ drive_image table (set_content d k c)
  unfolding written slot_writes
  slot-put f e = rw e (rw area-put record-put)

-- ---- the payload

module _ (table : Table) (d : Drive) (g : GoodDrive table d) (u : ℕ) (xs : List (List ℕ)) (ok : All Sector xs) (room : u + length xs ≤ length d.sectors) where
  new-rows : RowsTo xs 512 (length xs)
  new-rows j h = all_get Sector xs j [] ok h

  pub payload-put : splice (drive_image table d) (payload_start_of table d.input * 512 + u * 512) (flatten xs)
      ≡ drive_image table (set_bytes d (splice d.sectors u xs))
  unfolding drive_image image_parts set_bytes
  payload-put =
      let e = end_is d.input.stripes (key_bytes_of table d.input) in
      let m : payload_start_of table d.input * 512 + u * 512 ≡ offset (widths table d g) 4 + u * 512 = omega (arith, g.input_ok.payload_least) in
      let l = length_uniform xs 512 new-rows in
      let q : u * 512 + length (flatten xs) ≤ length d.sectors * 512 = omega arith in
      ap (λ x. splice (drive_image table d) x (flatten xs)) m
      ∙ put (image_parts table d) (widths table d g) (part-widths table d g) 4 (u * 512) (flatten xs) (omega arith) q
      ∙ ap (λ x. flatten (flatten (head_fields table d.input) ∷ flatten (records table d g) ∷ zeros gap_bytes ∷ flatten (rooms table d g) ∷ x ∷ []))
      (rows-splice d.sectors xs 512 u (sector_rows table d g (length d.sectors) (omega arith)) new-rows room)
