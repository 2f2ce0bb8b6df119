-- Slot k of a good drive: its area and the room behind it, its record, and a record in two halves at the edge of sector 0.
use mathlib.Core.Path.{◌≡◌, refl, sym, ap, ap₂, ◌∙◌}
use mathlib.Core.List.{List, [], ◌∷◌, ◌++◌, append_assoc, flatten}
use mathlib.Core.Bool.{Bool, true, false}
use Prim.Native.Nat.{ℕ, suc, ◌+◌, ◌-◌, ◌*◌, ◌≤◌, ◌<◌}
use native.Mathlib.Nat.{zero-add, mul-le-mul_right}
use native.Mathlib.Omega.{arith}
use lib.Dec.{ltb}
use lib.ListN.{length, take, drop, set, length-append, length-drop, take-append-drop}
use lib.Seq.{get_or-set_same, set-set, set-get_or, length-take-le, take_at, drop_at}
use borrow.Author.Tests.{ltb-true, ltb-false}
use Rattle.octets.specs.Octets.{zeros, be32}
use Rattle.octets.specs.Splice.{part, splice}
use Rattle.octets.specs.Pieces.{piece_count}
use Rattle.octets.proofs.OctetsLaws.{length-big_endian}
use Rattle.rules.specs.Profiles.{Table}
use Rattle.rules.specs.Layout.{area_start, areas_end}
use Rattle.rules.specs.Facts.{Facts, slot_of}
use Rattle.rules.specs.Step.{written, record_head, slot_writes}
use Rattle.rules.specs.Format.{key_bytes_of, payload_start_of, head_fields}
use Rattle.ledger.specs.Drive.{SlotContent, Drive, map_from, gap_bytes, area_room, record_of, room_of, image_parts, drive_image}
use Rattle.ledger.proofs.PartsLaws.{inside, put, row, row_put, length-map_from, set-map_from}
use Rattle.ledger.proofs.LayoutLaws.{stride, start_is, end_is, room-inner, room-last, bytes_fit, sectors-fit}
use Rattle.ledger.proofs.DriveLaws.{GoodDrive, GoodContent, no_content, content_at, records, rooms, record_is, room-is, length-room, widths, part-widths}
use Rattle.ledger.proofs.DriveLaws.{length-drive_image, area-at}
use Rattle.ledger.proofs.WritingLaws.{set_content, slot-put}
use Rattle.cuts.proofs.PutLaws.{splice-known}

-- ---- contents and drives

-- a content with another area
unfoldable pub with_area : SlotContent → List ℕ → SlotContent
with_area c a = record { state = c.state; count = c.count; salt = c.salt; area = a }

pub good-area : (n L : ℕ) (c : SlotContent) (a : List ℕ) → GoodContent n L c → length a ≡ n * L → GoodContent n L (with_area c a)
unfolding with_area
good-area n L c a g h =
    record { state_is = g.state_is; state_most = g.state_most; count_most = g.count_most; enabled_count = g.enabled_count; salt_is = g.salt_is; area_is = h }

pub set_twice : (d : Drive) (k : ℕ) (a b : SlotContent) → set_content (set_content d k a) k b ≡ set_content d k b
unfolding set_content
set_twice d k a b = ap (λ x. record { input = d.input; contents = x; sectors = d.sectors }) (set-set d.contents (k - 1) a b)

pub set_back : (d : Drive) (k : ℕ) → set_content d k (content_at d (k - 1)) ≡ d
unfolding set_content
set_back d k = ap (λ x. record { input = d.input; contents = x; sectors = d.sectors }) (set-get_or d.contents (k - 1) no_content)

pub content-set : (d : Drive) (k : ℕ) (c : SlotContent) → k - 1 < length d.contents → content_at (set_content d k c) (k - 1) ≡ c
unfolding set_content
content-set d k c h = get_or-set_same d.contents (k - 1) c no_content h

-- ---- the room of area k, from 0

module _ (n L payload : ℕ) (after : areas_end n L ≤ payload) where
  -- it ends before the payload; offsets count from the first area's start
  pub room-ends : (k : ℕ) → k < 8 → k * (stride n L * 512) + area_room n L payload k ≤ payload * 512 - 4096
  room-ends k h = go (ltb k 7) refl
    where
      go : (b : Bool) → ltb k 7 ≡ b → k * (stride n L * 512) + area_room n L payload k ≤ payload * 512 - 4096
      go true e =
          let i : suc k ≤ 7 = ltb-true k 7 e in
          let q = room-inner n L payload k i in
          let r : suc k * stride n L ≤ 7 * stride n L = mul-le-mul_right (stride n L) i in
          let g = end_is n L in
          omega arith
      go false e =
          let i : k ≡ 7 = let j = ltb-false k 7 e in omega arith in
          let q : area_room n L payload k ≡ (payload - area_start n L 7) * 512 = ap (area_room n L payload) i ∙ room-last n L payload in
          let r : k * (stride n L * 512) ≡ 7 * (stride n L * 512) = ap (λ (x : ℕ). x * (stride n L * 512)) i in
          let s = start_is n L 7 in
          let g = end_is n L in
          omega arith

  -- the area's sectors stand in it
  pub sectors-room : (k : ℕ) → k < 8 → piece_count 512 (n * L) * 512 ≤ area_room n L payload k
  sectors-room k h = go (ltb k 7) refl
    where
      go : (b : Bool) → ltb k 7 ≡ b → piece_count 512 (n * L) * 512 ≤ area_room n L payload k
      go true e = let q = room-inner n L payload k (ltb-true k 7 e) in let f = bytes_fit n L in let s = sectors-fit n L in omega arith
      go false e =
          let i : k ≡ 7 = let j = ltb-false k 7 e in omega arith in
          let f = bytes_fit n L in
          let s = start_is n L 7 in
          let g = end_is n L in
          let q : area_room n L payload k ≡ (payload - area_start n L 7) * 512 = ap (area_room n L payload) i ∙ room-last n L payload in
          omega arith

-- ---- slot k, from 1, of a good drive

module _ (table : Table) (d : Drive) (g : GoodDrive table d) (k : ℕ) (hk : 1 ≤ k) (h8 : k ≤ 8) where
  -- the drive's stripes
  abbrev n : ℕ
  n = d.input.stripes

  -- its key bytes
  abbrev L : ℕ
  L = key_bytes_of table d.input

  -- where its payload stands, in sectors
  abbrev start : ℕ
  start = payload_start_of table d.input

  -- the bytes behind the area, up to the next one
  abbrev tail : List ℕ
  tail = zeros (area_room n L start (k - 1) - n * L)

  -- what the slot holds
  abbrev old : SlotContent
  old = content_at d (k - 1)

  -- where the area stands among the areas
  area-offset : (o : ℕ) → area_start n L (k - 1) * 512 + o ≡ 4096 + ((k - 1) * (stride n L * 512) + o)
  area-offset o = let s = start_is n L (k - 1) in omega arith

  pub room-part : (o w : ℕ) → o + w ≤ area_room n L start (k - 1)
      → part (drive_image table d) (area_start n L (k - 1) * 512 + o) w ≡ part (old.area ++ tail) o w
  unfolding drive_image image_parts room_of
  room-part o w h =
      let j = k - 1 in
      let W = stride n L * 512 in
      let q = room-ends n L start g.input_ok.payload_least j (omega arith) in
      let c = length-room table d g j (omega arith) in
      let i = length-map_from (room_of n L start) 0 d.contents in
      ap (λ x. part (drive_image table d) x w) (area-offset o)
      ∙ inside (image_parts table d) (widths table d g) (part-widths table d g) 3 (j * W + o) w (omega arith) (omega arith)
      ∙ row (rooms table d g) W j o w (λ i h. length-room table d g i (omega arith) ∙ room-inner n L start i (omega arith)) (omega (arith, g.eight)) (omega arith)
      ∙ ap (λ x. part x o w) (room-is table d g j (omega arith))

  records_stay : (a : List ℕ) → map_from (record_of n L) 0 (set d.contents (k - 1) (with_area old a)) ≡ records table d g
  unfolding with_area record_of
  records_stay a =
      let j = k - 1 in
      sym (set-map_from (record_of n L) 0 d.contents j (with_area old a))
      ∙ ap (λ x. set (records table d g) j (record_of n L x old)) (zero-add j)
      ∙ ap (λ x. set (records table d g) j x) (sym (record_is table d g j (omega arith)))
      ∙ set-get_or (records table d g) j []

  new-room : (a : List ℕ) → a ++ tail ≡ room_of n L start (0 + (k - 1)) (with_area old a)
  unfolding with_area room_of
  new-room a = rw zero-add

  -- a string put into the room that leaves the tail as it is
  pub area-splice : (o : ℕ) (x a : List ℕ) → o + length x ≤ area_room n L start (k - 1) → splice (old.area ++ tail) o x ≡ a ++ tail
      → splice (drive_image table d) (area_start n L (k - 1) * 512 + o) x ≡ drive_image table (set_content d k (with_area old a))
  unfolding drive_image image_parts room_of set_content
  area-splice o x a h e =
      let j = k - 1 in
      let W = stride n L * 512 in
      let q = room-ends n L start g.input_ok.payload_least j (omega arith) in
      let c = length-room table d g j (omega arith) in
      let i = length-map_from (room_of n L start) 0 d.contents in
      ap (λ y. splice (drive_image table d) y x) (area-offset o)
      ∙ put (image_parts table d) (widths table d g) (part-widths table d g) 3 (j * W + o) x (omega arith) (omega arith)
      ∙ ap₂ (λ u v. flatten (flatten (head_fields table d.input) ∷ flatten u ∷ zeros gap_bytes ∷ v ∷ flatten d.sectors ∷ []))
      (sym (records_stay a))
      (row_put (rooms table d g) W j o x (λ i h. length-room table d g i (omega arith) ∙ room-inner n L start i (omega arith)) (omega (arith, g.eight)) (omega arith)
      ∙ ap flatten
      (ap (λ y. set (rooms table d g) j y) (ap (λ y. splice y o x) (room-is table d g j (omega arith)) ∙ e ∙ new-room a)
      ∙ set-map_from (room_of n L start) 0 d.contents j (with_area old a)))

  -- the area's sectors stand in the image
  pub sectors_in_lem : (area_start n L (k - 1) + piece_count 512 (n * L)) * 512 ≤ length (drive_image table d)
  sectors_in_lem =
      let e = length-drive_image table d g in
      let q = room-ends n L start g.input_ok.payload_least (k - 1) (omega arith) in
      let r = sectors-room n L start g.input_ok.payload_least (k - 1) (omega arith) in
      let s = start_is n L (k - 1) in
      let p = end_is n L in
      omega (arith, g.input_ok.payload_least)

  -- a record put where the area is already there
  pub record-splice : (f : Facts) → (slot_of f k).start ≡ area_start n L (k - 1) → (c : SlotContent) → GoodContent n L c → c.area ≡ old.area
      → splice (drive_image table d) (208 + (k - 1) * 48) (record_head c.state c.count c.salt) ≡ drive_image table (set_content d k c)
  unfolding written slot_writes
  record-splice f start-at c ok e =
      let image = drive_image table d in
      let at = area_start n L (k - 1) * 512 in
      let l : length c.area ≡ n * L = ok.area_is in
      let known : splice image at c.area ≡ image
      = splice-known image at c.area (let b = sectors_in_lem in omega arith) (ap (part image at) l ∙ area-at table d g (k - 1) (omega arith) ∙ sym e) in
      ap (λ y. splice y (208 + (k - 1) * 48) (record_head c.state c.count c.salt)) (sym known ∙ ap (λ x. splice image (x * 512) c.area) (sym start-at))
      ∙ slot-put table d g k hk h8 c ok f start-at

-- ---- a record in two halves: the edge of sector 0 lies in the salt of slot 7

-- what of a record's head stands in sector 0 then
unfoldable pub low_head : ℕ → ℕ → List ℕ → List ℕ
low_head state count salt = be32 state ++ (be32 count ++ take 8 salt)

pub halves : (state count : ℕ) (salt : List ℕ) → record_head state count salt ≡ low_head state count salt ++ drop 8 salt
unfolding record_head low_head
halves state count salt =
    ap (λ x. be32 state ++ (be32 count ++ x)) (sym (take-append-drop 8 salt))
    ∙ ap (λ x. be32 state ++ x) (sym (append_assoc (be32 count) (take 8 salt) (drop 8 salt)))
    ∙ sym (append_assoc (be32 state) (be32 count ++ take 8 salt) (drop 8 salt))

pub length-low : (state count : ℕ) (salt : List ℕ) → length salt ≡ 32 → length (low_head state count salt) ≡ 16
unfolding low_head
length-low state count salt h =
    let a = length-append (be32 state) (be32 count ++ take 8 salt) in
    let b = length-append (be32 count) (take 8 salt) in
    let c : length (take 8 salt) ≡ 8 = length-take-le 8 salt (omega arith) in
    omega (arith, length-big_endian 4 state, length-big_endian 4 count)

-- the first 8 bytes of one salt and the others of another
unfoldable pub mixed_salt : List ℕ → List ℕ → List ℕ
mixed_salt s t = take 8 s ++ drop 8 t

pub length-mixed : (s t : List ℕ) → length s ≡ 32 → length t ≡ 32 → length (mixed_salt s t) ≡ 32
unfolding mixed_salt
length-mixed s t h k = omega (arith, length-append (take 8 s) (drop 8 t), length-take-le 8 s (omega arith), length-drop 8 t)

pub take-mixed : (s t : List ℕ) → length s ≡ 32 → take 8 (mixed_salt s t) ≡ take 8 s
unfolding mixed_salt
take-mixed s t h = take_at (take 8 s) (drop 8 t) 8 (length-take-le 8 s (omega arith))

pub drop-mixed : (s t : List ℕ) → length s ≡ 32 → drop 8 (mixed_salt s t) ≡ drop 8 t
unfolding mixed_salt
drop-mixed s t h = drop_at (take 8 s) (drop 8 t) 8 (length-take-le 8 s (omega arith))
