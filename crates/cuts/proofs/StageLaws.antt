-- Every cut of the work on one slot of a good drive leaves the image of a good drive: the same one, with that slot's content old, new, or in part new.
use mathlib.Core.Path.{◌≡◌, refl, sym, ap, ap₂, subst, ◌∙◌}
use mathlib.Core.Logic.{◌⊎◌, inl, inr}
use mathlib.Core.List.{List, [], ◌∷◌, ◌++◌}
use mathlib.Core.Bool.{Bool, true, false}
use Prim.Native.Nat.{ℕ, zero, suc, ◌+◌, ◌-◌, ◌*◌, ◌≤◌, ◌<◌}
use native.Mathlib.Nat.{add-zero}
use native.Mathlib.Omega.{arith}
use lib.Dec.{leb}
use lib.ListN.{length, take, drop, length-append, length-drop}
use lib.Seq.{take_all}
use borrow.Author.Tests.{leb-true, leb-false}
use Rattle.octets.specs.Octets.{zeros, be32}
use Rattle.octets.specs.Splice.{part, splice}
use Rattle.octets.specs.Pieces.{piece_count}
use Rattle.octets.proofs.OctetsLaws.{length-zeros}
use Rattle.octets.proofs.SpliceLaws.{length_part, part-here, part_all, part-part, splice-here, splice_all, splice-next}
use Rattle.rules.specs.Profiles.{Table}
use Rattle.rules.specs.Layout.{area_start}
use Rattle.rules.specs.Facts.{Facts, slot_of}
use Rattle.rules.specs.Step.{written, record_head, slot_writes}
use Rattle.rules.specs.Sectors.{SectorWrite, sectors_from, area_count, area_list, head_list, slot_list}
use Rattle.rules.specs.Format.{key_bytes_of, payload_start_of, slot_record}
use Rattle.rules.proofs.FormatLaws.{length-record_head}
use Rattle.ledger.specs.Drive.{SlotContent, Drive, area_room, record_of, drive_image}
use Rattle.ledger.proofs.LayoutLaws.{start_is, end_is, room_fits}
use Rattle.ledger.proofs.DriveLaws.{GoodDrive, GoodContent, content_at, content_ok}
use Rattle.ledger.proofs.DriveLaws.{length-drive_image, record-at}
use Rattle.ledger.proofs.WritingLaws.{set_content, good-content, slot-put}
use Rattle.cuts.specs.Cuts.{carried_out, marked, Point, in_area, in_head, stage_at}
use Rattle.cuts.specs.CutSafe.{StageImage}
use Rattle.cuts.proofs.PutLaws.{splice-known, mix}
use Rattle.cuts.proofs.RoomLaws.{with_area, good-area, set_twice, set_back, content-set, sectors-room, room-part, area-splice, sectors_in_lem, record-splice}
use Rattle.cuts.proofs.RoomLaws.{low_head, halves, length-low, mixed_salt, length-mixed, take-mixed, drop-mixed}
use Rattle.cuts.proofs.CarryLaws.{carried-append, one-low, one_high, one-across, area-carried, slot-carried}

-- the image of the drive with another content of slot k: the new one, or one with the old state
record StageCut (table : Table) (d : Drive) (k : ℕ) (c : SlotContent) (z : List ℕ) : Type 0 where
  content : SlotContent
  good : GoodContent d.input.stripes (key_bytes_of table d.input) content
  image_is : z ≡ drive_image table (set_content d k content)
  which : (content ≡ c) ⊎ (content.state ≡ (content_at d (k - 1)).state)

-- slot k's content becomes c; f are facts that have the slot where the drive has it
module _ (table : Table) (d : Drive) (g : GoodDrive table d) (k : ℕ) (hk : 1 ≤ k) (h8 : k ≤ 8)
    (c : SlotContent) (ok : GoodContent d.input.stripes (key_bytes_of table d.input) c)
    (f : Facts) (start-at : (slot_of f k).start ≡ area_start d.input.stripes (key_bytes_of table d.input) (k - 1))
    (count_at : area_count f k ≡ piece_count 512 (d.input.stripes * key_bytes_of table d.input)) where
  -- the drive's stripes
  abbrev n₁ : ℕ
  n₁ = d.input.stripes

  -- its key bytes
  abbrev L₁ : ℕ
  L₁ = key_bytes_of table d.input

  -- where its payload stands, in sectors
  abbrev P : ℕ
  P = payload_start_of table d.input

  -- where the area stands, in sectors
  abbrev S : ℕ
  S = area_start n₁ L₁ (k - 1)

  -- how many sectors it has
  abbrev m : ℕ
  m = piece_count 512 (n₁ * L₁)

  -- its room, in bytes
  abbrev R : ℕ
  R = area_room n₁ L₁ P (k - 1)

  -- the zeros behind it
  abbrev rest : List ℕ
  rest = zeros (R - n₁ * L₁)

  -- the content before
  abbrev was : SlotContent
  was = content_at d (k - 1)

  -- the image before
  abbrev image : List ℕ
  image = drive_image table d

  -- and after
  abbrev after : List ℕ
  after = drive_image table (set_content d k c)

  -- where the record stands
  abbrev o : ℕ
  o = 208 + (k - 1) * 48

  -- its new head
  abbrev head : List ℕ
  head = record_head c.state c.count c.salt

  was_ok : GoodContent n₁ L₁ was
  was_ok = content_ok table d g (k - 1) (omega arith)

  content_of_lem : (b : SlotContent) → content_at (set_content d k b) (k - 1) ≡ b
  content_of_lem b = content-set d k b (omega (arith, g.eight))

  head-40 : length head ≡ 40
  head-40 = omega (arith, length-record_head c.state c.count c.salt, ok.salt_is)

  least : 2 ≤ (slot_of f k).start
  least = let s = start_is n₁ L₁ (k - 1) in omega (arith, start-at)

  room : ((slot_of f k).start + area_count f k) * 512 ≤ length image
  room = omega (arith, start-at, count_at, sectors_in_lem table d g k hk h8)

  fits : length c.area ≤ area_count f k * 512
  fits = omega (arith, count_at, ok.area_is)

  most : 208 + (k - 1) * 48 + length head ≤ 1024
  most = omega (arith, head-40)

  -- the work is the slot's writes
  work_is : written (slot_writes f k c.area head) image ≡ after
  work_is = slot-put table d g k hk h8 c ok f start-at

  -- ---- a cut in the area

  -- the drive with another area
  abbrev area_drive : List ℕ → Drive
  area_drive a = set_content d k (with_area was a)

  area-good : (a : List ℕ) → length a ≡ n₁ * L₁ → GoodDrive table (area_drive a)
  area-good a h = good-content table d g k (with_area was a) (good-area n₁ L₁ was a was_ok h)

  after-room : (u w : ℕ) → u + w ≤ R → part after (S * 512 + u) w ≡ part (c.area ++ rest) u w
  unfolding set_content
  after-room u w h =
      room-part table (set_content d k c) (good-content table d g k c ok) k hk h8 u w h ∙ ap (λ (x : SlotContent). part (x.area ++ rest) u w) (content_of_lem c)

  put-again : (a b x : List ℕ) (u : ℕ) → length a ≡ n₁ * L₁ → u + length x ≤ R → splice (a ++ rest) u x ≡ b ++ rest
      → splice (drive_image table (area_drive a)) (S * 512 + u) x ≡ drive_image table (area_drive b)
  unfolding set_content with_area
  put-again a b x u la h e =
      let D = area_drive a in
      let co = content_of_lem (with_area was a) in
      area-splice table D (area-good a la) k hk h8 u x b h (ap (λ (y : SlotContent). splice (y.area ++ rest) u x) co ∙ e)
      ∙ ap (λ (y : SlotContent). drive_image table (set_content D k (with_area y b))) co
      ∙ ap (drive_image table) (set_twice d k (with_area was a) (with_area was b))

  rooms-fit : (m * 512 ≤ R) × (n₁ * L₁ + length rest ≡ R)
  rooms-fit = (
    sectors-room n₁ L₁ P g.input_ok.payload_least (k - 1) (omega arith),
    omega (arith, length-zeros (R - n₁ * L₁), room_fits n₁ L₁ P g.input_ok.payload_least (k - 1) (omega arith)),
  )

  -- sector i of the new area put into another
  sector_put : (i : ℕ) → i < m → (a b : List ℕ) → length a ≡ n₁ * L₁ → splice (a ++ rest) (i * 512) (part (c.area ++ rest) (i * 512) 512) ≡ b ++ rest
      → splice (drive_image table (area_drive a)) ((S + i) * 512) (part after ((S + i) * 512) 512) ≡ drive_image table (area_drive b)
  sector_put i h a b la e =
      let r = rooms-fit in
      let q : (S + i) * 512 ≡ S * 512 + i * 512 = omega arith in
      let x = part (c.area ++ rest) (i * 512) 512 in
      let lx : length x ≡ 512 = length_part (c.area ++ rest) (i * 512) 512 (omega (arith, length-append c.area rest, ok.area_is)) in
      ap₂ (λ (y : ℕ) (w : List ℕ). splice (drive_image table (area_drive a)) y w) q (ap (λ y. part after y 512) q ∙ after-room (i * 512) 512 (omega arith))
      ∙ put-again a b x (i * 512) la (omega arith) e

  step_in : (i : ℕ) → i < m → (a : List ℕ) → length a ≡ n₁ * L₁
      → (b : List ℕ) × (length b ≡ n₁ * L₁) × (splice (drive_image table (area_drive a)) ((S + i) * 512) (part after ((S + i) * 512) 512) ≡ drive_image table (area_drive b))
  step_in i h a la =
      let r = rooms-fit in
      let z = mix a c.area rest (i * 512) 512 (la ∙ sym ok.area_is) (omega arith) (omega arith) in
      (z.0, z.1 ∙ la, sector_put i h a z.0 la z.2)

  marked_in : (bs : List Bool) (i r : ℕ) → i + r ≤ m → (a : List ℕ) → length a ≡ n₁ * L₁
      → (b : List ℕ) × (length b ≡ n₁ * L₁) × (carried_out (marked bs (sectors_from after (S + i) r)) (drive_image table (area_drive a)) ≡ drive_image table (area_drive b))
  unfolding carried_out marked sectors_from
  marked_in [] i r h a la = (a, la, refl)
  marked_in (b ∷ bs) i zero h a la = (a, la, refl)
  marked_in (true ∷ bs) i (suc r) h a la =
      let s = step_in i (omega arith) a la in
      let t = marked_in bs (suc i) r (omega arith) s.0 s.1 in
      let q : suc (S + i) ≡ S + suc i = omega arith in
      (t.0, t.1, ap₂ (λ (x : ℕ) (y : List ℕ). carried_out (marked bs (sectors_from after x r)) y) q s.2 ∙ t.2)
  marked_in (false ∷ bs) i (suc r) h a la =
      let t = marked_in bs (suc i) r (omega arith) a la in
      let q : suc (S + i) ≡ S + suc i = omega arith in
      (t.0, t.1, ap (λ (x : ℕ). carried_out (marked bs (sectors_from after x r)) (drive_image table (area_drive a))) q ∙ t.2)

  area_none : drive_image table d ≡ drive_image table (area_drive was.area)
  unfolding with_area
  area_none = ap (drive_image table) (sym (set_back d k))

  area-list : area_list f k after ≡ sectors_from after (S + 0) m
  unfolding area_list
  area-list = ap₂ (λ (x y : ℕ). sectors_from after x y) (start-at ∙ sym (add-zero S)) count_at

  at-area : (bs : List Bool) → StageCut table d k c (carried_out (marked bs (area_list f k after)) image)
  unfolding with_area
  at-area bs =
      let r = marked_in bs 0 m (omega arith) was.area was_ok.area_is in
      record {
        content = with_area was r.0;
        good = good-area n₁ L₁ was r.0 was_ok r.1;
        image_is = ap₂ (λ (x : List SectorWrite) (y : List ℕ). carried_out (marked bs x) y) area-list area_none ∙ r.2;
        which = inr refl;
      }

  -- ---- all of the area

  -- the drive with the new area and the old record
  abbrev mid : Drive
  mid = area_drive c.area

  -- its image
  abbrev image₁ : List ℕ
  image₁ = drive_image table mid

  mid-good : GoodDrive table mid
  mid-good = area-good c.area ok.area_is

  area_all : carried_out (area_list f k after) image ≡ image₁
  area_all =
      let r = room_fits n₁ L₁ P g.input_ok.payload_least (k - 1) (omega arith) in
      let cover : splice (was.area ++ rest) 0 c.area ≡ c.area ++ rest
      = splice-here was.area rest c.area 0 (omega (arith, was_ok.area_is, ok.area_is))
      ∙ ap (λ x. x ++ rest) (splice_all was.area c.area (ok.area_is ∙ sym was_ok.area_is)) in
      ap (λ x. carried_out (area_list f k x) image) (sym work_is)
      ∙ area-carried f k image c.area head least room fits most
      ∙ ap₂ (λ (x : ℕ) (y : List ℕ). splice y x c.area) (ap (λ (x : ℕ). x * 512) start-at ∙ sym (add-zero (S * 512))) area_none
      ∙ put-again was.area c.area c.area 0 was_ok.area_is (omega (arith, ok.area_is)) cover

  at_none : StageCut table d k c image₁
  unfolding with_area
  at_none = record { content = with_area was c.area; good = good-area n₁ L₁ was c.area was_ok ok.area_is; image_is = refl; which = inr refl }

  -- ---- then sector 1

  length-mid : 1024 ≤ length image₁
  unfolding set_content
  length-mid = let e = length-drive_image table mid mid-good in let p = end_is n₁ L₁ in omega (arith, g.input_ok.payload_least)

  -- a record put on the drive between
  record-put : (b : SlotContent) → GoodContent n₁ L₁ b → b.area ≡ c.area
      → splice image₁ (208 + (k - 1) * 48) (record_head b.state b.count b.salt) ≡ drive_image table (set_content d k b)
  unfolding set_content with_area
  record-put b okb e =
      record-splice table mid mid-good k hk h8 f start-at b okb (e ∙ sym (ap (λ (x : SlotContent). x.area) (content_of_lem (with_area was c.area))))
      ∙ ap (drive_image table) (set_twice d k (with_area was c.area) b)

  after_is : splice image₁ o head ≡ after
  after_is = record-put c ok refl

  one-is : splice image₁ 512 (part after 512 512) ≡ splice image₁ 512 (part (splice image₁ o head) 512 512)
  one-is = ap (λ x. splice image₁ 512 (part x 512 512)) (sym after_is)

  one-before : k ≤ 6 → StageCut table d k c (splice image₁ 512 (part after 512 512))
  one-before h =
      let e = head-40 in
      subst (StageCut table d k c) (sym (one-is ∙ one-low image₁ o head (omega arith) length-mid (omega arith))) at_none

  one-eight : 8 ≤ k → StageCut table d k c (splice image₁ 512 (part after 512 512))
  one-eight h =
      record {
        content = c;
        good = ok;
        image_is = one-is ∙ one_high image₁ o head most length-mid (omega arith) ∙ after_is;
        which = inl refl;
      }

  -- slot 7: state, count and 8 bytes of the salt are old, 24 bytes of the salt are new
  abbrev half : SlotContent
  half = record { state = was.state; count = was.count; salt = mixed_salt was.salt c.salt; area = c.area }

  half_ok : GoodContent n₁ L₁ half
  half_ok =
      record {
        state_is = was_ok.state_is;
        state_most = was_ok.state_most;
        count_most = was_ok.count_most;
        enabled_count = was_ok.enabled_count;
        salt_is = length-mixed was.salt c.salt was_ok.salt_is ok.salt_is;
        area_is = ok.area_is;
      }

  -- the half of the old record that stands in sector 0
  abbrev low : List ℕ
  low = low_head was.state was.count was.salt

  low-16 : length low ≡ 16
  low-16 = length-low was.state was.count was.salt was_ok.salt_is

  low_stands : part image₁ o 16 ≡ low
  unfolding set_content with_area record_of slot_record
  low_stands =
      let j = k - 1 in
      let w = low-16 in
      let h = record_head was.state was.count was.salt in
      let lh : length h ≡ 40 = omega (arith, length-record_head was.state was.count was.salt, was_ok.salt_is) in
      ap (λ x. part image₁ x 16) (sym (add-zero o))
      ∙ sym (part-part image₁ o 48 0 16 (omega arith))
      ∙ ap (λ x. part x 0 16) (record-at table mid mid-good j (omega arith))
      ∙ ap (λ (x : SlotContent). part (record_of n₁ L₁ j x) 0 16) (content_of_lem (with_area was c.area))
      ∙ part-here h _ 0 16 (omega arith)
      ∙ ap (λ x. part x 0 16) (halves was.state was.count was.salt)
      ∙ part-here low (drop 8 was.salt) 0 16 (omega arith)
      ∙ part_all low 16 w

  half-head : record_head was.state was.count (mixed_salt was.salt c.salt) ≡ low ++ drop 8 c.salt
  unfolding low_head
  half-head =
      halves was.state was.count (mixed_salt was.salt c.salt)
      ∙ ap₂ (λ (x y : List ℕ). (be32 was.state ++ (be32 was.count ++ x)) ++ y)
      (take-mixed was.salt c.salt was_ok.salt_is) (drop-mixed was.salt c.salt was_ok.salt_is)

  half_is : k ≡ 7 → splice image₁ 512 (drop 8 c.salt) ≡ drive_image table (set_content d k half)
  half_is h =
      let w = low-16 in
      let l = length-mid in
      let e : 512 ≡ o + length low = omega arith in
      let s : part image₁ o (length low) ≡ low = ap (part image₁ o) w ∙ low_stands in
      ap (λ x. splice x 512 (drop 8 c.salt)) (sym (splice-known image₁ o low (omega arith) s))
      ∙ splice-next image₁ o low 512 (drop 8 c.salt) e (omega arith)
      ∙ ap (λ x. splice image₁ o x) (sym half-head)
      ∙ record-put half half_ok refl

  one_seven : k ≡ 7 → StageCut table d k c (splice image₁ 512 (part after 512 512))
  one_seven h =
      let w = length-low c.state c.count c.salt ok.salt_is in
      let l = length-mid in
      let e : o + length (low_head c.state c.count c.salt) ≡ 512 = omega arith in
      let t : 512 + length (drop 8 c.salt) ≤ 1024 = omega (arith, length-drop 8 c.salt, ok.salt_is) in
      record {
        content = half;
        good = half_ok;
        image_is = one-is
            ∙ ap (λ x. splice image₁ 512 (part (splice image₁ o x) 512 512)) (halves c.state c.count c.salt)
            ∙ one-across image₁ (low_head c.state c.count c.salt) (drop 8 c.salt) o e t l
            ∙ half_is h;
        which = inr refl;
      }

  at_one : StageCut table d k c (splice image₁ 512 (part after 512 512))
  at_one = go (leb k 6) (leb 8 k) refl refl
    where
      go : (a b : Bool) → leb k 6 ≡ a → leb 8 k ≡ b → StageCut table d k c (splice image₁ 512 (part after 512 512))
      go true b e f = one-before (leb-true k 6 e)
      go false true e f = one-eight (leb-true 8 k f)
      go false false e f = one_seven (let x = leb-false k 6 e in let y = leb-false 8 k f in omega arith)

  -- ---- then sector 0

  pub stage-full : carried_out (slot_list f k after) image ≡ after
  stage-full =
      ap (λ x. carried_out (slot_list f k x) image) (sym work_is) ∙ slot-carried f k image c.area head least room fits most ∙ work_is

  head-carried : carried_out (head_list after) image₁ ≡ after
  unfolding slot_list
  head-carried = ap (carried_out (head_list after)) (sym area_all) ∙ sym (carried-append (area_list f k after) (head_list after) image) ∙ stage-full

  -- ---- each point

  in_head_lem : (j : ℕ) → StageCut table d k c (carried_out (take j (head_list after)) image₁)
  unfolding carried_out head_list
  in_head_lem zero = at_none
  in_head_lem (suc zero) = at_one
  in_head_lem (suc (suc j)) =
      let e : take (suc (suc j)) (head_list after) ≡ head_list after = take_all (suc (suc j)) (head_list after) (omega arith) in
      record { content = c; good = ok; image_is = ap (λ (x : List SectorWrite). carried_out x image₁) e ∙ head-carried; which = inl refl }

  stage-cut : (p : Point) → StageCut table d k c (stage_at f k after image p)
  unfolding stage_at
  stage-cut (in_area done) = at-area done
  stage-cut (in_head j) =
      subst (StageCut table d k c) (sym (carried-append (area_list f k after) (take j (head_list after)) image ∙ ap (carried_out (take j (head_list after))) area_all)) (in_head_lem j)

  -- what holds of such drives holds at each cut
  pub at_each : (P : List ℕ → Type 0)
      → ((b : SlotContent) → GoodContent n₁ L₁ b → (b ≡ c) ⊎ (b.state ≡ (content_at d (k - 1)).state) → P (drive_image table (set_content d k b)))
      → (end z : List ℕ) → end ≡ drive_image table (set_content d k c) → StageImage f k end (drive_image table d) z → P z
  at_each P h end z e s =
      let r = stage-cut s.0 in
      subst P (sym (s.1 ∙ ap (λ (y : List ℕ). stage_at f k y image s.0) e ∙ r.image_is)) (h r.content r.good r.which)
