-- An accepted format leaves the image of the ledger that it starts, and that ledger is good.
use mathlib.Core.Path.{◌≡◌, refl, sym, ap, ap₂, ◌∙◌}
use mathlib.Core.List.{List, [], ◌∷◌, ◌++◌, map, append_assoc, append-nil, flatten}
use mathlib.Core.Bool.{Bool, true, false}
use Prim.Native.Nat.{ℕ, zero, suc, ◌+◌, ◌-◌, ◌*◌, ◌/◌, ◌%◌, ◌≤◌}
use native.Mathlib.Nat.{zero-add}
use native.Mathlib.Omega.{arith}
use lib.Dec.{eqb, leb}
use lib.ListN.{length, take, drop, length-append, length-take, length-drop, take-append-drop}
use lib.Seq.{drop-append-le}
use borrow.Author.Tests.{eqb-true, leb-true}
use Rattle.octets.specs.Octets.{zeros}
use Rattle.octets.specs.Splice.{splice}
use Rattle.octets.proofs.BoolLaws.{and_split}
use Rattle.octets.proofs.OctetsLaws.{length-zeros, zeros-append, drop-zeros}
use Rattle.octets.proofs.PartsLaws.{length_flatten}
use Rattle.rules.specs.Checks.{first}
use Rattle.suite.specs.Suite.{Suite}
use Rattle.rules.specs.Profiles.{Table}
use Rattle.rules.specs.Lawful.{LawfulTable}
use Rattle.rules.specs.Layout.{slots}
use Rattle.rules.specs.Facts.{disabled}
use Rattle.rules.specs.Header.{size_ok}
use Rattle.rules.specs.Format.{FormatInput, row_of, key_bytes_of, payload_start_of, printable, format_checks, head_fields, slot_record, header_of, formatted, settle_format, format}
use Rattle.rules.proofs.ChecksLaws.{Pass, accepted}
use Rattle.rules.proofs.RowLaws.{lawful-row}
use Rattle.ledger.specs.Drive.{Drive, map_from, gap_bytes, record_of, room_of, image_parts, drive_image}
use Rattle.ledger.specs.Ledger.{empty, state_of, count_of, salt_of, area_of, content_of, sector_of, ledger_drive, ledger_image, sectors_in, start_ledger}
use Rattle.ledger.specs.Demand3.{FormatTyped}
use Rattle.ledger.proofs.LayoutLaws.{end_is, payload_least, payload_most}
use Rattle.ledger.proofs.AllLaws.{All}
use Rattle.ledger.proofs.DriveLaws.{GoodInput, GoodDrive, head_widths, head-widths, records, rooms, length-records, length-rooms, area_bytes}
use Rattle.ledger.proofs.LedgerLaws.{GoodSector, GoodLedger, content_in, drive_good}

-- ---- zeros

-- zero bytes only
abbrev Zero : List ℕ → Type 0
Zero x = x ≡ zeros (length x)

zero-zeros : (n : ℕ) → Zero (zeros n)
zero-zeros n = ap zeros (sym (length-zeros n))

zero-append : (x y : List ℕ) → Zero x → Zero y → Zero (x ++ y)
zero-append x y h k = ap₂ (λ a b. a ++ b) h k ∙ zeros-append (length x) (length y) ∙ ap zeros (sym (length-append x y))

zero_flatten : (ps : List (List ℕ)) → All Zero ps → Zero (flatten ps)
unfolding flatten zeros
zero_flatten [] h = refl
zero_flatten (p ∷ ps) h = zero-append p (flatten ps) h.0 (zero_flatten ps h.1)

splice_front : (l b : List ℕ) → splice l 0 b ≡ b ++ drop (length b) l
unfolding splice
splice_front l b = rw zero-add

-- ---- the payload's sectors

sectors-good : (table : Table) (a : FormatInput) (m : ℕ) (x : List ℕ) → length x ≡ m * 512 → All (GoodSector table a) (sectors_in m x)
unfolding sectors_in
sectors-good table a zero x e = tt
sectors-good table a (suc m) x e = (length-take 512 x ∙ omega arith, sectors-good table a m (drop 512 x) (length-drop 512 x ∙ omega arith))

sectors_are : (S : Suite) (u m : ℕ) (x : List ℕ) → length x ≡ m * 512 → flatten (map_from (sector_of S) u (sectors_in m x)) ≡ x
unfolding sectors_in flatten map_from sector_of
sectors_are S u zero [] e = refl
sectors_are S u zero (y ∷ x) e = absurd (omega arith)
sectors_are S u (suc m) x e = ap (λ y. take 512 x ++ y) (sectors_are S (suc u) m (drop 512 x) (length-drop 512 x ∙ omega arith)) ∙ take-append-drop 512 x

-- ---- an accepted format

format-settled : (table : Table) (a : FormatInput) (image : List ℕ) (b : Bool) (r : ℕ) → eqb r 0 ≡ b → (settle_format table a image r b).code ≡ 0
    → (r ≡ 0) × ((settle_format table a image r b).image ≡ formatted table a image)
unfolding settle_format
format-settled table a image true r e h = (eqb-true r 0 e, refl)
format-settled table a image false r e h = absurd (let z : eqb r 0 ≡ true = ap (λ (x : ℕ). eqb x 0) h in let y : ◌≡◌ {A = ℕ} 0 1 = cc in omega arith)

module _ (table : Table) (lawful : LawfulTable table) (a : FormatInput) (typed : FormatTyped a) (image : List ℕ) (yes' : (format table a image).code ≡ 0) where
  -- the drive's key bytes
  abbrev L : ℕ
  L = key_bytes_of table a

  -- its payload start, in sectors
  abbrev start : ℕ
  start = payload_start_of table a

  checked : (first (format_checks table a image) ≡ 0) × ((format table a image).image ≡ formatted table a image)
  unfolding format
  checked = format-settled table a image _ _ refl yes'

  passed : Pass (format_checks table a image)
  unfolding format_checks
  passed = accepted (format_checks table a image) refl checked.0

  input-good : GoodInput table a
  unfolding format_checks
  input-good =
      let c = passed in
      let n = and_split (leb 1 a.stripes) (leb a.stripes 4000) c.1.1.0 in
      let u = and_split (eqb (length a.uuid) 36) (printable a.uuid) c.1.1.1.1.1.0 in
      let r = lawful-row table.rows lawful.rows_ok a.profile c.1.0 in
      let m = leb-true (row_of table a).min_checksum_count a.count c.1.1.1.1.0 in
      record {
        row = r;
        suite = lawful.suites a.profile c.1.0;
        stripes_least = leb-true _ _ n.0;
        stripes_most = leb-true _ _ n.1;
        salt_is = typed.salt_is;
        count_least = omega (arith, r.checksum_count);
        count_most = typed.count_most;
        uuid_is = eqb-true _ _ u.0;
        payload_least = payload_least table.alignment _ _ lawful.alignment_least;
        payload_most = payload_most _ _ (leb-true _ _ n.1) r.key_most table.alignment lawful.alignment_least lawful.alignment_most;
      }

  room : start * 512 ≤ length image
  unfolding format_checks
  room = leb-true _ _ passed.1.1.1.1.1.1.0

  whole : length image % 512 ≡ 0
  unfolding format_checks size_ok
  whole = eqb-true _ _ (and_split (leb 1024 (length image)) (eqb (length image % 512) 0) passed.0).1

  length_rest : length (drop (start * 512) image) ≡ (length image / 512 - start) * 512
  length_rest = let r = room in let w = whole in length-drop (start * 512) image ∙ omega arith

  pub start-good : GoodLedger table (start_ledger table a image)
  unfolding start_ledger
  start-good =
      let z = length-zeros (a.stripes * L) in
      record {
        input_ok = input-good;
        eight = refl;
        slots_ok = (z, (z, (z, (z, (z, (z, (z, (z, tt))))))));
        sectors_ok = sectors-good table a _ _ length_rest;
      }

  -- the drive of the ledger that the format starts
  abbrev D : Drive
  D = ledger_drive table (start_ledger table a image)

  -- it is good
  abbrev G : GoodDrive table D
  G = drive_good table (start_ledger table a image) start-good

  room-zero : (k : ℕ) → Zero (room_of a.stripes L start k (content_in table a (empty (zeros (a.stripes * L)))))
  unfolding room_of content_of area_of
  room-zero k = zero-append _ _ (zero-zeros _) (zero-zeros _)

  rooms-zero : flatten (rooms table D G) ≡ zeros (area_bytes table D G)
  unfolding start_ledger ledger_drive map_from
  rooms-zero =
      zero_flatten (rooms table D G)
      (room-zero 0, (room-zero 1, (room-zero 2, (room-zero 3, (room-zero 4, (room-zero 5, (room-zero 6, (room-zero 7, tt))))))))
      ∙ ap zeros (length-rooms table D G)

  records_are : map (slot_record a.stripes L disabled 0 (zeros 32)) slots ≡ records table D G
  unfolding start_ledger ledger_drive map_from record_of content_of state_of count_of salt_of
  records_are = refl

  length-header : length (header_of table a) ≡ 592
  unfolding header_of start_ledger ledger_drive
  length-header =
      length-append (flatten (head_fields table a)) _
      ∙ ap₂ (λ x y. x + y) (length_flatten (head_fields table a) head_widths (head-widths table a input-good)) (ap (λ x. length (flatten x)) records_are ∙ length-records table D G)

  pub format_starts : (format table a image).image ≡ ledger_image table (start_ledger table a image)
  unfolding formatted header_of ledger_image drive_image image_parts start_ledger ledger_drive flatten
  format_starts =
      let A = area_bytes table D G in
      let rest = drop (start * 512) image in
      let head = flatten (head_fields table a) in
      let recs = flatten (map (slot_record a.stripes L disabled 0 (zeros 32)) slots) in
      let e = end_is a.stripes L in
      let q : start * 512 ≡ 592 + (gap_bytes + A) = omega (arith, input-good.payload_least) in
      checked.1
      ∙ ap (λ x. splice x 0 (head ++ recs)) (splice_front image (zeros (start * 512)) ∙ ap (λ x. zeros (start * 512) ++ drop x image) (length-zeros (start * 512)))
      ∙ splice_front (zeros (start * 512) ++ rest) (head ++ recs)
      ∙ ap (λ x. (head ++ recs) ++ x)
      (ap₂ (λ x y. drop x (zeros y ++ rest)) length-header q
      ∙ drop-append-le 592 (zeros (592 + (gap_bytes + A))) rest (let z = length-zeros (592 + (gap_bytes + A)) in omega arith)
      ∙ ap (λ x. x ++ rest) (drop-zeros 592 (592 + (gap_bytes + A)) ∙ ap zeros (let m : 592 + (gap_bytes + A) - 592 ≡ gap_bytes + A = omega arith in m) ∙ sym (zeros-append gap_bytes A))
      ∙ append_assoc (zeros gap_bytes) (zeros A) rest)
      ∙ append_assoc head recs (zeros gap_bytes ++ (zeros A ++ rest))
      ∙ ap (λ x. head ++ x) (ap₂ (λ x y. x ++ (zeros gap_bytes ++ y)) (ap flatten records_are)
      (ap₂ (λ x y. x ++ y) (sym rooms-zero) (sym (append-nil _ ∙ sectors_are _ 0 _ rest length_rest))))
