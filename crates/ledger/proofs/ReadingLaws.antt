-- The facts of a good drive's image are the drive's, and its header check passes.
use mathlib.Core.Path.{◌≡◌, refl, sym, ap, ap₂, ◌∙◌}
use mathlib.Core.List.{List, [], ◌∷◌, map}
use mathlib.Core.Bool.{Bool, true}
use Prim.Native.Nat.{ℕ, suc, ◌+◌, ◌-◌, ◌*◌, ◌%◌, ◌≤◌, ◌<◌}
use native.Mathlib.Nat.{zero-add, add-zero}
use native.Mathlib.Omega.{arith}
use lib.Dec.{ltb}
use lib.ListN.{length, drop, get_or}
use borrow.Author.Tests.{lt-ltb, le-leb, eq-eqb, ne_eqb}
use Rattle.octets.specs.Octets.{be32_at}
use Rattle.octets.specs.Splice.{part}
use Rattle.octets.proofs.OctetsLaws.{same_refl}
use Rattle.rules.specs.Checks.{every}
use Rattle.rules.specs.Profiles.{Table, profile_at}
use Rattle.rules.specs.Layout.{area_start, areas_end, slots}
use Rattle.rules.specs.Facts.{SlotFacts, slot_of, no_slot, slot_at, profile_in, facts_of}
use Rattle.rules.specs.Header.{magic, version, size_ok, record_ok, slot_ok, area_end, inside, apart, all_apart, sound_checks, header_checks}
use Rattle.rules.specs.Format.{key_bytes_of, payload_start_of, head_fields}
use Rattle.rules.proofs.ChecksLaws.{Pass}
use Rattle.ledger.specs.Drive.{SlotContent, Drive, map_from, record_of, drive_image, content_facts, drive_facts}
use Rattle.ledger.proofs.PartsLaws.{get_d_map_from, upto, tab}
use Rattle.ledger.proofs.LayoutLaws.{start_is, bytes_fit, sectors-fit, end_is, start-most, area_ends}
use Rattle.ledger.proofs.DriveLaws.{GoodDrive, GoodContent, be32_field, record_fields, record_field, no_content, content_at}
use Rattle.ledger.proofs.DriveLaws.{content_ok, header_field, record-at, area-at, payload-at, length-drive_image}

-- ---- facts

module _ (table : Table) (d : Drive) (g : GoodDrive table d) where
  -- the drive's stripes
  abbrev n : ℕ
  n = d.input.stripes

  -- its key bytes
  abbrev L : ℕ
  L = key_bytes_of table d.input

  -- its image
  abbrev image : List ℕ
  image = drive_image table d

  slot_read : (k : ℕ) → k < 8 → slot_at image L k ≡ content_facts n L k (content_at d k)
  unfolding slot_at content_facts record_of record_fields
  slot_read k h =
      let c = content_at d k in
      let r = part image (208 + k * 48) 48 in
      let e = record-at table d g k h in
      let ok = content_ok table d g k h in
      let o = g.input_ok in
      let f = record_field n L c.state c.count c.salt k ok.salt_is in
      let state = be32_field r 0 c.state (ap (λ x. part x 0 4) e ∙ f 0 (omega arith)) ok.state_most in
      let count = be32_field r 4 c.count (ap (λ x. part x 4 4) e ∙ f 1 (omega arith)) ok.count_most in
      let salt = ap (λ x. part x 8 32) e ∙ f 2 (omega arith) in
      let start = be32_field r 40 (area_start n L k) (ap (λ x. part x 40 4) e ∙ f 3 (omega arith)) (start-most n L o.stripes_most o.row.key_most k h) in
      let stripes = be32_field r 44 n (ap (λ x. part x 44 4) e ∙ f 4 (omega arith)) (omega (arith, o.stripes_most)) in
      let area = ap₂ (λ x y. part image (x * 512) (y * L)) start stripes ∙ area-at table d g k h in
      λ i. record { state = state i; count = count i; salt = salt i; start = start i; stripes = stripes i; area = area i }

  key-read : be32_at image 108 ≡ L
  unfolding head_fields
  key-read = be32_field image 108 L (header_field table d g 6 (omega arith) (omega arith)) (omega (arith, g.input_ok.row.key_most))

  payload-read : be32_at image 104 ≡ payload_start_of table d.input
  unfolding head_fields
  payload-read = be32_field image 104 (payload_start_of table d.input) (header_field table d g 5 (omega arith) (omega arith)) g.input_ok.payload_most

  profile-read : profile_in table.rows image ≡ d.input.profile
  unfolding head_fields profile_in
  profile-read =
      let f = header_field table d g in
      rw (key-read, f 2 (omega arith) (omega arith), f 3 (omega arith) (omega arith), f 4 (omega arith) (omega arith)) g.input_ok.row.found

  slots_read : map (slot_at image (be32_at image 108)) slots ≡ map_from (content_facts n L) 0 d.contents
  slots_read =
      ap (λ x. map (slot_at image x) slots) key-read
      ∙ ap (λ x. map (slot_at image L) (upto 0 x)) (sym g.eight)
      ∙ tab _ _ no_content 0 d.contents (λ k h. rw zero-add (slot_read k (omega (arith, g.eight))))

  pub facts-read : facts_of table (drive_image table d) ≡ drive_facts table d
  unfolding facts_of drive_facts head_fields
  facts-read =
      let f = header_field table d g in
      let row = ap (profile_at table.rows) profile-read in
      let suite = ap table.suite_of profile-read in
      let sum = f 7 (omega arith) (omega arith) in
      let salt = f 8 (omega arith) (omega arith) in
      let count = be32_field image 164 d.input.count (f 9 (omega arith) (omega arith)) g.input_ok.count_most in
      let payload = ap (λ x. drop (x * 512) image) payload-read ∙ payload-at table d g in
      λ i. record { profile = row i; suite = suite i; payload_at = payload-read i; checksum = sum i; checksum_salt = salt i; checksum_count = count i; slot_facts = slots_read i; payload = payload i }

-- ---- the header check

every-content : (t : SlotFacts → Bool) (f : ℕ → SlotContent → SlotFacts) (i : ℕ) (xs : List SlotContent)
    → ((k : ℕ) → k < length xs → t (f (i + k) (get_or xs k no_content)) ≡ true) → every t (map_from f i xs) ≡ true
unfolding every map_from
every-content t f i [] h = refl
every-content t f i (x ∷ xs) h =
    let a : t (f i x) ≡ true = rw add-zero at (h 0 (omega arith)) in
    rw a (every-content t f (suc i) xs (λ k l. let q : suc i + k ≡ i + suc k = omega arith in rw q (h (suc k) (omega arith))))

two-apart : (L n i k : ℕ) (s t : SlotContent) → apart L (content_facts n L i s) (content_facts n L (suc i + k) t) ≡ true
unfolding apart area_end content_facts
two-apart L n i k s t =
    let a = start_is n L i in
    let b = start_is n L (suc i + k) in
    let c = bytes_fit n L in
    let d = sectors-fit n L in
    let q : area_start n L i * 512 + n * L ≤ area_start n L (suc i + k) * 512 = omega arith in
    rw (le-leb _ _ q)

all_apart_lem : (L n i : ℕ) (xs : List SlotContent) → all_apart L (map_from (content_facts n L) i xs) ≡ true
unfolding all_apart map_from
all_apart_lem L n i [] = refl
all_apart_lem L n i (x ∷ xs) =
    rw (every-content (apart L (content_facts n L i x)) (content_facts n L) (suc i) xs (λ k h. two-apart L n i k x (get_or xs k no_content))) (all_apart_lem L n (suc i) xs)

slot_ok_lem : (n L k : ℕ) (c : SlotContent) → 1 ≤ n → n ≤ 4000 → GoodContent n L c → slot_ok (content_facts n L k c) ≡ true
unfolding slot_ok record_ok content_facts
slot_ok_lem n L k c h i g = rw (g.state_is, le-leb _ _ h, le-leb _ _ i, g.enabled_count)

slot-inside : (L n payload k : ℕ) (c : SlotContent) → areas_end n L ≤ payload → k < 8 → inside L payload (content_facts n L k c) ≡ true
unfolding inside area_end content_facts
slot-inside L n payload k c after h =
    let a = start_is n L k in
    let b = end_is n L in
    let e = area_ends n L payload after k h in
    let q : 2 ≤ area_start n L k = omega arith in
    let r : area_start n L k * 512 + n * L ≤ payload * 512 = omega arith in
    rw (le-leb _ _ q, le-leb _ _ r)

module _ (table : Table) (d : Drive) (g : GoodDrive table d) where
  sound-passes : Pass (sound_checks (drive_facts table d) (length (drive_image table d)))
  unfolding sound_checks drive_facts
  sound-passes =
      let n = d.input.stripes in
      let L = key_bytes_of table d.input in
      let o = g.input_ok in
      let e = length-drive_image table d g in
      let fit : payload_start_of table d.input * 512 ≤ length (drive_image table d) = omega arith in (
        rw (ne_eqb d.input.count 0 (λ e. omega (arith, o.count_least)))
            (every-content slot_ok _ 0 d.contents (λ k h. slot_ok_lem n L (0 + k) _ o.stripes_least o.stripes_most (content_ok table d g k (omega (arith, g.eight))))),
        (
          rw (
            le-leb _ _ fit,
            every-content (inside L (payload_start_of table d.input)) (content_facts n L) 0 d.contents
                (λ k h. slot-inside L n _ (0 + k) (get_or d.contents k no_content) o.payload_least (omega (arith, g.eight))),
          )
              (all_apart_lem L n 0 d.contents),
          tt,
        ),
      )

  pub header_passes : Pass (header_checks table (drive_image table d))
  unfolding header_checks head_fields size_ok
  header_passes =
      let f = header_field table d g in
      let e = length-drive_image table d g in
      let b = end_is d.input.stripes (key_bytes_of table d.input) in
      let big : 1024 ≤ length (drive_image table d) = omega (arith, g.input_ok.payload_least) in
      let whole : length (drive_image table d) % 512 ≡ 0 = omega arith in (
        rw (le-leb _ _ big, eq-eqb _ _ whole),
        (
          rw (f 0 (omega arith) (omega arith)) (same_refl magic),
          (
            rw (f 1 (omega arith) (omega arith)) (same_refl version),
            (
              ap (λ x. ltb 0 x) (profile-read table d g) ∙ lt-ltb 0 d.input.profile g.input_ok.row.number_least,
              rw (facts-read table d g) sound-passes,
            ),
          ),
        ),
      )

-- ---- its slots

module _ (table : Table) (d : Drive) (g : GoodDrive table d) where
  pub slot-at : (j : ℕ) → 1 ≤ j → j ≤ 8 → slot_of (drive_facts table d) j ≡ content_facts d.input.stripes (key_bytes_of table d.input) (j - 1) (content_at d (j - 1))
  unfolding slot_of drive_facts
  slot-at j h i =
      get_d_map_from (content_facts d.input.stripes (key_bytes_of table d.input)) 0 d.contents (j - 1) no_content no_slot (omega (arith, g.eight))
      ∙ ap (λ x. content_facts d.input.stripes (key_bytes_of table d.input) x (content_at d (j - 1))) (zero-add (j - 1))

  pub start-at : (j : ℕ) → 1 ≤ j → j ≤ 8 → (slot_of (drive_facts table d) j).start ≡ area_start d.input.stripes (key_bytes_of table d.input) (j - 1)
  unfolding content_facts
  start-at j h i = ap (λ s. s.start) (slot-at j h i)

  pub stripes-at : (j : ℕ) → 1 ≤ j → j ≤ 8 → (slot_of (drive_facts table d) j).stripes ≡ d.input.stripes
  unfolding content_facts
  stripes-at j h i = ap (λ s. s.stripes) (slot-at j h i)
