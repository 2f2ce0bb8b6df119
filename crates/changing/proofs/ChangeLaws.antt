-- Laws for change: what its accepted arguments are, and what it writes: the second slot's writes leave the first slot's place as it was.
use mathlib.Core.Path.{◌≡◌, refl, sym, ap, ap₂, ◌∙◌}
use mathlib.Core.List.{List, [], ◌∷◌, ◌++◌}
use mathlib.Core.Bool.{Bool, true, false, ◌&&◌, not}
use Prim.Native.Nat.{ℕ, ◌+◌, ◌-◌, ◌*◌, ◌≤◌, ◌<◌}
use native.Mathlib.Decide.{dec_le}
use native.Mathlib.Omega.{arith}
use lib.ListN.{length, take, drop, length-append}
use lib.Seq.{length-take-le}
use borrow.Author.Tests.{eqb-true}
use Rattle.octets.specs.Octets.{be32_at, zeros}
use Rattle.octets.specs.Splice.{part, splice}
use Rattle.octets.proofs.BoolLaws.{and_split}
use Rattle.octets.proofs.SpliceLaws.{part-splice-before, part-splice-after, part-part, be32_at-part, splice-next, splice_all}
use Rattle.rules.specs.Checks.{first}
use Rattle.rules.specs.Facts.{Facts, SlotFacts, SlotInput, slot_at, slot_of, is_enabled, enabled, disabled, key_material}
use Rattle.rules.specs.Calls.{change, early_checks, slot_number_ok, passphrase_ok, count_ok, random_ok, filler_ok, list_ok}
use Rattle.rules.specs.Sectors.{SectorWrite, encoded, entry_bytes, slot_list, slot_count}
use Rattle.rules.specs.Step.{written, record_head, slot_writes, enable_writes, disable_writes}
use Rattle.rules.specs.Lists.{enabled_image, disabled_image}
use Rattle.rules.proofs.ChecksLaws.{accepted}
use Rattle.rules.proofs.StepLaws.{written-append, slot_of-image}
use Rattle.rules.proofs.ArgumentLaws.{number_in}
use Rattle.rules.proofs.FormatLaws.{length-record_head}
use Rattle.rules.proofs.SectorLaws.{encoded-append}
use Rattle.profiles.specs.Suites.{built}
use Rattle.header.specs.Records.{facts_in, HeaderOk}
use Rattle.header.proofs.SoundLaws.{sound}
use Rattle.sectors.specs.declared.Area.{Area}
use Rattle.sectors.specs.Areas.{IsArea, writes_of}
use Rattle.sectors.proofs.ListLaws.{listed-is, length-list}

-- ---- two tests in one check

pub both-yes : (a b : Bool) → a ≡ true → b ≡ true → (a && b) ≡ true
both-yes a b e h = rw e h

pub first-no : (a b : Bool) → a ≡ false → (a && b) ≡ false
first-no a b e = rw e

pub second-no : (a b : Bool) → a ≡ true → b ≡ false → (a && b) ≡ false
second-no a b e h = rw e h

-- ---- what the early checks assure

pub record Given (f : Facts) (from : ℕ) (old : List ℕ) (to : ℕ) (x : SlotInput) (filler list : List ℕ) : Type 0 where
  pub from_ok : slot_number_ok from ≡ true
  pub to_ok : slot_number_ok to ≡ true
  pub live : is_enabled (slot_of f from) ≡ true
  pub old_ok : passphrase_ok old ≡ true
  pub new_ok : passphrase_ok x.passphrase ≡ true
  pub count_passes : count_ok f x.count ≡ true
  pub random_passes : random_ok f to x.random ≡ true
  pub filler_passes : filler_ok f from filler ≡ true
  pub list_passes : list_ok (slot_count f to + slot_count f from) list ≡ true

pub given : (f : Facts) (from : ℕ) (old : List ℕ) (to : ℕ) (x : SlotInput) (filler list : List ℕ)
    → first (early_checks f (change from old to x filler list)) ≡ 0 → Given f from old to x filler list
unfolding early_checks
given f from old to x filler list e =
    let p = accepted (early_checks f (change from old to x filler list)) refl e in
    let n = and_split (slot_number_ok from) (slot_number_ok to) p.0 in
    let w = and_split (passphrase_ok old) (passphrase_ok x.passphrase) p.1.1.0 in
    let l = and_split (random_ok f to x.random) (filler_ok f from filler) p.1.1.1.1.0 in
    record {
      from_ok = n.0;
      to_ok = n.1;
      live = (and_split (is_enabled (slot_of f from)) (not (is_enabled (slot_of f to))) p.1.0).0;
      old_ok = w.0;
      new_ok = w.1;
      count_passes = p.1.1.1.0;
      random_passes = l.0;
      filler_passes = l.1;
      list_passes = p.1.1.1.1.1.0;
    }

-- ---- what is written

-- the start of slot k stands in the four bytes at 40 of its record
start_is : (image : List ℕ) (k : ℕ) → slot_number_ok k ≡ true → (slot_of (facts_in image) k).start ≡ be32_at (part image (208 + (k - 1) * 48 + 40) 4) 0
unfolding slot_at
start_is image k h =
    let at : ℕ = 208 + (k - 1) * 48 in
    ap (λ (s : SlotFacts). s.start) (slot_of-image built image k (number_in k h).0 (number_in k h).1)
    ∙ sym (be32_at-part (part image at 48) 40 4 0 (omega arith))
    ∙ ap (λ (s : List ℕ). be32_at s 0) (part-part image at 48 40 4 (omega arith))

-- a head written into record j leaves them as they were in record k
head_beside : (a head : List ℕ) (j k : ℕ) → length head ≡ 40 → 208 + j * 48 + 40 ≤ length a → Dec (j ≤ k)
    → part (splice a (208 + j * 48) head) (208 + k * 48 + 40) 4 ≡ part a (208 + k * 48 + 40) 4
head_beside a head j k l h (yes le) = part-splice-after a (208 + j * 48) head (208 + k * 48 + 40) 4 (omega (arith, l, le)) (omega (arith, l, h))
head_beside a head j k l h (no gt) =
    let lt : k < j = omega (arith, gt) in
    part-splice-before a (208 + j * 48) head (208 + k * 48 + 40) 4 (omega (arith, lt)) (omega (arith, h))

-- and so do bytes behind the header
slot_beside : (image area head : List ℕ) (o j k : ℕ) → 1024 ≤ o → o ≤ length image → length head ≡ 40 → j < 8 → k < 8
    → part (splice (splice image o area) (208 + j * 48) head) (208 + k * 48 + 40) 4 ≡ part image (208 + k * 48 + 40) 4
unfolding splice
slot_beside image area head o j k low high l hj hk =
    let long : o ≤ length (splice image o area) = omega (arith, length-append (take o image) (area ++ drop (o + length area) image), length-take-le o image high) in
    head_beside (splice image o area) head j k l (omega (arith, long, low)) (dec_le j k)
    ∙ part-splice-before image o area (208 + k * 48 + 40) 4 (omega (arith, low)) high

module _ (image : List ℕ) (ok : HeaderOk image) (from to : ℕ) (g : slot_number_ok from ≡ true) (h : slot_number_ok to ≡ true) (key : List ℕ) (x : SlotInput)
    (hs : length x.salt ≡ 32) (filler a₁ : List ℕ) (e₁ : a₁ ≡ written (enable_writes (facts_in image) to key x) image) where
  abbrev f : Facts
  f = facts_in image

  start-kept : (slot_of (facts_in a₁) from).start ≡ (slot_of f from).start
  unfolding written enable_writes slot_writes
  start-kept =
      let s = sound image ok in
      let own = s.slot to h in
      let v = number_in from g in
      let w = number_in to h in
      let area : List ℕ = key_material f.suite f.profile.key_bytes (slot_of f to).stripes key x in
      let head : List ℕ = record_head enabled x.count x.salt in
      let beside = slot_beside image area head ((slot_of f to).start * 512) (to - 1) (from - 1) (omega (arith, own.start_least)) (omega (arith, own.area_ends, s.payload_ends))
      (omega (arith, hs, length-record_head enabled x.count x.salt)) (omega (arith, w.0, w.1)) (omega (arith, v.0, v.1)) in
      start_is a₁ from g ∙ ap (λ (b : List ℕ). be32_at b 0) (ap (λ (a : List ℕ). part a (208 + (from - 1) * 48 + 40) 4) e₁ ∙ beside) ∙ sym (start_is image from g)

  -- the first slot's area is still inside the image
  pub filler-fits : filler_ok f from filler ≡ true → (slot_of (facts_in a₁) from).start * 512 + length filler ≤ length image
  unfolding filler_ok
  filler-fits e = let s = sound image ok in omega (arith, start-kept, eqb-true (length filler) ((slot_of f from).stripes * f.profile.key_bytes) e, (s.slot from g).area_ends, s.payload_ends)

  -- the first slot's writes, after those of the second
  pub moved_on : (a₂ : List ℕ) → a₂ ≡ written (disable_writes (facts_in a₁) from filler) a₁ → a₂ ≡ disabled_image f from filler (enabled_image f to key x image)
  unfolding disable_writes slot_writes
  moved_on a₂ e₂ =
      e₂
      ∙ ap (λ (n : ℕ). written ((n * 512, filler) ∷ (208 + (from - 1) * 48, record_head disabled 0 (zeros 32)) ∷ []) a₁) start-kept
      ∙ ap (written (disable_writes f from filler)) e₁

  pub moved : (a₂ : List ℕ) → a₂ ≡ written (disable_writes (facts_in a₁) from filler) a₁ → a₂ ≡ written (enable_writes f to key x ++ disable_writes f from filler) image
  moved a₂ e₂ = moved_on a₂ e₂ ∙ sym (written-append (enable_writes f to key x) (disable_writes f from filler) image)

-- ---- the two slots' lists in one buffer; a₁ is the image between the works, a₂ the one after them

module _ (image : List ℕ) (ok : HeaderOk image) (from to : ℕ) (g : slot_number_ok from ≡ true) (h : slot_number_ok to ≡ true)
    (b c : Area) (ib : IsArea b (facts_in image) to) (ic : IsArea c (facts_in image) from) (a₁ a₂ : List ℕ) (l₁ : length a₁ ≡ length image) (l₂ : length a₂ ≡ length image)
    (list : List ℕ) (e : list_ok (slot_count (facts_in image) to + slot_count (facts_in image) from) list ≡ true) where
  abbrev m : ℕ
  m = slot_count (facts_in image) to * entry_bytes

  bytes₁ : length (encoded (writes_of b a₁)) ≡ m
  bytes₁ = length-list image ok to h b ib a₁ l₁

  bytes₂ : length (encoded (writes_of c a₂)) ≡ slot_count (facts_in image) from * entry_bytes
  bytes₂ = length-list image ok from g c ic a₂ l₂

  whole : length list ≡ m + slot_count (facts_in image) from * entry_bytes
  unfolding list_ok
  whole =
      let t : ℕ = (slot_count (facts_in image) to + slot_count (facts_in image) from) * entry_bytes in
      omega (arith, eqb-true (length list) t e)

  pub room₁ : 0 + length (encoded (writes_of b a₁)) ≤ length list
  room₁ = omega (arith, bytes₁, whole)

  pub room₂ : (half : ℕ) (list₁ : List ℕ) → half ≡ m → length list₁ ≡ length list → half + length (encoded (writes_of c a₂)) ≤ length list₁
  room₂ half list₁ eh l = omega (arith, eh, l, bytes₂, whole)

  pub both-filled : (half : ℕ) (list₁ list₂ : List ℕ) → half ≡ m → list₁ ≡ splice list 0 (encoded (writes_of b a₁)) → list₂ ≡ splice list₁ half (encoded (writes_of c a₂))
      → list₂ ≡ encoded (slot_list (facts_in image) to a₁ ++ slot_list (facts_in image) from a₂)
  both-filled half list₁ list₂ eh e₁ e₂ =
      let x = encoded (writes_of b a₁) in
      let y = encoded (writes_of c a₂) in
      e₂
      ∙ ap (λ (z : List ℕ). splice z half y) e₁
      ∙ splice-next list 0 x half y (omega (arith, eh, bytes₁)) (omega arith)
      ∙ splice_all list (x ++ y) (omega (arith, length-append x y, bytes₁, bytes₂, whole))
      ∙ ap₂ (λ (u v : List SectorWrite). encoded u ++ encoded v) (listed-is image ok to h b ib a₁ l₁) (listed-is image ok from g c ic a₂ l₂)
      ∙ sym (encoded-append (slot_list (facts_in image) to a₁) (slot_list (facts_in image) from a₂))
