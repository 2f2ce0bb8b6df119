-- The figures of the lists of sector writes: the entries of an area, and the sectors of a drive with one stripe.
use mathlib.Core.Path.{◌≡◌, ap, ap₂, ◌∙◌}
use mathlib.Core.List.{List, [], ◌∷◌, ◌++◌, map, map-append}
use Prim.Native.Nat.{ℕ, ◌+◌, ◌-◌, ◌*◌, ◌≤◌}
use native.Mathlib.Omega.{arith}
use lib.ListN.{length}
use Rattle.octets.specs.Pieces.{piece_count}
use Rattle.rules.specs.Profiles.{profile_at}
use Rattle.rules.specs.Layout.{round_up, area_sectors, area_start}
use Rattle.rules.specs.Facts.{Facts, SlotInput, slot_of, facts_of}
use Rattle.rules.specs.Sectors.{SectorWrite, sectors_from, encoded, entry_bytes, area_count, area_list, head_list, slot_list, slot_count}
use Rattle.rules.specs.Calls.{Call, add, change}
use Rattle.rules.specs.Lists.{list_of}
use Rattle.rules.specs.Format.{FormatInput, key_bytes_of}
use Rattle.rules.proofs.SectorLaws.{length-slot_list}
use Rattle.profiles.specs.Rows.{aes_xts_row, rows}
use Rattle.profiles.specs.Suites.{built}
use Rattle.profiles.proofs.Lawful.{built-lawful}
use Rattle.ledger.specs.Drive.{drive_facts}
use Rattle.ledger.specs.Ledger.{Ledger, ledger_drive, ledger_facts, start_ledger}
use Rattle.ledger.specs.Demand3.{last_image, last_ledger}
use Rattle.ledger.proofs.LedgerLaws.{GoodLedger, facts_are}
use Rattle.ledger.proofs.EnterLaws.{start-at, stripes-at, run-follows}
use Rattle.ledger.proofs.StartLaws.{start-good}
use Rattle.ledger.proofs.General.{input_stays}
use Rattle.ledger.proofs.Built.{demand_3-built}
use Rattle.figures.specs.Figures.{OneStripe, list_numbers}

-- the entries of an area of n stripes of 32 bytes
pub entries : (f : Facts) (k n : ℕ) → f.profile.key_bytes ≡ 32 → (slot_of f k).stripes ≡ n → area_count f k ≡ piece_count 512 (n * 32)
unfolding area_count
entries f k n l e = ap₂ (λ (m L : ℕ). piece_count 512 (m * L)) e l

-- the bytes of the list of a slot with 4,000
pub list-bytes : (f : Facts) (k : ℕ) → f.profile.key_bytes ≡ 32 → (slot_of f k).stripes ≡ 4000
    → (image : List ℕ) → 1024 ≤ length image → ((slot_of f k).start + 250) * 512 ≤ length image → length (encoded (slot_list f k image)) ≡ 130032
unfolding slot_count
list-bytes f k l n image h i =
    let e = entries f k 4000 l n in
    length-slot_list f k image h (omega (arith, e, i)) ∙ ap (λ (m : ℕ). (m + 2) * entry_bytes) e

-- ---- a drive of L 32 with one stripe

module _ (a : FormatInput) (image : List ℕ) (cs : List Call) (h : OneStripe a image cs) where
  abbrev z : List ℕ
  z = last_image built a image cs

  abbrev l : Ledger
  l = last_ledger built a image cs

  abbrev f : Facts
  f = facts_of built z

  g : GoodLedger built l
  g = (run-follows built (start_ledger built a image) cs (start-good built built-lawful a h.fresh.typed image h.fresh.accepted) h.typed).1

  read_is : f ≡ ledger_facts built l
  read_is = ap (facts_of built) (demand_3-built a h.fresh.typed image h.fresh.accepted cs h.typed).image_is ∙ facts_are built l g

  input-is : l.input ≡ a
  unfolding start_ledger
  input-is = input_stays built (start_ledger built a image) cs

  key_is : f.profile.key_bytes ≡ 32
  unfolding ledger_facts drive_facts ledger_drive rows aes_xts_row profile_at
  key_is = ap (λ (x : Facts). x.profile.key_bytes) read_is ∙ ap (λ (b : FormatInput). key_bytes_of built b) input-is ∙ rw h.profile_is

  stripes_are : (k : ℕ) → 1 ≤ k → k ≤ 8 → (slot_of f k).stripes ≡ 1
  stripes_are k i j = ap (λ (x : Facts). (slot_of x k).stripes) read_is ∙ stripes-at built l g k i j ∙ ap (λ (b : FormatInput). b.stripes) input-is ∙ h.stripes_is

  start_is : (k : ℕ) → 1 ≤ k → k ≤ 8 → (slot_of f k).start ≡ area_start 1 32 (k - 1)
  unfolding rows aes_xts_row profile_at
  start_is k i j =
      ap (λ (x : Facts). (slot_of x k).start) read_is ∙ start-at built l g k i j
      ∙ ap (λ (b : FormatInput). area_start b.stripes (key_bytes_of built b) (k - 1)) input-is ∙ rw (h.stripes_is, h.profile_is)

  abbrev numbers : List SectorWrite → List ℕ
  numbers ws = map (λ (w : SectorWrite). w.0) ws

  -- the sectors of slot k's list, with the bytes of any image
  slot-sectors : (k : ℕ) → 1 ≤ k → k ≤ 8 → (y : List ℕ) → numbers (slot_list f k y) ≡ area_start 1 32 (k - 1) ∷ 1 ∷ 0 ∷ []
  unfolding slot_list area_list head_list sectors_from
  slot-sectors k i j y =
      ap₂ (λ (s m : ℕ). numbers (sectors_from y s m ++ head_list y)) (start_is k i j) (entries f k 1 key_is (stripes_are k i j))

  pub add-sectors : (k : ℕ) → 1 ≤ k → k ≤ 8 → (key : List ℕ) (x : SlotInput) (list : List ℕ) → list_numbers a image cs (add k key x list) ≡ area_start 1 32 (k - 1) ∷ 1 ∷ 0 ∷ []
  unfolding list_of
  add-sectors k i j key x list = slot-sectors k i j _

  pub change_sectors : (passphrase : List ℕ) (x : SlotInput) (filler list : List ℕ)
      → list_numbers a image cs (change 8 passphrase 7 x filler list) ≡ 56 ∷ 1 ∷ 0 ∷ 64 ∷ 1 ∷ 0 ∷ []
  unfolding list_of round_up area_sectors area_start
  change_sectors passphrase x filler list =
      map-append (λ (w : SectorWrite). w.0) (slot_list f 7 _) (slot_list f 8 _)
      ∙ ap₂ (λ (u v : List ℕ). u ++ v) (slot-sectors 7 (omega arith) (omega arith) _) (slot-sectors 8 (omega arith) (omega arith) _)
