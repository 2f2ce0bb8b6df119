-- What a good ledger answers: a live slot opens with its key, and a written sector reads back.
use mathlib.Core.Path.{◌≡◌, refl, sym, ap, ◌∙◌, subst}
use mathlib.Core.List.{List, [], ◌∷◌, append-nil, flatten}
use mathlib.Core.Bool.{Bool, true, false}
use Prim.Native.Nat.{ℕ, zero, suc, ◌+◌, ◌-◌, ◌*◌, ◌/◌, ◌≤◌, ◌<◌}
use native.Mathlib.Nat.{zero-add, add-zero}
use native.Mathlib.Omega.{arith}
use lib.ListN.{length, get_or}
use lib.Seq.{take_all}
use borrow.Author.Tests.{le-leb, eq-eqb}
use Rattle.octets.specs.Octets.{padded}
use Rattle.octets.specs.Splice.{part}
use Rattle.octets.specs.Pieces.{pieces, in_pieces}
use Rattle.octets.proofs.BoolLaws.{no}
use Rattle.octets.proofs.OctetsLaws.{same_refl}
use Rattle.octets.proofs.SpliceLaws.{part_all}
use Rattle.suite.specs.Suite.{Suite}
use Rattle.suite.specs.Units.{in_units}
use Rattle.rules.specs.Profiles.{Table}
use Rattle.rules.specs.Facts.{SlotInput, slot_of, is_enabled, matches, candidate}
use Rattle.rules.specs.Calls.{Call, open_slot, read, slot_number_ok, passphrase_ok, key_ok, range_checks, early_checks, late_checks, checks, answer, opened, bytes_read}
use Rattle.rules.specs.Format.{key_bytes_of, suite_for}
use Rattle.rules.proofs.ChecksLaws.{Pass, first_pass}
use Rattle.ledger.specs.Drive.{map_from, content_facts, drive_facts}
use Rattle.ledger.specs.Ledger.{Ledger, live, SectorEntry, at_format, last_writing, state_of, count_of, salt_of, area_of}
use Rattle.ledger.specs.Ledger.{content_of, sector_of, ledger_drive, ledger_facts, ledger_after, settle_entry, enter}
use Rattle.ledger.specs.Demand3.{entry_of, sector_entry_of, no_sector}
use Rattle.ledger.proofs.PartsLaws.{length-map_from, get_d_map_from, row, RowsTo}
use Rattle.ledger.proofs.AllLaws.{all_get}
use Rattle.ledger.proofs.AreaLaws.{candidate-key_material}
use Rattle.ledger.proofs.DriveLaws.{sector_rows}
use Rattle.ledger.proofs.LedgerLaws.{Matches, GoodLive, GoodSlot, GoodWriting, GoodSector, GoodLedger, content_in, drive_good, entry-good, length-payload}
use Rattle.ledger.proofs.EnterLaws.{slot_is}

pub entered : (table : Table) (l : Ledger) (c : Call) → Pass (checks (ledger_facts table l) c)
    → enter table l c ≡ record { said = answer (ledger_facts table l) c; ledger = ledger_after (ledger_facts table l) c l }
unfolding enter settle_entry
entered table l c h = rw (first_pass (checks (ledger_facts table l) c) h)

-- the sector was written
abbrev is_writing : SectorEntry → Bool
is_writing (at_format bytes) = false
is_writing (last_writing key plain) = true

-- beyond the entries nothing is written
in_range : (xs : List SectorEntry) (u : ℕ) (key plain : List ℕ) → get_or xs u no_sector ≡ last_writing key plain → u < length xs
in_range [] u key plain e = no (ap is_writing e)
in_range (x ∷ xs) zero key plain e = omega arith
in_range (x ∷ xs) (suc u) key plain e = let h = in_range xs u key plain e in omega arith

module _ (table : Table) (l : Ledger) (g : GoodLedger table l) where
  -- the drive's suite
  abbrev S : Suite
  S = suite_for table l.input

  -- its stripes
  abbrev n : ℕ
  n = l.input.stripes

  -- its key bytes
  abbrev L : ℕ
  L = key_bytes_of table l.input

  key-passes : (key : List ℕ) → Matches table l.input key → matches (ledger_facts table l) key ≡ true
  unfolding matches ledger_facts drive_facts ledger_drive
  key-passes key h = rw h (same_refl _)

  -- ---- a live slot

  module _ (k : ℕ) (h : 1 ≤ k) (i : k ≤ 8) (key : List ℕ) (x : SlotInput) (is : entry_of l k ≡ live key x) where
    facts_at : slot_of (ledger_facts table l) k ≡ content_facts n L (k - 1) (content_in table l.input (live key x))
    facts_at = slot_is table l g k h i ∙ ap (λ s. content_facts n L (k - 1) (content_in table l.input s)) is

    live-ok : GoodLive table l.input key x
    live-ok = subst (λ s. GoodSlot table l.input s) is (entry-good table l g (k - 1) (omega arith))

    -- its candidate is its key
    pub live-candidate : candidate (ledger_facts table l) k x.passphrase ≡ key
    unfolding candidate content_facts ledger_facts drive_facts ledger_drive content_of count_of salt_of area_of
    live-candidate =
        rw facts_at
        (candidate-key_material S L g.input_ok.row.blocks g.input_ok.suite n g.input_ok.stripes_least key x live-ok.random_str live-ok.key_str)

    is-enabled : is_enabled (slot_of (ledger_facts table l) k) ≡ true
    unfolding is_enabled content_facts content_of state_of
    is-enabled = rw facts_at

    pub live-answer : (enter table l (open_slot k x.passphrase)).said
        ≡ record { code = 0; slot = k; key_length = key_bytes_of table l.input; key = padded 64 key; bytes = [] }
    unfolding checks early_checks late_checks slot_number_ok passphrase_ok answer opened ledger_facts drive_facts ledger_drive
    live-answer =
        let number : slot_number_ok k ≡ true = rw (le-leb _ _ h, le-leb _ _ i) in
        let passphrase : passphrase_ok x.passphrase ≡ true = rw (le-leb _ _ live-ok.passphrase_least, le-leb _ _ live-ok.passphrase_most) in
        let key-ok : matches (ledger_facts table l) (candidate (ledger_facts table l) k x.passphrase) ≡ true = rw live-candidate (key-passes key live-ok.key_matches) in
        let w = entered table l (open_slot k x.passphrase) (number, (passphrase, (is-enabled, (key-ok, tt)))) in
        ap (λ a. a.said) w ∙ (λ j. record { code = 0; slot = k; key_length = L; key = padded 64 (live-candidate j); bytes = [] })

  -- ---- a written sector

  -- the payload's sectors, enciphered
  abbrev sectors : List (List ℕ)
  sectors = map_from (sector_of S) 0 l.sector_entries

  sector_at : (u : ℕ) → u < length l.sector_entries → (key plain : List ℕ) → sector_entry_of l u ≡ last_writing key plain
      → (part (flatten sectors) (u * 512) 512 ≡ S.encipher key u plain) × (length (S.encipher key u plain) ≡ 512)
  unfolding sector_of ledger_drive
  sector_at u h key plain e =
      let il = length-map_from (sector_of S) 0 l.sector_entries in
      let sr : (k : ℕ) → k ≤ length sectors → RowsTo sectors 512 k = sector_rows table (ledger_drive table l) (drive_good table l g) in
      let at : get_or sectors u [] ≡ S.encipher key u plain = get_d_map_from (sector_of S) 0 l.sector_entries u no_sector [] h ∙ rw zero-add (ap (sector_of S u) e) in
      let len : length (get_or sectors u []) ≡ 512 = sr (suc u) (omega arith) u (omega arith) in (
        ap (λ x. part (flatten sectors) x 512) (sym (add-zero (u * 512)))
            ∙ row sectors 512 u 0 512 (sr u (omega arith)) (omega arith) (omega arith)
            ∙ part_all _ 512 len ∙ at,
        sym (ap length at) ∙ len,
      )

  pub written-answer : (u : ℕ) (key plain : List ℕ) → sector_entry_of l u ≡ last_writing key plain
      → (buffer : List ℕ) → length buffer ≡ 512
      → (enter table l (read key u 1 buffer)).said ≡ record { code = 0; slot = 0; key_length = 0; key = []; bytes = plain }
  unfolding checks early_checks late_checks range_checks key_ok answer bytes_read ledger_facts drive_facts ledger_drive in_pieces pieces
  written-answer u key plain e buffer b =
      let h = in_range l.sector_entries u key plain e in
      let ok : GoodWriting table l.input key plain = subst (λ s. GoodSector table l.input s) e (all_get (GoodSector table l.input) l.sector_entries u no_sector g.sectors_ok h) in
      let len = length-payload table l g in
      let fit : u + 1 ≤ length (flatten sectors) / 512 = omega arith in
      let at = sector_at u h key plain e in
      let w = entered table l (read key u 1 buffer)
      (eq-eqb _ _ ok.key_str.len, (le-leb _ _ fit, (eq-eqb _ _ b, (key-passes key ok.key_matches, tt)))) in
      let y = S.encipher key u plain in
      let d : in_units (S.decipher key) u (part (flatten sectors) (u * 512) (1 * 512)) ≡ plain
      = ap (in_units (S.decipher key) u) at.0
      ∙ ap (λ (m : ℕ). pieces 512 (S.decipher key) u ((m + 511) / 512) y) at.1
      ∙ append-nil _
      ∙ ap (S.decipher key u) (take_all 512 y (omega (arith, at.1)))
      ∙ g.input_ok.suite.decipher_encipher key ok.key_str u 512 plain (omega arith) refl ok.plain_str in
      ap (λ a. a.said) w ∙ (λ j. record { code = 0; slot = 0; key_length = 0; key = []; bytes = d j })
