-- Wish 5 of 02 for any lawful table, after an accepted format and any list of calls.
use mathlib.Core.Path.{◌≡◌, sym, ap, subst, ◌∙◌}
use mathlib.Core.List.{List}
use mathlib.Core.Bool.{true}
use Prim.Native.Nat.{ℕ}
use Rattle.octets.proofs.BoolLaws.{no}
use Rattle.rules.specs.Profiles.{Table}
use Rattle.rules.specs.Lawful.{LawfulTable}
use Rattle.rules.specs.Facts.{Facts, candidate, facts_of}
use Rattle.rules.specs.Calls.{Call, add, change, revoke, open_slot, open_any, read, write, checks}
use Rattle.rules.specs.Step.{step, written, enable_writes, disable_writes, writes}
use Rattle.rules.specs.Format.{FormatInput, format}
use Rattle.rules.proofs.ChecksLaws.{Pass}
use Rattle.rules.proofs.StepLaws.{written-append}
use Rattle.ledger.specs.Drive.{Drive, drive_image, drive_facts}
use Rattle.ledger.specs.Ledger.{Ledger, ledger_drive, ledger_image, start_ledger}
use Rattle.ledger.specs.Demand3.{FormatTyped, Typed, AllTyped, last_image, last_ledger}
use Rattle.ledger.proofs.DriveLaws.{GoodDrive}
use Rattle.ledger.proofs.ReadingLaws.{facts-read}
use Rattle.ledger.proofs.LedgerLaws.{GoodLedger, drive_good}
use Rattle.ledger.proofs.EnterLaws.{run-follows}
use Rattle.ledger.proofs.StartLaws.{start-good}
use Rattle.ledger.proofs.General.{demand_3}
use Rattle.cuts.specs.CutSafe.{gives_list, CutSafe}
use Rattle.cuts.proofs.AcceptedLaws.{checks_pass, image-after}
use Rattle.cuts.proofs.OneSlotLaws.{Safe, add-written, add-safe, revoke-written, revoke-safe}
use Rattle.cuts.proofs.ChangeLaws.{second_written, change-safe}

-- ---- a call on a good ledger's image

module _ (table : Table) (l : Ledger) (g : GoodLedger table l) where
  -- the ledger's drive
  abbrev d : Drive
  d = ledger_drive table l

  -- it is good
  abbrev gd : GoodDrive table d
  gd = drive_good table l g

  -- its image
  abbrev image : List ℕ
  image = drive_image table d

  -- its facts
  abbrev f : Facts
  f = drive_facts table d

  safe : (c : Call) → gives_list c ≡ true → Typed c → Pass (checks f c) → Safe table f image l c (written (writes f c) image)
  unfolding writes gives_list
  safe (add k key x list) h t c = subst (Safe table f image l (add k key x list)) (sym (add-written table l g k key x list t c)) (add-safe table l g k key x list t c)
  safe (change k passphrase to x filler list) h t c =
      subst (Safe table f image l (change k passphrase to x filler list))
      (sym (written-append (enable_writes f to (candidate f k passphrase) x) (disable_writes f k filler) image ∙ second_written table l g k passphrase to x filler list t c))
      (change-safe table l g k passphrase to x filler list t c)
  safe (revoke k filler list) h t c = subst (Safe table f image l (revoke k filler list)) (sym (revoke-written table l g k filler list t c)) (revoke-safe table l g k filler list t c)
  safe (open_slot k passphrase) h t c = no h
  safe (open_any passphrase) h t c = no h
  safe (read key u m buffer) h t c = no h
  safe (write key u m buffer) h t c = no h

  ledger-safe : (c : Call) → gives_list c ≡ true → Typed c → (step table (ledger_image table l) c).said.code ≡ 0 → CutSafe table (ledger_image table l) l c
  unfolding ledger_image
  ledger-safe c h t e =
      let q = facts-read table d gd in
      let p = subst (λ (y : Facts). Pass (checks y c)) q (checks_pass table image c e) in
      let s = subst (λ (y : Facts). Safe table y image l c (written (writes y c) image)) (sym q) (safe c h t p) in
      let r = subst (Safe table (facts_of table image) image l c) (sym (image-after table image c e)) s in
      record { full = r.0; at_cut = r.1; in_order = r.2 }

-- ---- the theorem

-- a list cs after an accepted format, and then an accepted add, change or revoke
pub cut-safe : (table : Table) → LawfulTable table → (a : FormatInput) → FormatTyped a → (image : List ℕ) → (format table a image).code ≡ 0
    → (cs : List Call) → AllTyped cs → (c : Call) → gives_list c ≡ true → Typed c → (step table (last_image table a image cs) c).said.code ≡ 0
    → CutSafe table (last_image table a image cs) (last_ledger table a image cs) c
cut-safe table lawful a typed image yes' cs ts c h t e =
    let l = last_ledger table a image cs in
    let q = (demand_3 table lawful a typed image yes' cs ts).image_is in
    let g = (run-follows table (start_ledger table a image) cs (start-good table lawful a typed image yes') ts).1 in
    subst (λ (y : List ℕ). CutSafe table y l c) (sym q)
    (ledger-safe table l g c h t (ap (λ (y : List ℕ). (step table y c).said.code) (sym q) ∙ e))
