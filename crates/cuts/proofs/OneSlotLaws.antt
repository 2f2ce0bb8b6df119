-- Wish 5 of 02 for a good ledger's drive, and an add or a revoke whose checks pass on it.
use mathlib.Core.Path.{◌≡◌, sym, ap, ap₂, subst, ◌∙◌}
use mathlib.Core.Logic.{◌≢◌, ◌⊎◌}
use mathlib.Core.List.{List}
use mathlib.Core.Bool.{true, false}
use Prim.Native.Nat.{ℕ, ◌-◌, ◌≤◌, ◌<◌}
use native.Mathlib.Omega.{arith}
use lib.Dec.{eqb}
use lib.ListN.{length}
use lib.Seq.{get_or-set_same}
use borrow.Author.Tests.{not-true}
use Rattle.octets.proofs.BoolLaws.{no}
use Rattle.rules.specs.Profiles.{Table}
use Rattle.rules.specs.Facts.{Facts, SlotInput, enabled, is_enabled, slot_of}
use Rattle.rules.specs.Sectors.{slot_list}
use Rattle.rules.specs.Calls.{Call, add, revoke, open_slot, early_checks, checks}
use Rattle.rules.specs.Step.{step}
use Rattle.rules.specs.Lists.{enabled_image, disabled_image, list_of}
use Rattle.rules.specs.Format.{key_bytes_of}
use Rattle.rules.proofs.ChecksLaws.{Pass}
use Rattle.rules.proofs.ArgumentLaws.{number_in}
use Rattle.ledger.specs.Drive.{SlotContent, Drive, drive_image, content_facts, drive_facts}
use Rattle.ledger.specs.Ledger.{Ledger, SlotEntry, empty, live, state_of, content_of, ledger_drive, ledger_image, ledger_facts, set_slot, ledger_after, enter}
use Rattle.ledger.specs.Demand3.{Typed, no_entry, entry_of}
use Rattle.ledger.proofs.DriveLaws.{GoodDrive, GoodContent, content_at}
use Rattle.ledger.proofs.WritingLaws.{set_content}
use Rattle.ledger.proofs.LedgerLaws.{GoodLedger, GoodSlot, content_in, content-good, drive_good, entry-good, map-set}
use Rattle.ledger.proofs.EnterLaws.{step_follows, slot_is}
use Rattle.ledger.proofs.AnswerLaws.{entered, live-answer}
use Rattle.cuts.specs.Cuts.{carried_out, cut_after}
use Rattle.cuts.specs.CutSafe.{CutImage, gives, AtCut}
use Rattle.ledger.proofs.ReadingLaws.{start-at}
use Rattle.cuts.proofs.StageLaws.{stage-full, at_each}
use Rattle.cuts.proofs.PrefixLaws.{stage_prefix}
use Rattle.cuts.proofs.AgainLaws.{header_ok, count_at, enable_put, disable_put, put-good, open_same}
use Rattle.cuts.proofs.ReachLaws.{reaches_list, add_reaches, revoke_reaches}

-- the three parts of the statement, by the facts of the image and the image after the call
abbrev pub Safe : Table → Facts → List ℕ → Ledger → Call → List ℕ → Type 0
Safe table f image l c after =
    (carried_out (list_of f c image) image ≡ after)
    × ((z : List ℕ) → CutImage f c image z → AtCut table f l c after z)
    × ((j : ℕ) → CutImage f c image (cut_after j (list_of f c image) image))

-- ---- a ledger with one entry replaced

pub drive_set : (table : Table) (l : Ledger) (k : ℕ) (s : SlotEntry) → set_content (ledger_drive table l) k (content_in table l.input s) ≡ ledger_drive table (set_slot l k s)
unfolding ledger_drive set_slot set_content
drive_set table l k s =
    ap (λ (x : List SlotContent). record { input = l.input; contents = x; sectors = (ledger_drive table l).sectors }) (map-set (content_in table l.input) l.slot_entries (k - 1) s)

pub entry_is : (l : Ledger) (k : ℕ) (s : SlotEntry) → k - 1 < length l.slot_entries → entry_of (set_slot l k s) k ≡ s
unfolding set_slot
entry_is l k s h = get_or-set_same l.slot_entries (k - 1) s no_entry h

pub not_live : (l : Ledger) (k : ℕ) (filler : List ℕ) → k - 1 < length l.slot_entries → (key : List ℕ) (x : SlotInput) → entry_of (set_slot l k (empty filler)) k ≡ live key x → ⊥
unfolding state_of
not_live l k filler h key x e =
    let z : state_of (empty filler) ≡ state_of (live key x) = ap state_of (sym (entry_is l k (empty filler) h) ∙ e) in
    omega arith

-- a live slot of a good ledger opens
pub opens-live : (table : Table) (l : Ledger) (g : GoodLedger table l) (k : ℕ) → 1 ≤ k → k ≤ 8 → (key : List ℕ) (x : SlotInput) → entry_of l k ≡ live key x
    → (step table (drive_image table (ledger_drive table l)) (open_slot k x.passphrase)).said ≡ gives (drive_facts table (ledger_drive table l)) k key
unfolding ledger_image ledger_drive drive_facts
opens-live table l g k h i key x e = ap (λ s. s.said) (step_follows table l g (open_slot k x.passphrase) tt).0 ∙ live-answer table l g k h i key x e

-- a good ledger has good entries, and they good contents
pub content_in_lem : (table : Table) (m : Ledger) → GoodLedger table m → (k : ℕ) → 1 ≤ k → k ≤ 8 → (s : SlotEntry) → GoodLedger table (set_slot m k s)
    → GoodContent m.input.stripes (key_bytes_of table m.input) (content_in table m.input s)
unfolding set_slot
content_in_lem table m gm k h i s gs =
    content-good table m.input gm.input_ok s
    (subst (GoodSlot table m.input) (entry_is m k s (omega (arith, gm.eight))) (entry-good table (set_slot m k s) gs (k - 1) (omega arith)))

module _ (table : Table) (l : Ledger) (g : GoodLedger table l) where
  -- the ledger's drive
  abbrev d : Drive
  d = ledger_drive table l

  -- it is good
  abbrev gd : GoodDrive table d
  gd = drive_good table l g

  -- its image
  abbrev image : List ℕ
  image = drive_image table d

  -- its facts
  abbrev f : Facts
  f = drive_facts table d

  -- good contents of the drive
  abbrev Good : SlotContent → Type 0
  Good c = GoodContent l.input.stripes (key_bytes_of table l.input) c

  entry-enabled : (k : ℕ) → 1 ≤ k → k ≤ 8 → (key : List ℕ) (x : SlotInput) → entry_of l k ≡ live key x → is_enabled (slot_of f k) ≡ true
  unfolding ledger_facts is_enabled content_facts content_of state_of
  entry-enabled k h i key x e = ap is_enabled (slot_is table l g k h i) ∙ ap (λ (s : SlotEntry). eqb (state_of s) enabled) e

  -- the ledger after an accepted call is good
  pub after-good : (c : Call) → Typed c → Pass (checks f c) → GoodLedger table (ledger_after f c l)
  unfolding ledger_facts
  after-good c t h = subst (λ e. GoodLedger table e.ledger) (entered table l c h) (step_follows table l g c t).1

  pub ledger-after : (c : Call) → Pass (checks f c) → (enter table l c).ledger ≡ ledger_after f c l
  unfolding ledger_facts
  ledger-after c h = ap (λ e. e.ledger) (entered table l c h)

  -- a slot that is disabled is not live
  pub not-disabled : (k : ℕ) → is_enabled (slot_of f k) ≡ false → (j : ℕ) → 1 ≤ j → j ≤ 8 → (key : List ℕ) (x : SlotInput) → entry_of l j ≡ live key x → j ≢ k
  not-disabled k off j h i key x e q = no (sym off ∙ ap (λ (y : ℕ). is_enabled (slot_of f y)) (sym q) ∙ entry-enabled j h i key x e)

  -- ---- add

  module _ (k : ℕ) (key : List ℕ) (x : SlotInput) (list : List ℕ) (t : Typed (add k key x list)) (c : Pass (checks f (add k key x list))) where
    -- the slot's content afterwards
    abbrev new : SlotContent
    new = content_in table l.input (live key x)

    range : (1 ≤ k) × (k ≤ 8)
    unfolding checks early_checks
    range = number_in k c.0

    new_ok : Good new
    unfolding ledger_after
    new_ok = content_in_lem table l g k range.0 range.1 (live key x) (after-good (add k key x list) t c)

    pub add-written : enabled_image f k key x image ≡ drive_image table (set_content d k new)
    unfolding ledger_drive
    add-written = enable_put table d gd k range.0 range.1 key x new_ok

    add_at : (b : SlotContent) → Good b → (b ≡ new) ⊎ (b.state ≡ (content_at d (k - 1)).state)
        → AtCut table f l (add k key x list) (drive_image table (set_content d k new)) (drive_image table (set_content d k b))
    unfolding checks early_checks ledger_drive
    add_at b okb w =
        record {
          header = header_ok table (set_content d k b) (put-good table d gd k range.0 range.1 b okb);
          live_opens = λ j h i key' x' e e'.
              open_same table d gd k range.0 range.1 b okb j h i (not-disabled k (not-true _ c.1.0) j h i key' x' e) x'.passphrase
              ∙ opens-live table l g j h i key' x' e;
          old_or_new = tt;
          once_more = λ u list' e.
              reaches_list table (drive_image table (set_content d k b)) (add k key x list) list' e (drive_image table (set_content d k new))
              (add_reaches table d gd k range.0 range.1 b okb key x list new_ok c w);
          finished = tt;
        }

    pub add-safe : Safe table f image l (add k key x list) (drive_image table (set_content d k new))
    unfolding list_of ledger_drive
    add-safe =
        let s = start-at table d gd k range.0 range.1 in
        let m = count_at table d gd k range.0 range.1 in
        let P = AtCut table f l (add k key x list) (drive_image table (set_content d k new)) in (
          ap (λ y. carried_out (slot_list f k y) image) add-written ∙ stage-full table d gd k range.0 range.1 new new_ok f s m,
          λ z v. at_each table d gd k range.0 range.1 new new_ok f s m P add_at (enabled_image f k key x image) z add-written v,
          λ j. stage_prefix f k (enabled_image f k key x image) image j,
        )

  -- ---- revoke

  module _ (k : ℕ) (filler list : List ℕ) (t : Typed (revoke k filler list)) (c : Pass (checks f (revoke k filler list))) where
    -- the slot's content afterwards
    abbrev gone : SlotContent
    gone = content_in table l.input (empty filler)

    within : (1 ≤ k) × (k ≤ 8)
    unfolding checks early_checks
    within = number_in k c.0

    gone-ok : Good gone
    unfolding ledger_after
    gone-ok = content_in_lem table l g k within.0 within.1 (empty filler) (after-good (revoke k filler list) t c)

    pub revoke-written : disabled_image f k filler image ≡ drive_image table (set_content d k gone)
    unfolding ledger_drive
    revoke-written = disable_put table d gd k within.0 within.1 f (start-at table d gd k within.0 within.1) filler gone-ok

    -- a slot that is live afterwards is another one
    revoke-other : (j : ℕ) (key : List ℕ) (x : SlotInput) → entry_of (enter table l (revoke k filler list)).ledger j ≡ live key x → j ≢ k
    unfolding ledger_after
    revoke-other j key x e q =
        not_live l k filler (let h = within in omega (arith, g.eight)) key x
        (ap₂ (λ (m : Ledger) (y : ℕ). entry_of m y) (sym (ledger-after (revoke k filler list) c)) (sym q) ∙ e)

    revoke-at : (b : SlotContent) → Good b → (b ≡ gone) ⊎ (b.state ≡ (content_at d (k - 1)).state)
        → AtCut table f l (revoke k filler list) (drive_image table (set_content d k gone)) (drive_image table (set_content d k b))
    unfolding ledger_drive
    revoke-at b okb w =
        record {
          header = header_ok table (set_content d k b) (put-good table d gd k within.0 within.1 b okb);
          live_opens = λ j h i key' x' e e'.
              open_same table d gd k within.0 within.1 b okb j h i (revoke-other j key' x' e') x'.passphrase ∙ opens-live table l g j h i key' x' e;
          old_or_new = tt;
          once_more = λ u list' e.
              reaches_list table (drive_image table (set_content d k b)) (revoke k filler list) list' e (drive_image table (set_content d k gone))
              (revoke_reaches table d gd k within.0 within.1 b okb filler list gone-ok c w);
          finished = tt;
        }

    pub revoke-safe : Safe table f image l (revoke k filler list) (drive_image table (set_content d k gone))
    unfolding list_of ledger_drive
    revoke-safe =
        let s = start-at table d gd k within.0 within.1 in
        let m = count_at table d gd k within.0 within.1 in
        let P = AtCut table f l (revoke k filler list) (drive_image table (set_content d k gone)) in (
          ap (λ y. carried_out (slot_list f k y) image) revoke-written ∙ stage-full table d gd k within.0 within.1 gone gone-ok f s m,
          λ z v. at_each table d gd k within.0 within.1 gone gone-ok f s m P revoke-at (disabled_image f k filler image) z revoke-written v,
          λ j. stage_prefix f k (disabled_image f k filler image) image j,
        )
