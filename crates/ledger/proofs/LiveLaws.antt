-- After an accepted add some slot is live: no later call takes the last one away.
use mathlib.Core.Path.{◌≡◌, refl, sym, ap, ◌∙◌}
use mathlib.Core.Logic.{◌≢◌}
use mathlib.Core.List.{List, [], ◌∷◌, map}
use mathlib.Core.Bool.{Bool, true, false, ◌&&◌, not}
use Prim.Native.Nat.{ℕ, zero, suc, ◌+◌, ◌-◌, ◌≤◌, ◌<◌}
use native.Mathlib.Omega.{arith}
use lib.Dec.{eqb}
use lib.ListN.{length, get_or}
use lib.Seq.{get_or-set_same, get_or-set_other}
use borrow.Author.Tests.{eqb-true, not-true}
use Rattle.octets.proofs.BoolLaws.{and_split, or_split, no}
use Rattle.rules.specs.Checks.{first}
use Rattle.suite.specs.Suite.{Suite}
use Rattle.rules.specs.Profiles.{Table}
use Rattle.rules.specs.Facts.{SlotInput, slot_of, is_enabled, enabled, candidate}
use Rattle.rules.specs.Calls.{Call, add, change, revoke, open_slot, open_any, read, write, slot_number_ok, any_enabled, other_enabled, early_checks, late_checks, checks, refused}
use Rattle.rules.specs.Format.{key_bytes_of, suite_for}
use Rattle.rules.proofs.ChecksLaws.{Pass, accepted}
use Rattle.rules.proofs.StepLaws.{numbered-checks}
use Rattle.rules.proofs.ArgumentLaws.{number_in}
use Rattle.ledger.specs.Drive.{map_from, content_facts, drive_facts}
use Rattle.ledger.specs.Ledger.{Ledger, SlotEntry, empty, live, state_of, content_of, ledger_drive, ledger_facts, set_slot, set_sectors, ledger_after, settle_entry, enter, enter_all}
use Rattle.ledger.specs.Demand3.{AllTyped, no_entry, SomeLive, is_add, add_accepted}
use Rattle.ledger.proofs.LedgerLaws.{GoodLedger}
use Rattle.ledger.proofs.EnterLaws.{step_follows}

-- ---- entries: indices from 0

-- one of the entries is live
abbrev Some : List SlotEntry → Type 0
Some xs = (j : ℕ) × (j < length xs) × (state_of (get_or xs j no_entry) ≡ enabled)

-- one other than that at k is
abbrev Other : List SlotEntry → ℕ → Type 0
Other xs k = (j : ℕ) × (j < length xs) × (j ≢ k) × (state_of (get_or xs j no_entry) ≡ enabled)

module _ (S : Suite) (L n : ℕ) where
  any_some : (i : ℕ) (xs : List SlotEntry) → any_enabled (map_from (content_facts n L) i (map (content_of S L n) xs)) ≡ true → Some xs
  unfolding any_enabled map_from is_enabled content_facts content_of
  any_some i [] h = no h
  any_some i (x ∷ xs) h =
      or_split (eqb (state_of x) enabled) (any_enabled (map_from (content_facts n L) (suc i) (map (content_of S L n) xs))) h
      (λ e. (0, omega arith, eqb-true _ _ e))
      (λ e. let r = any_some (suc i) xs e in (suc r.0, omega arith, r.2))

  other-some : (i : ℕ) (xs : List SlotEntry) (k : ℕ) → other_enabled (map_from (content_facts n L) i (map (content_of S L n) xs)) k ≡ true → Other xs k
  unfolding other_enabled map_from is_enabled content_facts content_of
  other-some i [] k h = no h
  other-some i (x ∷ xs) zero h = let r = any_some (suc i) xs h in (suc r.0, omega arith, omega arith, r.2)
  other-some i (x ∷ xs) (suc k) h =
      or_split (eqb (state_of x) enabled) (other_enabled (map_from (content_facts n L) (suc i) (map (content_of S L n) xs)) k) h
      (λ e. (0, omega arith, omega arith, eqb-true _ _ e))
      (λ e. let r = other-some (suc i) xs k e in (suc r.0, omega arith, omega arith, r.3))

-- an entry whose state is enabled has a key and what it was added with
live-entry : (s : SlotEntry) → state_of s ≡ enabled → (key : List ℕ) × (x : SlotInput) × (s ≡ live key x)
unfolding state_of
live-entry (empty area) e = absurd (omega arith)
live-entry (live key x) e = (key, x, refl)

live_at : (l : Ledger) (j : ℕ) → j < 8 → state_of (get_or l.slot_entries j no_entry) ≡ enabled → SomeLive l
live_at l j h e =
    let i : (j + 1) - 1 ≡ j = omega arith in
    let q = live-entry (get_or l.slot_entries j no_entry) e in
    record {
      slot = j + 1;
      least = omega arith;
      most = omega arith;
      key = q.0;
      input = q.1;
      entry_is = ap (λ (m : ℕ). get_or l.slot_entries m no_entry) i ∙ q.2;
    }

set_other : (l : Ledger) (j k : ℕ) (s : SlotEntry) → j < 8 → j ≢ (k - 1) → state_of (get_or l.slot_entries j no_entry) ≡ enabled → SomeLive (set_slot l k s)
unfolding set_slot
set_other l j k s h d e =
    live_at (set_slot l k s) j h (ap state_of (get_or-set_other l.slot_entries (k - 1) j s no_entry d) ∙ e)

set_same : (l : Ledger) (k : ℕ) → k - 1 < length l.slot_entries → (key : List ℕ) (x : SlotInput)
    → state_of (get_or (set_slot l k (live key x)).slot_entries (k - 1) no_entry) ≡ enabled
unfolding set_slot state_of
set_same l k h key x = ap state_of (get_or-set_same l.slot_entries (k - 1) (live key x) no_entry h)

-- ---- calls

module _ (table : Table) (l : Ledger) (g : GoodLedger table l) where
  set-live : (k : ℕ) → 1 ≤ k → k ≤ 8 → (key : List ℕ) (x : SlotInput) → SomeLive (set_slot l k (live key x))
  set-live k h i key x = live_at (set_slot l k (live key x)) (k - 1) (omega arith) (set_same l k (omega (arith, g.eight)) key x)

  -- an accepted call leaves a live slot
  stays_live : (c : Call) → Pass (checks (ledger_facts table l) c) → SomeLive l → SomeLive (ledger_after (ledger_facts table l) c l)
  unfolding checks early_checks late_checks ledger_after ledger_facts drive_facts ledger_drive set_sectors
  stays_live (add k key x list) c a = let r = number_in k c.0 in set-live k r.0 r.1 key x
  stays_live (change k passphrase to x filler list) c a =
      let f = ledger_facts table l in
      let numbers = and_split (slot_number_ok k) (slot_number_ok to) c.0 in
      let r = number_in k numbers.0 in
      let t = number_in to numbers.1 in
      let states = and_split (is_enabled (slot_of f k)) (not (is_enabled (slot_of f to))) c.1.0 in
      let new = live (candidate f k passphrase) x in
      let d : (to - 1) ≢ (k - 1) = λ e.
      let same' : to ≡ k = omega arith in
      let on : is_enabled (slot_of f to) ≡ true = ap (λ z. is_enabled (slot_of f z)) same' ∙ states.0 in
      let off : is_enabled (slot_of f to) ≡ false = not-true _ states.1 in
      no (sym off ∙ on) in
      set_other (set_slot l to new) (to - 1) k (empty filler) (omega arith) d (set_same l to (omega (arith, g.eight)) _ x)
  stays_live (revoke k filler list) c a =
      let r = other-some (suite_for table l.input) (key_bytes_of table l.input) l.input.stripes 0 l.slot_entries (k - 1) c.1.1.0 in
      set_other l r.0 k (empty filler) (omega (arith, g.eight)) r.2 r.3
  stays_live (open_slot k passphrase) c a = a
  stays_live (open_any passphrase) c a = a
  stays_live (read key u n buffer) c a = a
  stays_live (write key u n buffer) c a =
      record { slot = a.slot; least = a.least; most = a.most; key = a.key; input = a.input; entry_is = a.entry_is }

  -- an accepted add makes one
  add-live : (c : Call) → is_add c ≡ true → Pass (checks (ledger_facts table l) c) → SomeLive (ledger_after (ledger_facts table l) c l)
  unfolding is_add checks early_checks late_checks ledger_after
  add-live (add k key x list) e c = let r = number_in k c.0 in set-live k r.0 r.1 key x
  add-live (change k passphrase to x filler list) e c = no e
  add-live (revoke k filler list) e c = no e
  add-live (open_slot k passphrase) e c = no e
  add-live (open_any passphrase) e c = no e
  add-live (read key u n buffer) e c = no e
  add-live (write key u n buffer) e c = no e

  -- the number of the first check that fails
  abbrev code : Call → ℕ
  code c = first (checks (ledger_facts table l) c)

  passes : (c : Call) → eqb (code c) 0 ≡ true → Pass (checks (ledger_facts table l) c)
  passes c e = accepted (checks (ledger_facts table l) c) (numbered-checks (ledger_facts table l) c) (eqb-true _ _ e)

  settled-live : (c : Call) (b : Bool) → eqb (code c) 0 ≡ b → SomeLive l → SomeLive (settle_entry (ledger_facts table l) c l (code c) b).ledger
  unfolding settle_entry
  settled-live c true e a = stays_live c (passes c e) a
  settled-live c false e a = a

  settled-add : (c : Call) (b : Bool) → eqb (code c) 0 ≡ b → is_add c ≡ true → eqb (settle_entry (ledger_facts table l) c l (code c) b).said.code 0 ≡ true
      → SomeLive (settle_entry (ledger_facts table l) c l (code c) b).ledger
  unfolding settle_entry refused
  settled-add c true e i a = add-live c i (passes c e)
  settled-add c false e i a = no (sym e ∙ a)

  entered-live : (c : Call) → SomeLive l → SomeLive (enter table l c).ledger
  unfolding enter
  entered-live c a = settled-live c _ refl a

  entered-add : (c : Call) → is_add c ≡ true → eqb (enter table l c).said.code 0 ≡ true → SomeLive (enter table l c).ledger
  unfolding enter
  entered-add c i a = settled-add c _ refl i a

-- ---- lists of calls

all_stay_live : (table : Table) (l : Ledger) (cs : List Call) → GoodLedger table l → AllTyped cs → SomeLive l → SomeLive (enter_all table l cs).ledger
unfolding enter_all
all_stay_live table l [] g t a = a
all_stay_live table l (c ∷ cs) g t a = all_stay_live table (enter table l c).ledger cs (step_follows table l g c t.0).1 t.1 (entered-live table l g c a)

pub add_stays_live : (table : Table) (l : Ledger) (cs : List Call) → GoodLedger table l → AllTyped cs
    → add_accepted cs (enter_all table l cs).answers ≡ true → SomeLive (enter_all table l cs).ledger
unfolding enter_all add_accepted
add_stays_live table l [] g t a = no a
add_stays_live table l (c ∷ cs) g t a =
    let m = (enter table l c).ledger in
    let gm = (step_follows table l g c t.0).1 in
    or_split (is_add c && eqb (enter table l c).said.code 0) (add_accepted cs (enter_all table m cs).answers) a
    (λ e. let q = and_split _ _ e in all_stay_live table m cs gm t.1 (entered-add table l g c q.0 q.1))
    (λ e. add_stays_live table m cs gm t.1 e)
