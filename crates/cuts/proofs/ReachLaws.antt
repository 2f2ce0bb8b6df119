-- A cut call given once more, and a cut change finished by a revoke, on a good drive.
use mathlib.Core.Path.{◌≡◌, refl, sym, ap, ◌∙◌}
use mathlib.Core.Logic.{◌≢◌, ◌⊎◌, inl, inr}
use mathlib.Core.List.{List, ◌++◌}
use mathlib.Core.Bool.{Bool, true, false, not}
use Prim.Native.Nat.{ℕ, ◌-◌, ◌*◌, ◌≤◌}
use native.Mathlib.Omega.{arith}
use lib.Dec.{eqb}
use lib.ListN.{length}
use borrow.Author.Tests.{eq-eqb}
use Rattle.octets.proofs.BoolLaws.{and_split}
use Rattle.rules.specs.Checks.{Check, first}
use Rattle.rules.specs.Profiles.{Table}
use Rattle.rules.specs.Facts.{Facts, SlotInput, enabled, is_enabled, slot_of, candidate, facts_of}
use Rattle.rules.specs.Sectors.{entry_bytes, slot_count}
use Rattle.rules.specs.Header.{header_checks}
use Rattle.rules.specs.Calls.{Call, add, change, revoke, open_slot, open_any, read, write, slot_number_ok, random_ok, filler_ok, list_ok, early_checks, late_checks, checks}
use Rattle.rules.specs.Calls.{answer, done, no_key_bytes, refused}
use Rattle.rules.specs.Step.{After, written, enable_writes, disable_writes, writes, settle, step}
use Rattle.rules.specs.Format.{key_bytes_of}
use Rattle.rules.proofs.ChecksLaws.{Pass}
use Rattle.rules.proofs.StepLaws.{written-append}
use Rattle.ledger.specs.Drive.{SlotContent, Drive, drive_image, drive_facts}
use Rattle.ledger.specs.Ledger.{empty, live, state_of, content_of}
use Rattle.ledger.proofs.DriveLaws.{GoodDrive, GoodContent, content_at}
use Rattle.ledger.proofs.WritingLaws.{set_content}
use Rattle.ledger.proofs.LedgerLaws.{content_in}
use Rattle.cuts.specs.CutSafe.{with_list, list_length, Reaches}
use Rattle.ledger.proofs.ReadingLaws.{start-at}
use Rattle.cuts.proofs.RoomLaws.{set_twice}
use Rattle.cuts.proofs.AgainLaws.{other_yes, drive_accepted, drive_refused, enable_put, disable_put, put-good, other-slot, same_count, same-filler, state_now}
use Rattle.cuts.proofs.AgainLaws.{same-candidate, add-again, revoke-again, change-again}

-- accepted, with this image
abbrev leaves : List ℕ → After
leaves i = record { said = done; image = i }

-- ---- of the buffer for its list a call asks the length alone

checks-list : (f : Facts) (c : Call) (b : List ℕ) → length b ≡ list_length c → checks f (with_list c b) ≡ checks f c
unfolding checks early_checks late_checks list_ok
checks-list f (add k key x list) b e = rw e
checks-list f (change k passphrase to x filler list) b e = rw e
checks-list f (revoke k filler list) b e = rw e
checks-list f (open_slot k passphrase) b e = refl
checks-list f (open_any passphrase) b e = refl
checks-list f (read key u n buffer) b e = refl
checks-list f (write key u n buffer) b e = refl

refused-list : (r : ℕ) (c : Call) (b : List ℕ) → refused r (with_list c b) ≡ refused r c
unfolding refused no_key_bytes
refused-list r (add k key x list) b = refl
refused-list r (change k passphrase to x filler list) b = refl
refused-list r (revoke k filler list) b = refl
refused-list r (open_slot k passphrase) b = refl
refused-list r (open_any passphrase) b = refl
refused-list r (read key u n buffer) b = refl
refused-list r (write key u n buffer) b = refl

accepted-list : (f : Facts) (c : Call) (image b : List ℕ) (r : ℕ) → settle f (with_list c b) image r true ≡ settle f c image r true
unfolding settle answer writes
accepted-list f (add k key x list) image b r = refl
accepted-list f (change k passphrase to x filler list) image b r = refl
accepted-list f (revoke k filler list) image b r = refl
accepted-list f (open_slot k passphrase) image b r = refl
accepted-list f (open_any passphrase) image b r = refl
accepted-list f (read key u n buffer) image b r = refl
accepted-list f (write key u n buffer) image b r = refl

settle-list : (f : Facts) (c : Call) (image b : List ℕ) (r : ℕ) (t : Bool) → settle f (with_list c b) image r t ≡ settle f c image r t
unfolding settle
settle-list f c image b r true = accepted-list f c image b r
settle-list f c image b r false = ap {B = After} (λ a. record { said = a; image = image }) (refused-list r c b)

module _ (table : Table) (z : List ℕ) (c : Call) (b : List ℕ) (e : length b ≡ list_length c) where
  step-list : step table z (with_list c b) ≡ step table z c
  unfolding step
  step-list =
      let f = facts_of table z in
      let head = header_checks table z in
      ap (λ (cs : List Check). settle f (with_list c b) z (first (head ++ cs)) (eqb (first (head ++ cs)) 0)) (checks-list f c b e)
      ∙ settle-list f c z b (first (head ++ checks f c)) (eqb (first (head ++ checks f c)) 0)

  pub reaches_list : (after : List ℕ) → Reaches table z c after → Reaches table z (with_list c b) after
  reaches_list after (inl q) = inl (step-list ∙ q)
  reaches_list after (inr q) = inr (step-list ∙ q.0 ∙ ap {B = After} (λ a. record { said = a; image = z }) (sym (refused-list 15 c b)), q.1)

-- ---- add and revoke, where slot k's content is b

module _ (table : Table) (d : Drive) (g : GoodDrive table d) (k : ℕ) (hk : 1 ≤ k) (h8 : k ≤ 8)
    (b : SlotContent) (okb : GoodContent d.input.stripes (key_bytes_of table d.input) b) where
  -- good contents of the drive
  abbrev Good : SlotContent → Type 0
  Good c = GoodContent d.input.stripes (key_bytes_of table d.input) c

  -- the drive with that content
  abbrev D : Drive
  D = set_content d k b

  g_d : GoodDrive table D
  g_d = put-good table d g k hk h8 b okb

  -- the slot's state, where its content is c
  state_is : (c : SlotContent) → b ≡ c → is_enabled (slot_of (drive_facts table D) k) ≡ eqb c.state enabled
  state_is c e = state_now table d g k hk h8 b okb ∙ ap (λ (y : SlotContent). eqb y.state enabled) e

  pub add_reaches : (key : List ℕ) (x : SlotInput) (list : List ℕ) → Good (content_in table d.input (live key x)) → Pass (checks (drive_facts table d) (add k key x list))
      → (b ≡ content_in table d.input (live key x)) ⊎ (b.state ≡ (content_at d (k - 1)).state)
      → Reaches table (drive_image table (set_content d k b)) (add k key x list) (drive_image table (set_content d k (content_in table d.input (live key x))))
  unfolding answer writes checks early_checks late_checks first set_content content_of state_of
  add_reaches key x list ok c (inr e) =
      inl
      (drive_accepted table D g_d (add k key x list) (add-again table d g k hk h8 b okb e key x list c)
      ∙ ap leaves (enable_put table D g_d k hk h8 key x ok ∙ ap (drive_image table) (set_twice d k b (content_in table d.input (live key x)))))
  add_reaches key x list ok c (inl e) =
      inr (drive_refused table D g_d (add k key x list) 15 (omega arith) (rw (c.0, state_is _ e)), ap (λ (y : SlotContent). drive_image table (set_content d k y)) e)

  pub revoke_reaches : (filler list : List ℕ) → Good (content_in table d.input (empty filler)) → Pass (checks (drive_facts table d) (revoke k filler list))
      → (b ≡ content_in table d.input (empty filler)) ⊎ (b.state ≡ (content_at d (k - 1)).state)
      → Reaches table (drive_image table (set_content d k b)) (revoke k filler list) (drive_image table (set_content d k (content_in table d.input (empty filler))))
  unfolding answer writes checks early_checks late_checks first set_content content_of state_of
  revoke_reaches filler list ok c (inr e) =
      inl
      (drive_accepted table D g_d (revoke k filler list) (revoke-again table d g k hk h8 b okb e filler list c)
      ∙ ap leaves
      (disable_put table D g_d k hk h8 (drive_facts table D) (start-at table D g_d k hk h8) filler ok ∙ ap (drive_image table) (set_twice d k b (content_in table d.input (empty filler)))))
  revoke_reaches filler list ok c (inl e) =
      inr (drive_refused table D g_d (revoke k filler list) 15 (omega arith) (rw (c.0, state_is _ e)), ap (λ (y : SlotContent). drive_image table (set_content d k y)) e)

-- ---- change from slot k to slot to

module _ (table : Table) (d : Drive) (g : GoodDrive table d) (k to : ℕ) (hk : 1 ≤ k) (h8 : k ≤ 8) (ht : 1 ≤ to) (t8 : to ≤ 8) (q : k ≢ to)
    (passphrase : List ℕ) (x : SlotInput) (filler list : List ℕ) (c : Pass (checks (drive_facts table d) (change k passphrase to x filler list))) where
  -- the drive's facts
  abbrev f : Facts
  f = drive_facts table d

  -- the second slot's content afterwards
  abbrev new : SlotContent
  new = content_in table d.input (live (candidate f k passphrase) x)

  -- and the first one's
  abbrev gone : SlotContent
  gone = content_in table d.input (empty filler)

  -- the drive between the add and the revoke
  abbrev mid : Drive
  mid = set_content d to new

  module _ (okn : GoodContent d.input.stripes (key_bytes_of table d.input) new) (okg : GoodContent d.input.stripes (key_bytes_of table d.input) gone) where
    gm : GoodDrive table mid
    gm = put-good table d g to ht t8 new okn

    pub between_is : written (enable_writes f to (candidate f k passphrase) x) (drive_image table d) ≡ drive_image table mid
    between_is = enable_put table d g to ht t8 (candidate f k passphrase) x okn

    pub after_is : written (disable_writes f k filler) (drive_image table mid) ≡ drive_image table (set_content mid k gone)
    unfolding set_content
    after_is = disable_put table mid gm k hk h8 f (start-at table d g k hk h8) filler okg

    -- the change given once more, while the second slot has its old state
    pub change_reaches : (b : SlotContent) (okb : GoodContent d.input.stripes (key_bytes_of table d.input) b) → b.state ≡ (content_at d (to - 1)).state
        → Reaches table (drive_image table (set_content d to b)) (change k passphrase to x filler list) (drive_image table (set_content mid k gone))
    unfolding answer writes set_content
    change_reaches b okb e =
        let D = set_content d to b in
        let g_d = put-good table d g to ht t8 b okb in
        let f₁ = drive_facts table D in
        let key = candidate f k passphrase in
        inl
        (drive_accepted table D g_d (change k passphrase to x filler list) (change-again table d g to ht t8 b okb e k hk h8 q passphrase x filler list c)
        ∙ ap leaves
        (written-append (enable_writes f₁ to (candidate f₁ k passphrase) x) (disable_writes f₁ k filler) (drive_image table D)
        ∙ ap (λ (y : List ℕ). written (disable_writes f₁ k filler) (written (enable_writes f₁ to y x) (drive_image table D)))
        (same-candidate table d g to ht t8 b okb k hk h8 q passphrase)
        ∙ ap (written (disable_writes f₁ k filler)) (enable_put table D g_d to ht t8 key x okn ∙ ap (drive_image table) (set_twice d to b new))
        ∙ disable_put table mid gm k hk h8 f₁ (start-at table D g_d k hk h8) filler okg))

    -- the second slot is enabled between
    pub new-enabled : is_enabled (slot_of (drive_facts table mid) to) ≡ true
    unfolding content_of state_of
    new-enabled = state_now table d g to ht t8 new okn

    -- a revoke of the first, with a buffer of its own, is accepted there
    revoke-passes : (list' : List ℕ) → length list' ≡ slot_count f k * entry_bytes → Pass (checks (drive_facts table mid) (revoke k filler list'))
    unfolding checks early_checks late_checks list_ok slot_of
    revoke-passes list' e =
        let o = other-slot table d g to ht t8 new okn k hk h8 q in
        let numbers = and_split (slot_number_ok k) (slot_number_ok to) c.0 in
        let states = and_split (is_enabled (slot_of f k)) (not (is_enabled (slot_of f to))) c.1.0 in
        let lengths = and_split (random_ok f to x.random) (filler_ok f k filler) c.1.1.1.1.0 in
        let z : (to - 1) ≢ (k - 1) = λ e. q (omega arith) in
        let others = other_yes (drive_facts table mid).slot_facts (k - 1) (to - 1) z new-enabled in
        let count = same_count table d g to ht t8 new okn k hk h8 in
        (numbers.0, (ap is_enabled o ∙ states.0, (others, (same-filler table d g to ht t8 new okn k hk h8 filler ∙ lengths.1, (rw count (eq-eqb _ _ e), tt)))))

    pub finish_reaches : (b : SlotContent) (okb : GoodContent d.input.stripes (key_bytes_of table d.input) b)
        → (b ≡ content_in table d.input (empty filler)) ⊎ (b.state ≡ (content_at mid (k - 1)).state) → (list' : List ℕ) → length list' ≡ slot_count f k * entry_bytes
        → Reaches table (drive_image table (set_content mid k b)) (revoke k filler list') (drive_image table (set_content mid k gone))
    unfolding set_content
    finish_reaches b okb w list' e = revoke_reaches table mid gm k hk h8 b okb filler list' okg (revoke-passes list' e) w
