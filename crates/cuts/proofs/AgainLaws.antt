-- Calls on a good drive with one slot's content replaced: what they are checked by, what they answer, what they write.
use mathlib.Core.Path.{◌≡◌, refl, sym, ap, ap₂, ◌∙◌}
use mathlib.Core.Logic.{◌≢◌}
use mathlib.Core.List.{List, [], ◌∷◌}
use mathlib.Core.Bool.{Bool, true, false, ◌&&◌, ◌||◌, not, cond}
use Prim.Native.Nat.{ℕ, zero, suc, ◌+◌, ◌-◌, ◌*◌, ◌≤◌}
use native.Mathlib.Omega.{arith}
use lib.Dec.{eqb}
use lib.ListN.{get_or, set}
use lib.Seq.{get_or-set_other}
use borrow.Author.Tests.{ne_eqb}
use Rattle.octets.specs.Pieces.{piece_count}
use Rattle.octets.proofs.BoolLaws.{no}
use Rattle.rules.specs.Checks.{first}
use Rattle.rules.specs.Profiles.{Table}
use Rattle.rules.specs.Layout.{area_start}
use Rattle.rules.specs.Facts.{Facts, SlotFacts, SlotInput, enabled, is_enabled, slot_of, no_slot, matches, key_material, candidate}
use Rattle.rules.specs.Sectors.{area_count, slot_count}
use Rattle.rules.specs.Header.{header_checks}
use Rattle.rules.specs.Calls.{Call, add, change, revoke, open_slot, key_ok, count_ok, random_ok, filler_ok, list_ok, any_enabled, other_enabled, early_checks, late_checks, checks}
use Rattle.rules.specs.Calls.{answer, opened, refused}
use Rattle.rules.specs.Step.{After, written, record_head, slot_writes, enable_writes, disable_writes, writes, settle, step}
use Rattle.rules.specs.Format.{key_bytes_of, suite_for}
use Rattle.rules.proofs.ChecksLaws.{Pass, first_pass, first-append}
use Rattle.ledger.specs.Drive.{SlotContent, Drive, map_from, drive_image, content_facts, drive_facts}
use Rattle.ledger.specs.Ledger.{empty, live, state_of, count_of, salt_of, area_of, content_of}
use Rattle.ledger.proofs.DriveLaws.{GoodDrive, GoodContent, no_content, content_at}
use Rattle.ledger.proofs.ReadingLaws.{facts-read, header_passes, slot-at, start-at, stripes-at}
use Rattle.ledger.proofs.WritingLaws.{set_content, good-content, slot-put}
use Rattle.ledger.proofs.LedgerLaws.{content_in}
use Rattle.cuts.proofs.RoomLaws.{content-set}

-- ---- other enabled slots

or_right : (a b : Bool) → b ≡ true → (a || b) ≡ true
or_right true b h = refl
or_right false b h = h

any_yes : (xs : List SlotFacts) (j : ℕ) → is_enabled (get_or xs j no_slot) ≡ true → any_enabled xs ≡ true
unfolding any_enabled is_enabled no_slot
any_yes [] j e = no e
any_yes (s ∷ ss) zero e = rw e
any_yes (s ∷ ss) (suc j) e = or_right (eqb s.state enabled) (any_enabled ss) (any_yes ss j e)

pub other_yes : (xs : List SlotFacts) (k j : ℕ) → j ≢ k → is_enabled (get_or xs j no_slot) ≡ true → other_enabled xs k ≡ true
unfolding other_enabled is_enabled no_slot
other_yes [] k j d e = no e
other_yes (s ∷ ss) zero zero d e = absurd (d refl)
other_yes (s ∷ ss) zero (suc j) d e = any_yes ss j e
other_yes (s ∷ ss) (suc k) zero d e = rw e
other_yes (s ∷ ss) (suc k) (suc j) d e = or_right (eqb s.state enabled) (other_enabled ss k) (other_yes ss k j (λ q. d (ap suc q)) e)

-- slot k itself does not count
other-same : (f : ℕ → SlotContent → SlotFacts) (i : ℕ) (xs : List SlotContent) (k : ℕ) (c : SlotContent)
    → other_enabled (map_from f i (set xs k c)) k ≡ other_enabled (map_from f i xs) k
unfolding other_enabled map_from
other-same f i [] k c = refl
other-same f i (x ∷ xs) zero c = refl
other-same f i (x ∷ xs) (suc k) c = ap (λ b. is_enabled (f i x) || b) (other-same f (suc i) xs k c)

-- ---- a call on a good drive

settle-said : (f : Facts) (c : Call) (image : List ℕ) (r : ℕ) (b : Bool) → (settle f c image r b).said ≡ cond b (answer f c) (refused r c)
unfolding settle
settle-said f c image r true = refl
settle-said f c image r false = refl

module _ (table : Table) (d : Drive) (g : GoodDrive table d) where
  -- its facts
  abbrev f : Facts
  f = drive_facts table d

  -- its image
  abbrev image : List ℕ
  image = drive_image table d

  pub header_ok : first (header_checks table (drive_image table d)) ≡ 0
  header_ok = first_pass (header_checks table image) (header_passes table d g)

  drive_step : (c : Call) → step table image c ≡ settle f c image (first (checks f c)) (eqb (first (checks f c)) 0)
  unfolding step
  drive_step c = rw (facts-read table d g, first-append (header_checks table image) (checks f c) (header_passes table d g))

  pub drive_accepted : (c : Call) → Pass (checks (drive_facts table d) c)
      → step table (drive_image table d) c ≡ record { said = answer (drive_facts table d) c; image = written (writes (drive_facts table d) c) (drive_image table d) }
  unfolding settle
  drive_accepted c h = drive_step c ∙ rw (first_pass (checks f c) h)

  pub drive_refused : (c : Call) (r : ℕ) → r ≢ 0 → first (checks (drive_facts table d) c) ≡ r
      → step table (drive_image table d) c ≡ record { said = refused r c; image = drive_image table d }
  unfolding settle
  drive_refused c r h e = drive_step c ∙ rw (e, ne_eqb r 0 h)

  drive_said : (c : Call) → (step table image c).said ≡ cond (eqb (first (checks f c)) 0) (answer f c) (refused (first (checks f c)) c)
  drive_said c = ap (λ (s : After). s.said) (drive_step c) ∙ settle-said f c image _ _

  pub count_at : (j : ℕ) → 1 ≤ j → j ≤ 8 → area_count (drive_facts table d) j ≡ piece_count 512 (d.input.stripes * key_bytes_of table d.input)
  unfolding area_count drive_facts
  count_at j h i = ap (λ (m : ℕ). piece_count 512 (m * key_bytes_of table d.input)) (stripes-at table d g j h i)

  -- ---- what the work on slot k writes

  module _ (k : ℕ) (hk : 1 ≤ k) (h8 : k ≤ 8) where
    pub enable_put : (key : List ℕ) (x : SlotInput) → GoodContent d.input.stripes (key_bytes_of table d.input) (content_in table d.input (live key x))
        → written (enable_writes (drive_facts table d) k key x) (drive_image table d) ≡ drive_image table (set_content d k (content_in table d.input (live key x)))
    unfolding enable_writes drive_facts content_of state_of count_of salt_of area_of
    enable_put key x ok =
        ap (λ (n : ℕ). written (slot_writes f k (key_material (suite_for table d.input) (key_bytes_of table d.input) n key x) (record_head enabled x.count x.salt)) image)
        (stripes-at table d g k hk h8)
        ∙ slot-put table d g k hk h8 (content_in table d.input (live key x)) ok f (start-at table d g k hk h8)

    -- by facts that have the slot where the drive has it
    pub disable_put : (f' : Facts) → (slot_of f' k).start ≡ area_start d.input.stripes (key_bytes_of table d.input) (k - 1) → (filler : List ℕ)
        → GoodContent d.input.stripes (key_bytes_of table d.input) (content_in table d.input (empty filler))
        → written (disable_writes f' k filler) (drive_image table d) ≡ drive_image table (set_content d k (content_in table d.input (empty filler)))
    unfolding disable_writes content_of state_of count_of salt_of area_of
    disable_put f' e filler ok = slot-put table d g k hk h8 (content_in table d.input (empty filler)) ok f' e

-- ---- slot k's content replaced

module _ (table : Table) (d : Drive) (g : GoodDrive table d) (k : ℕ) (hk : 1 ≤ k) (h8 : k ≤ 8)
    (b : SlotContent) (ok : GoodContent d.input.stripes (key_bytes_of table d.input) b) where
  -- the drive's stripes
  abbrev n : ℕ
  n = d.input.stripes

  -- its key bytes
  abbrev L : ℕ
  L = key_bytes_of table d.input

  -- the drive with that content
  abbrev D : Drive
  D = set_content d k b

  -- the facts before
  abbrev f₀ : Facts
  f₀ = drive_facts table d

  -- and with it
  abbrev f₁ : Facts
  f₁ = drive_facts table (set_content d k b)

  pub put-good : GoodDrive table (set_content d k b)
  put-good = good-content table d g k b ok

  this_slot : slot_of f₁ k ≡ content_facts n L (k - 1) b
  unfolding set_content
  this_slot = slot-at table D put-good k hk h8 ∙ ap (content_facts n L (k - 1)) (content-set d k b (omega (arith, g.eight)))

  pub other-slot : (j : ℕ) → 1 ≤ j → j ≤ 8 → j ≢ k → slot_of (drive_facts table (set_content d k b)) j ≡ slot_of (drive_facts table d) j
  unfolding set_content
  other-slot j h i q =
      slot-at table D put-good j h i
      ∙ ap (content_facts n L (j - 1)) (get_or-set_other d.contents (k - 1) (j - 1) b no_content (λ e. q (omega arith)))
      ∙ sym (slot-at table d g j h i)

  same-stripes : (j : ℕ) → 1 ≤ j → j ≤ 8 → (slot_of f₁ j).stripes ≡ (slot_of f₀ j).stripes
  unfolding set_content
  same-stripes j h i = stripes-at table D put-good j h i ∙ sym (stripes-at table d g j h i)

  pub same_count : (j : ℕ) → 1 ≤ j → j ≤ 8 → slot_count (drive_facts table (set_content d k b)) j ≡ slot_count (drive_facts table d) j
  unfolding slot_count area_count drive_facts set_content
  same_count j h i = rw (same-stripes j h i)

  pub same-random : (j : ℕ) → 1 ≤ j → j ≤ 8 → (random : List ℕ) → random_ok (drive_facts table (set_content d k b)) j random ≡ random_ok (drive_facts table d) j random
  unfolding random_ok drive_facts set_content
  same-random j h i random = rw (same-stripes j h i)

  pub same-filler : (j : ℕ) → 1 ≤ j → j ≤ 8 → (filler : List ℕ) → filler_ok (drive_facts table (set_content d k b)) j filler ≡ filler_ok (drive_facts table d) j filler
  unfolding filler_ok drive_facts set_content
  same-filler j h i filler = rw (same-stripes j h i)

  pub state_now : is_enabled (slot_of (drive_facts table (set_content d k b)) k) ≡ eqb b.state enabled
  unfolding content_facts is_enabled
  state_now = ap is_enabled this_slot

  pub same-state : b.state ≡ (content_at d (k - 1)).state → is_enabled (slot_of (drive_facts table (set_content d k b)) k) ≡ is_enabled (slot_of (drive_facts table d) k)
  unfolding is_enabled content_facts
  same-state e = state_now ∙ ap (λ (x : ℕ). eqb x enabled) e ∙ sym (ap is_enabled (slot-at table d g k hk h8))

  same_others : other_enabled f₁.slot_facts (k - 1) ≡ other_enabled f₀.slot_facts (k - 1)
  unfolding drive_facts set_content
  same_others = other-same (content_facts n L) 0 d.contents (k - 1) b

  -- ---- another slot's candidate and opening

  module _ (j : ℕ) (h : 1 ≤ j) (i : j ≤ 8) (q : j ≢ k) (passphrase : List ℕ) where
    pub same-candidate : candidate (drive_facts table (set_content d k b)) j passphrase ≡ candidate (drive_facts table d) j passphrase
    unfolding candidate drive_facts set_content
    same-candidate = rw (other-slot j h i q)

    same-checks : checks f₁ (open_slot j passphrase) ≡ checks f₀ (open_slot j passphrase)
    unfolding checks early_checks late_checks matches drive_facts set_content
    same-checks = rw (same-candidate, other-slot j h i q)

    same_answer : answer f₁ (open_slot j passphrase) ≡ answer f₀ (open_slot j passphrase)
    unfolding answer opened drive_facts set_content
    same_answer = rw same-candidate

    pub open_same : (step table (drive_image table (set_content d k b)) (open_slot j passphrase)).said ≡ (step table (drive_image table d) (open_slot j passphrase)).said
    open_same = drive_said table D put-good (open_slot j passphrase) ∙ rw (same-checks, same_answer) (sym (drive_said table d g (open_slot j passphrase)))

  -- ---- a call given once more is checked as before, where the state is the old one

  module _ (e : b.state ≡ (content_at d (k - 1)).state) where
    pub add-again : (key : List ℕ) (x : SlotInput) (list : List ℕ) → Pass (checks (drive_facts table d) (add k key x list))
        → Pass (checks (drive_facts table (set_content d k b)) (add k key x list))
    unfolding checks early_checks late_checks key_ok count_ok matches drive_facts set_content
    add-again key x list c =
        let states = ap not (same-state e) ∙ c.1.0 in
        let random = same-random k hk h8 x.random ∙ c.1.1.1.1.1.0 in
        let lists = ap (λ (m : ℕ). list_ok m list) (same_count k hk h8) ∙ c.1.1.1.1.1.1.0 in
        (c.0, (states, (c.1.1.0, (c.1.1.1.0, (c.1.1.1.1.0, (random, (lists, (c.1.1.1.1.1.1.1.0, tt))))))))

    pub revoke-again : (filler list : List ℕ) → Pass (checks (drive_facts table d) (revoke k filler list)) → Pass (checks (drive_facts table (set_content d k b)) (revoke k filler list))
    unfolding checks early_checks late_checks
    revoke-again filler list c =
        let lists = ap (λ (m : ℕ). list_ok m list) (same_count k hk h8) ∙ c.1.1.1.1.0 in
        (c.0, (same-state e ∙ c.1.0, (same_others ∙ c.1.1.0, (same-filler k hk h8 filler ∙ c.1.1.1.0, (lists, tt)))))

    pub change-again : (j : ℕ) → 1 ≤ j → j ≤ 8 → j ≢ k → (passphrase : List ℕ) (x : SlotInput) (filler list : List ℕ)
        → Pass (checks (drive_facts table d) (change j passphrase k x filler list)) → Pass (checks (drive_facts table (set_content d k b)) (change j passphrase k x filler list))
    unfolding checks early_checks late_checks count_ok matches drive_facts set_content
    change-again j h i q passphrase x filler list c =
        let states = ap₂ (λ (s t : Bool). s && not t) (ap is_enabled (other-slot j h i q)) (same-state e) ∙ c.1.0 in
        let lengths = ap₂ (λ (s t : Bool). s && t) (same-random k hk h8 x.random) (same-filler j h i filler) ∙ c.1.1.1.1.0 in
        let lists = ap₂ (λ (m m' : ℕ). list_ok (m + m') list) (same_count k hk h8) (same_count j h i) ∙ c.1.1.1.1.1.0 in
        let key = ap (matches f₀) (same-candidate j h i q passphrase) ∙ c.1.1.1.1.1.1.0 in
        (c.0, (states, (c.1.1.0, (c.1.1.1.0, (lengths, (lists, (key, tt)))))))
