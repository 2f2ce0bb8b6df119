-- What an accepted header check assures of an image, by any table: room for the header and the payload, sound records, areas in their place.
use mathlib.Core.Path.{◌≡◌, refl}
use mathlib.Core.Logic.{◌≢◌}
use mathlib.Core.List.{List}
use mathlib.Core.Bool.{Bool, true, ◌&&◌, ◌||◌, not}
use Prim.Native.Nat.{ℕ, zero, suc, ◌+◌, ◌-◌, ◌*◌, ◌%◌, ◌≤◌}
use native.Mathlib.Omega.{arith}
use lib.Dec.{eqb, leb, ltb}
use lib.ListN.{length}
use borrow.Author.Tests.{eqb-true, eqb-false, leb-true, not-true}
use Rattle.octets.proofs.BoolLaws.{and_split, or-not}
use Rattle.rules.specs.Checks.{first, every}
use Rattle.rules.specs.Profiles.{Table}
use Rattle.rules.specs.Facts.{Facts, SlotFacts, no_slot, slot_of, is_enabled, enabled, disabled, profile_in, facts_of}
use Rattle.rules.specs.Header.{size_ok, record_ok, slot_ok, area_end, inside, all_apart, sound_checks, header_checks}
use Rattle.rules.specs.Calls.{slot_number_ok}
use Rattle.rules.proofs.ChecksLaws.{Pass, accepted}
use Rattle.rules.proofs.EveryLaws.{every-at}
use Rattle.rules.proofs.ArgumentLaws.{number_in}
use Rattle.rules.proofs.StepLaws.{numbered-header}

-- slot k, counted from 1
pub record SlotSound (f : Facts) (k : ℕ) : Type 0 where
  pub stripes_least : 1 ≤ (slot_of f k).stripes
  pub stripes_most : (slot_of f k).stripes ≤ 4000
  pub start_least : 2 ≤ (slot_of f k).start
  pub area_ends : (slot_of f k).start * 512 + (slot_of f k).stripes * f.profile.key_bytes ≤ f.payload_at * 512
  pub count_least : is_enabled (slot_of f k) ≡ true → 1 ≤ (slot_of f k).count

pub record HeaderSound (table : Table) (image : List ℕ) : Type 0 where
  pub size : 1024 ≤ length image
  pub whole : length image % 512 ≡ 0
  pub found : ltb 0 (profile_in table.rows image) ≡ true
  pub checksum_least : 1 ≤ (facts_of table image).checksum_count
  pub payload_ends : (facts_of table image).payload_at * 512 ≤ length image
  pub slot : (k : ℕ) → slot_number_ok k ≡ true → SlotSound (facts_of table image) k

positive : (n : ℕ) → n ≢ 0 → 1 ≤ n
positive zero z = absurd (z refl)
positive (suc n) z = omega arith

-- ---- the slots

record-facts : (s : SlotFacts) → slot_ok s ≡ true → (1 ≤ s.stripes) × (s.stripes ≤ 4000) × (is_enabled s ≡ true → 1 ≤ s.count)
unfolding slot_ok record_ok is_enabled
record-facts s e =
    let b₃ : Bool = not (eqb s.state enabled) || not (eqb s.count 0) in
    let b₂ : Bool = leb s.stripes 4000 && b₃ in
    let p = (and_split (eqb s.state enabled || eqb s.state disabled) (leb 1 s.stripes && b₂) e).1 in
    let q = and_split (leb 1 s.stripes) b₂ p in
    let r = and_split (leb s.stripes 4000) b₃ q.1 in (
      leb-true _ _ q.0,
      leb-true _ _ r.0,
      λ o. positive s.count (eqb-false s.count 0 (not-true _ (or-not (eqb s.state enabled) (not (eqb s.count 0)) r.1 o))),
    )

inside-facts : (L payload : ℕ) (s : SlotFacts) → inside L payload s ≡ true → (2 ≤ s.start) × (s.start * 512 + s.stripes * L ≤ payload * 512)
unfolding inside area_end
inside-facts L payload s e =
    let p = and_split (leb 2 s.start) (leb (s.start * 512 + s.stripes * L) (payload * 512)) e in
    (leb-true _ _ p.0, leb-true _ _ p.1)

module _ (table : Table) (image : List ℕ) where
  abbrev f : Facts
  f = facts_of table image

  abbrev within : SlotFacts → Bool
  within = inside f.profile.key_bytes f.payload_at

  -- what holds of every slot holds of slot k
  pub slot-passes : (t : SlotFacts → Bool) (k : ℕ) → every t f.slot_facts ≡ true → slot_number_ok k ≡ true → t (slot_of f k) ≡ true
  unfolding slot_of facts_of
  slot-passes t k e h = every-at t no_slot f.slot_facts (k - 1) e (omega (arith, (number_in k h).0, (number_in k h).1))

  slot-sound : every slot_ok f.slot_facts ≡ true → every within f.slot_facts ≡ true → (k : ℕ) → slot_number_ok k ≡ true → SlotSound f k
  slot-sound ok in_place k h =
      let s = record-facts (slot_of f k) (slot-passes slot_ok k ok h) in
      let i = inside-facts f.profile.key_bytes f.payload_at (slot_of f k) (slot-passes within k in_place h) in
      record { stripes_least = s.0; stripes_most = s.1; start_least = i.0; area_ends = i.1; count_least = s.2 }

  -- ---- all of it

  pub header-sound : first (header_checks table image) ≡ 0 → HeaderSound table image
  unfolding header_checks sound_checks size_ok
  header-sound e =
      let p : Pass (header_checks table image) = accepted (header_checks table image) (numbered-header table image) e in
      let apart : Bool = all_apart f.profile.key_bytes f.slot_facts in
      let one = and_split (leb 1024 (length image)) (eqb (length image % 512) 0) p.0 in
      let five = and_split (not (eqb f.checksum_count 0)) (every slot_ok f.slot_facts) p.1.1.1.1.0 in
      let six = and_split (leb (f.payload_at * 512) (length image)) (every within f.slot_facts && apart) p.1.1.1.1.1.0 in
      let area = and_split (every within f.slot_facts) apart six.1 in
      record {
        size = leb-true 1024 (length image) one.0;
        whole = eqb-true (length image % 512) 0 one.1;
        found = p.1.1.1.0;
        checksum_least = positive f.checksum_count (eqb-false f.checksum_count 0 (not-true _ five.0));
        payload_ends = leb-true (f.payload_at * 512) (length image) six.0;
        slot = slot-sound five.1 area.0;
      }
