-- A slot's area in an accepted drive: its room, its bytes, its candidate, and what is written of it.
use mathlib.Core.Path.{◌≡◌, refl, sym, ap, ap₂, ◌∙◌}
use mathlib.Core.List.{List, ◌++◌, append-nil}
use mathlib.Core.Bool.{Bool, true, false}
use Prim.Native.Nat.{ℕ, ◌+◌, ◌-◌, ◌*◌, ◌≤◌}
use native.Mathlib.Omega.{arith}
use lib.ListN.{length, take, drop, replicate}
use Rattle.std.specs.Prelude.{Option, is_some, IfSome}
use Rattle.std.specs.Bool.{then_some}
use Rattle.octets.specs.Octets.{big_endian, be32, be32_at, zeros, padded, same}
use Rattle.octets.specs.Splice.{part, splice}
use Rattle.octets.proofs.BoolLaws.{and_no, and_yes}
use Rattle.octets.proofs.OctetsLaws.{drop-zeros}
use Rattle.hash.specs.declared.Hash.{Hash}
use Rattle.hash.specs.Hash.{digest_of}
use Rattle.pbkdf2.specs.Pbkdf2.{pbkdf2}
use Rattle.rules.specs.Facts.{Facts, SlotFacts, facts_of, slot_at, slot_of, is_enabled, profile_in, matches, checksum_of, slot_input, key_material, candidate_of, candidate}
use Rattle.rules.specs.Calls.{slot_number_ok, opens}
use Rattle.rules.specs.Step.{written, record_head, slot_writes}
use Rattle.rules.proofs.ArgumentLaws.{number_in}
use Rattle.rules.proofs.StepLaws.{slot_of-image}
use Rattle.profiles.specs.Rows.{hash_of, rows}
use Rattle.profiles.specs.Suites.{aes_xts, suite_of, built}
use Rattle.header.specs.declared.slot.Slot.{Slot}
use Rattle.header.specs.Records.{facts_in, HeaderOk, IsSlot}
use Rattle.header.proofs.SlotLaws.{stripes-fit}
use Rattle.header.proofs.SoundLaws.{sound}

module _ (image : List ℕ) (h : Hash) (eh : h ≡ hash_of (profile_in rows image)) where
  -- the suite of an image's profile has the hash of the profile
  pub suite_is : aes_xts (digest_of h) ≡ (facts_in image).suite
  unfolding facts_of suite_of
  suite_is = ap (λ x. aes_xts (digest_of x)) eh

  -- the comparison that the code makes is the rules' own
  pub matches_is : (key salt sum expected : List ℕ) (count : ℕ) (b : Bool) → count ≡ (facts_in image).checksum_count → salt ≡ (facts_in image).checksum_salt
      → expected ≡ (facts_in image).checksum → sum ≡ pbkdf2 (digest_of h) key salt count 20 → b ≡ same sum expected → b ≡ matches (facts_in image) key
  unfolding matches checksum_of aes_xts
  matches_is key salt sum expected count b ec es ee e p =
      p ∙ ap₂ same (e ∙ (λ j. (suite_is j).derive key (es j) (ec j) 20)) ee

-- ---- the area of a slot, whose record is r

module _ (image : List ℕ) (ok : HeaderOk image) (slot : ℕ) (h : slot_number_ok slot ≡ true) (r : Slot) (i : IsSlot r (slot_of (facts_in image) slot))
    (L : ℕ) (hL : L ≡ (facts_in image).profile.key_bytes) where
  abbrev facts : Facts
  facts = facts_in image

  bytes_are : r.stripes * L ≡ (slot_of facts slot).stripes * facts.profile.key_bytes
  bytes_are = ap₂ ◌*◌ i.stripes_is hL

  pub area_small : r.stripes * L ≤ 4000 * 64
  area_small =
      let s = sound image ok in
      stripes-fit r.stripes L (omega (arith, i.stripes_is, (s.slot slot h).stripes_most)) (omega (arith, hL, s.key_most))

  pub area-fits : r.start.0 * 512 + r.stripes * L ≤ length image
  area-fits =
      let s = sound image ok in
      omega (arith, i.start_is, bytes_are, (s.slot slot h).area_ends, s.payload_ends)

  pub some-stripes : 1 ≤ r.stripes
  some-stripes = omega (arith, i.stripes_is, ((sound image ok).slot slot h).stripes_least)

  -- its bytes, as they are lent
  pub area_is : take (r.start.0 * 512 + r.stripes * L - r.start.0 * 512) (drop (r.start.0 * 512) image) ≡ (slot_of facts slot).area
  unfolding slot_at part
  area_is =
      let w = number_in slot h in
      let e = slot_of-image built image slot w.0 w.1 in
      let m : (slot_of facts slot).stripes * facts.profile.key_bytes ≡ (slot_of facts slot).stripes * be32_at image 108 = ap (λ (x : ℕ). (slot_of facts slot).stripes * x) (sound image ok).key_at in
      let n : r.start.0 * 512 + r.stripes * L - r.start.0 * 512 ≡ (slot_of facts slot).stripes * be32_at image 108 = omega (arith, bytes_are, m) in
      let s : r.start.0 * 512 ≡ (slot_of facts slot).start * 512 = ap (λ (x : ℕ). x * 512) i.start_is in
      ap₂ (λ (x y : ℕ). take x (drop y image)) n s
      ∙ ap (λ (t : SlotFacts). take (t.stripes * be32_at image 108) (drop (t.start * 512) image)) e
      ∙ sym (ap (λ (t : SlotFacts). t.area) e)

  pub candidate-is : (g : Hash) → g ≡ hash_of (profile_in rows image) → (passphrase area d : List ℕ) → area ≡ (slot_of facts slot).area
      → d ≡ candidate_of (aes_xts (digest_of g)) L r.stripes passphrase r.salt r.count area → d ≡ candidate facts slot passphrase
  unfolding candidate
  candidate-is g eg passphrase area d ea e =
      e ∙ (λ j. candidate_of (suite_is image g eg j) (hL j) (i.stripes_is j) passphrase (i.salt_is j) (i.count_is j) (ea j))

-- ---- a trial

module _ (f : Facts) (k : ℕ) (passphrase : List ℕ) where
  pub opens_off : is_enabled (slot_of f k) ≡ false → false ≡ opens f k passphrase
  unfolding opens
  opens_off e = and_no (is_enabled (slot_of f k)) (matches f (candidate f k passphrase)) e

  pub opens-on : (key : List ℕ) (b : Bool) → is_enabled (slot_of f k) ≡ true → key ≡ candidate f k passphrase → b ≡ matches f key → b ≡ opens f k passphrase
  unfolding opens
  opens-on key b e ek eb = and_yes (is_enabled (slot_of f k)) (matches f (candidate f k passphrase)) b e (eb ∙ ap (matches f) ek)

-- a key that is given where a test passes
given : (b : Bool) (x : List ℕ) → is_some (then_some b x) ≡ b
given true x = refl
given false x = refl

pub given_is : (b : Bool) (x : List ℕ) (o : Option (List ℕ)) → o ≡ then_some b x → is_some o ≡ b
given_is b x o e = ap is_some e ∙ given b x

if_given : (b : Bool) (x z : List ℕ) → x ≡ z → IfSome (then_some b x) (λ k. k ≡ z)
if_given true x z h = h
if_given false x z h = tt

pub key_given : (b : Bool) (x z : List ℕ) (o : Option (List ℕ)) → o ≡ then_some b x → x ≡ z → IfSome o (λ k. k ≡ z)
key_given b x z o e h = rw e (if_given b x z h)

-- a key laid at the front of 64 zeros
pub key-padded : (y z : List ℕ) (n : ℕ) → length y ≡ n → y ≡ z → y ++ drop n (replicate 64 0) ≡ padded 64 z
unfolding zeros
key-padded y z n l e = ap (λ (x : List ℕ). y ++ x) (drop-zeros n 64 ∙ ap (λ (m : ℕ). zeros (64 - m)) (sym l)) ∙ ap (padded 64) e

-- ---- what is written

pub head-is : (h salt : List ℕ) (state count : ℕ) → length salt ≡ 32 → h ≡ splice (splice (splice (replicate 40 0) 0 (be32 state)) 4 (be32 count)) 8 salt
    → h ≡ record_head state count salt
unfolding splice record_head big_endian
head-is h salt state count l e = e ∙ rw (l, append-nil salt)

module _ (image : List ℕ) (slot start : ℕ) (s : start ≡ (slot_of (facts_in image) slot).start) (area head a₁ a₂ : List ℕ)
    (e₁ : a₁ ≡ splice image (start * 512) area) (e₂ : a₂ ≡ splice a₁ (208 + (slot - 1) * 48) head) where
  -- a slot's area, then the head of its record
  pub slot-written : a₂ ≡ written (slot_writes (facts_in image) slot area head) image
  unfolding written slot_writes
  slot-written = e₂ ∙ ap (λ (a : List ℕ). splice a (208 + (slot - 1) * 48) head) (e₁ ∙ ap (λ (n : ℕ). splice image (n * 512) area) s)

-- the area is the rules' key material
pub material_is : (image : List ℕ) (h : Hash) → h ≡ hash_of (profile_in rows image) → (slot n L count : ℕ) (key passphrase salt random area : List ℕ)
    → n ≡ (slot_of (facts_in image) slot).stripes → L ≡ (facts_in image).profile.key_bytes
    → area ≡ key_material (aes_xts (digest_of h)) L n key (slot_input passphrase salt count random)
    → area ≡ key_material (facts_in image).suite (facts_in image).profile.key_bytes (slot_of (facts_in image) slot).stripes key (slot_input passphrase salt count random)
material_is image h eh slot n L count key passphrase salt random area en eL ea =
    ea ∙ (λ j. key_material (suite_is image h eh j) (eL j) (en j) key (slot_input passphrase salt count random))
