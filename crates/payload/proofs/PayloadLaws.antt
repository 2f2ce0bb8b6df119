-- Laws for read and write: what an accepted call's arguments are, what is read and what is written.
use mathlib.Core.Path.{◌≡◌, refl, sym, ap, ap₂, ◌∙◌}
use mathlib.Core.List.{List, ◌++◌}
use mathlib.Core.Bool.{Bool, true, false, cond}
use Prim.Native.Nat.{ℕ, ◌+◌, ◌-◌, ◌*◌, ◌/◌, ◌%◌, ◌≤◌, ◌<◌}
use native.Mathlib.Omega.{arith}
use lib.Dec.{eqb, leb}
use lib.ListN.{length, take, drop, length-drop}
use lib.Seq.{drop-drop}
use borrow.Author.Tests.{leb-true, leb-false, eqb-true, eqb-false, eq-eqb, ne_eqb, le-leb, lt-leb}
use Rattle.octets.specs.Octets.{be32_at}
use Rattle.octets.specs.Splice.{part, splice}
use Rattle.octets.proofs.SpliceLaws.{length_part, part-splice-same, splice-part, splice_over, splice_all}
use Rattle.suite.specs.Suite.{Suite}
use Rattle.suite.specs.Units.{in_units}
use Rattle.xts.specs.Xts.{xts_encrypt, xts_decrypt}
use Rattle.rules.specs.Checks.{first}
use Rattle.rules.specs.Facts.{facts_of}
use Rattle.rules.specs.Calls.{write, range_checks, key_ok, bytes_read}
use Rattle.rules.specs.Step.{written, writes}
use Rattle.rules.proofs.ChecksLaws.{accepted}
use Rattle.profiles.specs.Suites.{aes_xts}
use Rattle.header.specs.Records.{facts_in, HeaderOk}
use Rattle.header.specs.declared.refusal.Refusal.{Refusal}
use Rattle.header.specs.Refusals.{number}
use Rattle.header.proofs.AnswerLaws.{number_some}
use Rattle.header.proofs.SoundLaws.{sound}
use Rattle.slots.proofs.AreaLaws.{suite_is}

-- ---- numbers

in_payload_cases : (total u n : ℕ) (b : Bool) → n ≤ total → leb u (total - n) ≡ b → b ≡ leb (u + n) total
in_payload_cases total u n true h e = let l : u ≤ total - n = leb-true _ _ e in sym (le-leb (u + n) total (omega arith))
in_payload_cases total u n false h e = let l : total - n < u = leb-false _ _ e in sym (lt-leb (u + n) total (omega arith))

pub in_payload_lem : (total u n : ℕ) → n ≤ total → leb u (total - n) ≡ leb (u + n) total
in_payload_lem total u n h = in_payload_cases total u n (leb u (total - n)) h refl

holds_units_cases : (l n : ℕ) (b : Bool) → l % 512 ≡ 0 → eqb (l / 512) n ≡ b → b ≡ eqb l (512 * n)
holds_units_cases l n true h e = let q : l / 512 ≡ n = eqb-true _ _ e in sym (eq-eqb l (512 * n) (omega arith))
holds_units_cases l n false h e = sym (ne_eqb l (512 * n) (λ (q : l ≡ 512 * n). eqb-false (l / 512) n e (omega arith)))

pub holds_units_lem : (l n : ℕ) → l % 512 ≡ 0 → eqb (l / 512) n ≡ eqb l (512 * n)
holds_units_lem l n h = holds_units_cases l n (eqb (l / 512) n) h refl

-- the part of x that is lent as `x[at..at + n]`
pub length_lent : (x : List ℕ) (at n : ℕ) → at + n ≤ length x → length (take (at + n - at) (drop at x)) ≡ n
unfolding part
length_lent x at n h = length_part x at (at + n - at) (omega arith) ∙ omega arith

pub payload-length : (image : List ℕ) → length (facts_in image).payload ≡ length image - (facts_in image).payload_at * 512
unfolding facts_of
payload-length image = length-drop (be32_at image 104 * 512) image

-- ---- an accepted call

-- what its arguments are
pub record Room (image key : List ℕ) (u n : ℕ) (buffer : List ℕ) : Type 0 where
  pub key_least : 32 ≤ length key
  pub key_most : length key ≤ 64
  pub key_whole : length key % 32 ≡ 0
  pub size : length buffer ≡ 512 * n
  pub ends : (facts_in image).payload_at * 512 + u * 512 + length buffer ≤ length image

module _ (image : List ℕ) (ok : HeaderOk image) (key : List ℕ) (u n : ℕ) (buffer : List ℕ) (e : first (range_checks (facts_in image) key u n buffer) ≡ 0) where
  pub room : Room image key u n buffer
  unfolding range_checks key_ok
  room =
      let p = accepted (range_checks (facts_in image) key u n buffer) refl e in
      let s = sound image ok in
      let k : length key ≡ (facts_in image).profile.key_bytes = eqb-true _ _ p.0 in
      let t : u + n ≤ length (facts_in image).payload / 512 = leb-true _ _ p.1.0 in
      let b : length buffer ≡ 512 * n = eqb-true _ _ p.1.1.0 in
      record {
        key_least = omega (arith, s.key_least);
        key_most = omega (arith, s.key_most);
        key_whole = omega (arith, s.key_whole);
        size = b;
        ends = omega (arith, payload-length image, s.payload_ends);
      }

  -- the units begin at `at` and end with the buffer's length
  module _ (at : ℕ) (a : at ≡ (facts_in image).payload_at * 512 + u * 512) where
    fits : at + length buffer ≤ length image
    fits = omega (arith, room.ends)

    abbrev end : ℕ
    end = at + length buffer

    -- the units' part of the image, copied over the whole buffer and deciphered there
    pub read_is : (copied after : List ℕ) → copied ≡ splice buffer 0 (take (end - at) (drop at image)) → after ≡ in_units (xts_decrypt key) u copied
        → after ≡ bytes_read (facts_in image) key u n
    unfolding bytes_read part aes_xts facts_of
    read_is copied after c d =
        let m : end - at ≡ n * 512 = omega (arith, room.size) in
        let units : List ℕ = part (facts_in image).payload (u * 512) (n * 512) in
        let p : take (end - at) (drop at image) ≡ units
        = ap₂ (λ (i o : ℕ). take i (drop o image)) m a ∙ sym (ap (take (n * 512)) (drop-drop (u * 512) (be32_at image 104 * 512) image)) in
        d ∙ ap (in_units (xts_decrypt key) u) (c ∙ splice_all buffer (take (end - at) (drop at image)) (length_lent image at (length buffer) fits) ∙ p)
        ∙ ap (λ (S : Suite). in_units (S.decipher key) u units) (suite_is image _ refl)

    -- the buffer, copied into the image and enciphered there
    pub written_is : (copied ciphered : List ℕ) → copied ≡ splice image at buffer → ciphered ≡ in_units (xts_encrypt key) u (take (end - at) (drop at copied))
        → length ciphered ≡ length buffer
        → take at copied ++ (ciphered ++ drop (end - at) (drop at copied)) ≡ written (writes (facts_in image) (write key u n buffer)) image
    unfolding written writes part aes_xts
    written_is copied ciphered c d l =
        let m : end - at ≡ length buffer = omega arith in
        let b : take (end - at) (drop at copied) ≡ buffer = ap₂ (λ (i : ℕ) (x : List ℕ). part x at i) m c ∙ part-splice-same image at buffer fits in
        let s : ciphered ≡ in_units ((facts_in image).suite.encipher key) u buffer
        = d ∙ ap (in_units (xts_encrypt key) u) b ∙ ap (λ (S : Suite). in_units (S.encipher key) u buffer) (suite_is image _ refl) in
        splice-part copied ciphered at end (omega arith) (l ∙ sym m) ∙ ap (λ (x : List ℕ). splice x at ciphered) c
        ∙ splice_over image at buffer ciphered l fits ∙ ap₂ (splice image) a s

-- ---- the test of the key, behind the other checks

-- refused: it was the wrong key
pub tested-wrong : (e : Refusal) (b : Bool) → number e ≡ cond b 0 17 → b ≡ false
tested-wrong e true h = absurd (number_some e h)
tested-wrong e false h = refl

-- accepted: it was the right one
pub tested-right : (b : Bool) → ◌≡◌ {A = ℕ} 0 (cond b 0 17) → b ≡ true
tested-right true h = refl
tested-right false h = absurd (omega arith)
