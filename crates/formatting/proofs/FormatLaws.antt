-- Format's checks: one more that passes, and what accepted ones assure; number, image and cost of the call; the header's parts joined; the image after.
use mathlib.Core.Path.{◌≡◌, refl, sym, ap, ap₂, ◌∙◌}
use mathlib.Core.List.{List, ◌++◌, map, flatten}
use mathlib.Core.Bool.{Bool, true, false, cond}
use Prim.Native.Nat.{ℕ, ◌*◌, ◌%◌, ◌≤◌}
use native.Mathlib.Nat.{zero-add}
use native.Mathlib.Omega.{arith}
use lib.Dec.{eqb, leb}
use lib.ListN.{length, take, drop}
use lib.Seq.{length-take-le}
use borrow.Author.Tests.{eqb-true, leb-true}
use Rattle.octets.specs.Octets.{zeros, padded}
use Rattle.octets.specs.Splice.{splice}
use Rattle.octets.proofs.BoolLaws.{and_split}
use Rattle.octets.proofs.OctetsLaws.{length-zeros, length-padded}
use Rattle.octets.proofs.PartsLaws.{Widths, flatten_append, length_flatten}
use Rattle.hash.specs.declared.Hash.{Hash}
use Rattle.hash.specs.Hash.{digest_of}
use Rattle.pbkdf2.specs.Pbkdf2.{pbkdf2, values_made}
use Rattle.rules.specs.Checks.{first}
use Rattle.rules.specs.Profiles.{profile_at, known}
use Rattle.rules.specs.Layout.{payload_start, slots}
use Rattle.rules.specs.Facts.{checksum_of}
use Rattle.rules.specs.Header.{size_ok}
use Rattle.rules.specs.Format.{FormatInput, payload_start_of, printable, format_checks, head_fields, header_of, formatted, settle_format, format}
use Rattle.rules.specs.Costs.{format_cost}
use Rattle.rules.specs.Promises.{DoesFormat}
use Rattle.rules.proofs.ChecksLaws.{Pass, accepted}
use Rattle.rules.proofs.RowLaws.{lawful-row, number_at}
use Rattle.profiles.specs.declared.Profile.{Profile}
use Rattle.profiles.specs.Rows.{hash_of, rows}
use Rattle.profiles.specs.Suites.{aes_xts, suite_of, alignment, built}
use Rattle.profiles.specs.Records.{IsRow}
use Rattle.profiles.proofs.Lawful.{rows_ok}
use Rattle.formatting.proofs.FieldsLaws.{names, name_widths, numbers, number_widths, number-widths, parts-written, blank, length-records}

-- ---- the row that was found

module _ (k : ℕ) (r : Profile) (h : IsRow k r) where
  pub row_most : r.key_bytes ≤ 64
  row_most = omega (arith, h.profile_is.key_is, (lawful-row rows rows_ok k h.known_is).key_most)

  pub row_hash : r.digest ≡ hash_of k
  row_hash = h.profile_is.digest_is ∙ ap hash_of (number_at rows k h.known_is)

-- where format puts the payload, by the row
pub start_is : (a : FormatInput) (r : Profile) → IsRow a.profile r → (s : ℕ) → s ≡ payload_start alignment a.stripes r.key_bytes → s ≡ payload_start_of built a
start_is a r h s e = e ∙ ap (payload_start alignment a.stripes) h.profile_is.key_is

-- ---- the checks

module _ (a : FormatInput) (image : List ℕ) where
  -- what accepted checks assure
  pub record Fit : Type 0 where
    pub size : 1024 ≤ length image
    pub profile-known : known rows a.profile ≡ true
    pub stripes_most : a.stripes ≤ 4000
    pub key_is : length a.key ≡ (profile_at rows a.profile).key_bytes
    pub key_most : length a.key ≤ 64
    pub count_least : 1 ≤ a.count
    pub uuid_is : length a.uuid ≡ 36
    pub payload_ends : payload_start_of built a * 512 ≤ length image

  fit_of : Pass (format_checks built a image) → Fit
  unfolding format_checks size_ok
  fit_of (size, (number, (stripes, (key, (count, (uuid, (room, _))))))) =
      let row = lawful-row rows rows_ok a.profile number in
      let p = profile_at rows a.profile in
      let l : length a.key ≡ p.key_bytes = eqb-true _ _ key in
      let m : p.min_checksum_count ≤ a.count = leb-true _ _ count in
      record {
        size = leb-true _ _ (and_split (leb 1024 (length image)) (eqb (length image % 512) 0) size).0;
        profile-known = number;
        stripes_most = leb-true _ _ (and_split (leb 1 a.stripes) (leb a.stripes 4000) stripes).1;
        key_is = l;
        key_most = omega (arith, row.key_most);
        count_least = omega (arith, row.checksum_count);
        uuid_is = eqb-true _ _ (and_split (eqb (length a.uuid) 36) (printable a.uuid) uuid).0;
        payload_ends = leb-true _ _ room;
      }

  pub fit : first (format_checks built a image) ≡ 0 → Fit
  unfolding format_checks
  fit z = fit_of (accepted (format_checks built a image) refl z)

  -- format settled, by whether its number is 0
  pub settled : (r : ℕ) (b : Bool) (after : List ℕ) (v : ℕ) → r ≡ first (format_checks built a image) → eqb r 0 ≡ b → after ≡ cond b (formatted built a image) image
      → v ≡ cond b ((built.suite_of a.profile).made a.count 20) 0 → DoesFormat built a image r after v
  unfolding format settle_format format_cost
  settled r true after v e z w m = record { code_is = rw (← e, z) (eqb-true r 0 z); image_is = rw (← e, z) w; values_are = rw (← e, z) m }
  settled r false after v e z w m = record { code_is = rw (← e, z); image_is = rw (← e, z) w; values_are = rw (← e, z) m }

-- ---- the header's parts joined

-- the numbers with this checksum, as the code writes them with n stripes for keys of L bytes
abbrev numbers_of : FormatInput → ℕ → ℕ → List ℕ → List (List ℕ)
numbers_of a n L sum = numbers (payload_start alignment n L) L sum a.salt a.count (padded 40 a.uuid)

-- the three parts of its row are the header of the rules' row
pub header_is : (a : FormatInput) (r : Profile) → IsRow a.profile r → Widths (names r) name_widths
    → length a.salt ≡ 32 → length a.uuid ≡ 36 → (n L : ℕ) → n ≡ a.stripes → L ≡ r.key_bytes
    → (sum h₁ h₂ h₃ : List ℕ) → length sum ≡ 20 → sum ≡ pbkdf2 (digest_of r.digest) a.key a.salt a.count 20
    → h₁ ≡ splice (zeros 592) 0 (flatten (names r)) → h₂ ≡ splice h₁ 104 (flatten (numbers_of a n L sum))
    → h₃ ≡ splice h₂ 208 (flatten (map (blank n L) slots)) → h₃ ≡ header_of built a
unfolding header_of head_fields checksum_of suite_of aes_xts
header_is a r is v t u n L en el sum h₁ h₂ h₃ s e e₁ e₂ e₃ =
    let eh = row_hash a.profile r is in
    let p = is.profile_is in
    let ms : List (List ℕ) = numbers_of a n L sum in
    let records : List ℕ = flatten (map (blank n L) slots) in
    let w : Widths ms number_widths = number-widths _ _ sum a.salt a.count (padded 40 a.uuid) s t (length-padded 40 a.uuid (omega arith)) in
    parts-written (zeros 592) (flatten (names r)) (flatten ms) records h₁ h₂ h₃ (length-zeros 592)
    (length_flatten (names r) name_widths v) (length_flatten ms number_widths w) (length-records n L) e₁ e₂ e₃
    ∙ ap (λ (x : List ℕ). x ++ records) (sym (flatten_append (names r) ms))
    ∙ cc

-- its checksum makes the values of the profile's suite
pub suite-made : (profile count v : ℕ) (r : Profile) → IsRow profile r → v ≡ values_made (digest_of r.digest).size count 20 → v ≡ (built.suite_of profile).made count 20
unfolding suite_of aes_xts
suite-made profile count v r is e = e ∙ ap (λ (x : Hash). values_made (digest_of x).size count 20) (row_hash profile r is)

-- ---- the image after

-- a front of E bytes cleared
clear_front : (image front : List ℕ) (E : ℕ) → E ≤ length image → front ≡ zeros (length (take E image)) → front ++ drop E image ≡ splice image 0 (zeros E)
unfolding splice
clear_front image front E h e = rw (e, length-take-le E image h, zero-add, length-zeros)

pub drive_written : (a : FormatInput) (image : List ℕ) → Fit a image → (start : ℕ) (front h after : List ℕ) → start ≡ payload_start_of built a
    → front ≡ zeros (length (take (start * 512) image)) → h ≡ header_of built a
    → after ≡ splice (front ++ drop (start * 512) image) 0 h → after ≡ formatted built a image
unfolding formatted
drive_written a image f start front h after s c e w =
    w ∙ ap₂ (λ (x y : List ℕ). splice x 0 y) (clear_front image front (start * 512) (omega (arith, s, f.payload_ends)) c) e
    ∙ ap (λ (x : ℕ). splice (splice image 0 (zeros (x * 512))) 0 (header_of built a)) s
