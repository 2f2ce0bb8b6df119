-- The code's table is the rules', row by row, and its lookups are those of the rules. All is over any rows: those by a header where no name has a zero
-- byte, that a row is the one with its number where no number stands twice.
use mathlib.Core.Path.{◌≡◌, refl, sym, ap, ap₂, ◌∙◌, subst}
use mathlib.Core.Logic.{◌≢◌}
use mathlib.Core.List.{List, [], ◌∷◌, ◌++◌, map}
use mathlib.Core.Bool.{Bool, true, false, ◌&&◌, ◌||◌, not, cond}
use Prim.Native.Nat.{ℕ, zero, suc, ◌+◌, ◌-◌, ◌≤◌, ◌<◌}
use native.Mathlib.Numerals.{add-one}
use native.Mathlib.Omega.{arith}
use lib.Dec.{eqb, leb, ltb}
use lib.ListN.{length, take, drop, get_or, replicate, drop_of_length-le}
use lib.Seq.{drop-cons}
use borrow.Author.Tests.{eq-eqb, ne_eqb, eqb-true, leb-true, not-true}
use Rattle.octets.specs.Octets.{same, zeros, padded}
use Rattle.octets.proofs.BoolLaws.{no, and_split, and_no, and_yes, or_yes, or_no}
use Rattle.rules.specs.Checks.{every}
use Rattle.rules.specs.Profiles as rules
use Rattle.rules.specs.Lawful.{distinct}
use Rattle.profiles.specs.Rows.{name_of, hash_of, aes_xts_row, rows}
use Rattle.profiles.specs.declared.Profile.{Profile}
use Rattle.profiles.specs.Records.{IsProfile, IsRow, number_found, same_text, has_row}
use Rattle.std.specs.Prelude.{Option, Some, is_some, IfSome, nat_eq}
use Rattle.std.specs.List.{find}
use Rattle.std.proofs.lemmas.Option.{IfSome_then}

-- ---- a turn of the comparison, and its end

module _ (x y : List ℕ) (i : ℕ) (q : Bool) (l : length x ≡ length y) (e : same_text (drop i x) (drop i y) ≡ q) where
  here : i < length x → same_text (drop i x) (drop i y) ≡ (eqb (get_or x i 0) (get_or y i 0) && (eqb (get_or x i 0) 0 || same_text (drop (suc i) x) (drop (suc i) y)))
  unfolding same_text
  here h = ap₂ same_text (drop-cons x i 0 h) (drop-cons y i 0 (omega arith))

  pub text_differs : i < length x → get_or x i 0 ≢ get_or y i 0 → false ≡ q
  text_differs h n =
      and_no (eqb (get_or x i 0) (get_or y i 0)) (eqb (get_or x i 0) 0 || same_text (drop (suc i) x) (drop (suc i) y)) (ne_eqb (get_or x i 0) (get_or y i 0) n)
      ∙ sym (here h) ∙ e

  pub text-ends : i < length x → get_or x i 0 ≡ get_or y i 0 → get_or x i 0 ≡ 0 → true ≡ q
  text-ends h n z =
      and_yes (eqb (get_or x i 0) (get_or y i 0)) (eqb (get_or x i 0) 0 || same_text (drop (suc i) x) (drop (suc i) y)) true (eq-eqb (get_or x i 0) (get_or y i 0) n)
      (or_yes (eqb (get_or x i 0) 0) (same_text (drop (suc i) x) (drop (suc i) y)) (eq-eqb (get_or x i 0) 0 z))
      ∙ sym (here h) ∙ e

  pub text_goes_on : i < length x → get_or x i 0 ≡ get_or y i 0 → get_or x i 0 ≢ 0 → same_text (drop (i + 1) x) (drop (i + 1) y) ≡ q
  text_goes_on h n z =
      ap (λ (k : ℕ). same_text (drop k x) (drop k y)) (add-one i)
      ∙ and_yes (eqb (get_or x i 0) (get_or y i 0)) (eqb (get_or x i 0) 0 || same_text (drop (suc i) x) (drop (suc i) y)) (same_text (drop (suc i) x) (drop (suc i) y))
      (eq-eqb (get_or x i 0) (get_or y i 0) n) (or_no (eqb (get_or x i 0) 0) (same_text (drop (suc i) x) (drop (suc i) y)) (same_text (drop (suc i) x) (drop (suc i) y)) (ne_eqb (get_or x i 0) 0 z) refl)
      ∙ sym (here h) ∙ e

  pub text_missing : length x ≤ i → false ≡ q
  unfolding same_text
  text_missing h = sym (ap (λ (z : List ℕ). same_text z (drop i y)) (drop_of_length-le x {i = i} h)) ∙ e

-- ---- a name padded with zeros

-- no byte of a name is zero
abbrev named : List ℕ → Bool
named [] = true
named (a ∷ x) = ltb 0 a && named x

first_byte : (b c : Bool) → (b && (b || c)) ≡ (b && true)
first_byte true c = refl
first_byte false c = refl

-- where the bytes agree they are not zero, and the rest decides
next-byte : (a b : ℕ) (t s r : Bool) → eqb a (suc b) ≡ t → s ≡ r → (eqb a (suc b) && (eqb a 0 || s)) ≡ (eqb a (suc b) && r)
next-byte a b true s r e h =
    let p : a ≡ suc b = eqb-true a (suc b) e in
    let z : eqb a 0 ≡ false = ne_eqb a 0 (λ q. omega arith) in
    rw (e, z) h
next-byte a b false s r e h = rw e

by_suc : (name field : List ℕ) (k : ℕ) → named name ≡ true → same_text field (name ++ zeros (suc k)) ≡ same (take (suc (length name)) field) (name ++ 0 ∷ [])
unfolding same_text same zeros
by_suc [] [] k n = refl
by_suc [] (a ∷ field) k n = first_byte (eqb a 0) (same_text field (replicate k 0))
by_suc (b ∷ name) [] k n = refl
by_suc (zero ∷ name) (a ∷ field) k n = absurd (let z : ◌≡◌ {A = ℕ} 0 1 = cc in omega arith)
by_suc (suc b ∷ name) (a ∷ field) k n =
    next-byte a b (eqb a (suc b)) (same_text field (name ++ zeros (suc k))) (same (take (suc (length name)) field) (name ++ 0 ∷ [])) refl
    (by_suc name field k (and_split (ltb 0 (suc b)) (named name) n).1)

same_text-padded : (name field : List ℕ) (k : ℕ) → named name ≡ true → same_text field (name ++ zeros (suc k)) ≡ rules.holds_text name field
unfolding rules.holds_text
same_text-padded name field k n = by_suc name field k n ∙ ap (λ (m : ℕ). same (take m field) (name ++ 0 ∷ [])) (sym (add-one (length name)))

-- ---- a row in code

-- a row with its names padded as in a header
abbrev pub coded : rules.Profile → Profile
coded p =
    record {
      number = p.number;
      cipher = padded 32 p.cipher;
      mode = padded 32 p.mode;
      hash = padded 32 p.hash;
      digest = hash_of p.number;
      key_bytes = p.key_bytes;
      min_slot_count = p.min_slot_count;
      min_checksum_count = p.min_checksum_count;
    }

coded-is : (p : rules.Profile) → IsProfile (coded p) p
coded-is p = record { number_is = refl; cipher_is = refl; mode_is = refl; hash_is = refl; digest_is = refl; key_is = refl; slot_count_is = refl; checksum_count_is = refl }

-- a name that a field of 32 bytes can hold: no zero byte, and room for one behind it
abbrev name_ok : List ℕ → Bool
name_ok x = named x && leb (length x) 31

abbrev pub names_ok : rules.Profile → Bool
names_ok p = name_ok p.cipher && (name_ok p.mode && name_ok p.hash)

holds-is : (name field : List ℕ) → name_ok name ≡ true → same_text field (padded 32 name) ≡ rules.holds_text name field
holds-is name field h =
    let p = and_split (named name) (leb (length name) 31) h in
    let l : length name ≤ 31 = leb-true (length name) 31 p.1 in
    let n : 32 - length name ≡ suc (31 - length name) = omega arith in
    ap (λ (k : ℕ). same_text field (name ++ zeros k)) n ∙ same_text-padded name field (31 - length name) p.0

-- the code's test of a row is the rules'
fits-is : (cipher mode hash : List ℕ) (L : ℕ) (p : rules.Profile) → names_ok p ≡ true → has_row cipher mode hash L (coded p) ≡ rules.fits p cipher mode hash L
unfolding has_row rules.fits
fits-is cipher mode hash L p h =
    let a = and_split (name_ok p.cipher) (name_ok p.mode && name_ok p.hash) h in
    let b = and_split (name_ok p.mode) (name_ok p.hash) a.1 in
    ap₂ ◌&&◌ (holds-is p.cipher cipher a.0)
    (ap₂ ◌&&◌ (holds-is p.mode mode b.0) (ap₂ ◌&&◌ (holds-is p.hash hash b.1) refl))

-- ---- the lookups

either : (Q : Profile → Type 0) (b : Bool) (r : Profile) (o : Option Profile) → (b ≡ true → Q r) → IfSome o Q → IfSome (cond b (Some r) o) Q
either Q true r o h k = h refl
either Q false r o h k = k

-- Q holds of each row
abbrev each : (Profile → Type 0) → List Profile → Type 0
each Q [] = Unit {0}
each Q (x ∷ xs) = Q x × each Q xs

-- what is found passes the test, and what holds of each row holds of it
found_is : (t : Profile → Bool) (Q : Profile → Type 0) (xs : List Profile) → each Q xs → IfSome (find t xs) (λ r. (t r ≡ true) × Q r)
found_is t Q [] a = tt
found_is t Q (x ∷ xs) a = either (λ r. (t r ≡ true) × Q r) (t x) x (find t xs) (λ e. (e, a.0)) (found_is t Q xs a.1)

some_or : (b : Bool) (r : Profile) (o : Option Profile) (k : Bool) → is_some o ≡ k → is_some (cond b (Some r) o) ≡ (b || k)
some_or true r o k e = refl
some_or false r o k e = e

-- by a number
pub with_number-known : (ps : List rules.Profile) (n : ℕ) → is_some (find (λ r. nat_eq r.number n) (map coded ps)) ≡ rules.known ps n
unfolding rules.known
with_number-known [] n = refl
with_number-known (p ∷ ps) n = some_or (nat_eq p.number n) (coded p) (find (λ r. nat_eq r.number n) (map coded ps)) (rules.known ps n) (with_number-known ps n)

number_if : (b : Bool) (r : Profile) (o : Option Profile) → number_found (cond b (Some r) o) ≡ cond b r.number (number_found o)
number_if true r o = refl
number_if false r o = refl

-- by a header
header-number : (ps : List rules.Profile) → every names_ok ps ≡ true → (cipher mode hash : List ℕ) (L : ℕ)
    → number_found (find (has_row cipher mode hash L) (map coded ps)) ≡ rules.number_of ps cipher mode hash L
unfolding every rules.number_of
header-number [] ok cipher mode hash L = refl
header-number (p ∷ ps) ok cipher mode hash L =
    let a = and_split (names_ok p) (every names_ok ps) ok in
    number_if (has_row cipher mode hash L (coded p)) (coded p) (find (has_row cipher mode hash L) (map coded ps))
    ∙ ap₂ (λ b k. cond b p.number k) (fits-is cipher mode hash L p a.0) (header-number ps a.1 cipher mode hash L)

-- ---- the built table

names-ok : every names_ok rows ≡ true
unfolding every name_of hash_of aes_xts_row rows
names-ok = refl

-- r says what the row with number k says
row_in : List rules.Profile → ℕ → Profile → Type 0
row_in ps k r = (rules.known ps k ≡ true) × IsProfile r (rules.profile_at ps k)

each_more : (Q R : Profile → Type 0) → ((r : Profile) → Q r → R r) → (xs : List Profile) → each Q xs → each R xs
each_more Q R f [] a = tt
each_more Q R f (x ∷ xs) a = (f x a.0, each_more Q R f xs a.1)

-- a row in front has another number, so the rest's rows are found behind it
row_behind : (p : rules.Profile) (ps : List rules.Profile) → rules.known ps p.number ≡ false → (r : Profile) → row_in ps r.number r → row_in (p ∷ ps) r.number r
unfolding row_in rules.known rules.profile_at
row_behind p ps new r h =
    let apart : eqb p.number r.number ≡ false = ne_eqb p.number r.number (λ e. no (sym new ∙ ap (rules.known ps) e ∙ h.0)) in
    (rw apart h.0, rw apart h.1)

-- in any rows in which no number stands twice, each row of the code's table says what the row with its number says
each_row : (ps : List rules.Profile) → distinct ps ≡ true → each (λ r. row_in ps r.number r) (map coded ps)
unfolding row_in distinct rules.known rules.profile_at
each_row [] d = tt
each_row (p ∷ ps) d =
    let apart = and_split (not (rules.known ps p.number)) (distinct ps) d in
    let same : eqb p.number p.number ≡ true = eq-eqb p.number p.number refl in (
      (rw same refl, rw same (coded-is p)),
      each_more (λ r. row_in ps r.number r) (λ r. row_in (p ∷ ps) r.number r) (row_behind p ps (not-true (rules.known ps p.number) apart.0)) (map coded ps)
          (each_row ps apart.1),
    )

distinct-ok : distinct rows ≡ true
unfolding distinct rules.known aes_xts_row rows
distinct-ok = refl

all_rows : each (λ r. IsRow r.number r) (map coded rows)
unfolding row_in
all_rows =
    each_more (λ r. row_in rows r.number r) (λ r. IsRow r.number r) (λ r h. record { known_is = h.0; profile_is = h.1 }) (map coded rows) (each_row rows distinct-ok)

pub with_number-row : (n : ℕ) → IfSome (find (λ r. nat_eq r.number n) (map coded rows)) (IsRow n)
with_number-row n =
    IfSome_then (find (λ r. nat_eq r.number n) (map coded rows)) (found_is (λ r. nat_eq r.number n) (λ r. IsRow r.number r) (map coded rows) all_rows)
    (λ r h. subst (λ k. IsRow k r) (eqb-true r.number n h.0) h.1)

pub of_header-number : (cipher mode hash : List ℕ) (L : ℕ) → number_found (find (has_row cipher mode hash L) (map coded rows)) ≡ rules.number_of rows cipher mode hash L
of_header-number = header-number rows names-ok

pub of_header-row : (cipher mode hash : List ℕ) (L : ℕ) → IfSome (find (has_row cipher mode hash L) (map coded rows)) (λ r. IsRow r.number r)
of_header-row cipher mode hash L =
    IfSome_then (find (has_row cipher mode hash L) (map coded rows)) (found_is (has_row cipher mode hash L) (λ r. IsRow r.number r) (map coded rows) all_rows)
    (λ r h. h.1)
