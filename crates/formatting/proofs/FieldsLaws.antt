-- Fields written one behind another come to one string written at once; the header's fields, its eight records, and the UUID's field.
use mathlib.Core.Path.{◌≡◌, sym, ap, ◌∙◌}
use mathlib.Core.List.{List, [], ◌∷◌, ◌++◌, map, flatten}
use Prim.Native.Nat.{ℕ, ◌+◌, ◌*◌, ◌≤◌, ◌<◌}
use native.Mathlib.Nat.{zero-add}
use native.Mathlib.Omega.{arith}
use lib.ListN.{length, drop, length-append}
use Rattle.octets.specs.Octets.{zeros, big_endian, be32, padded}
use Rattle.octets.specs.Splice.{splice}
use Rattle.octets.proofs.OctetsLaws.{length-zeros, drop-zeros, length-big_endian}
use Rattle.octets.proofs.PartsLaws.{total, Widths, length_flatten}
use Rattle.octets.proofs.SpliceLaws.{length-splice, splice-nil, splice-next, splice_all}
use Rattle.rules.specs.Layout.{area_start, slots}
use Rattle.rules.specs.Facts.{disabled}
use Rattle.rules.specs.Header.{magic, version}
use Rattle.rules.specs.Step.{record_head}
use Rattle.rules.specs.Format.{slot_record}
use Rattle.rules.proofs.EveryLaws.{drop_at}
use Rattle.rules.proofs.StepLaws.{slots_at}
use Rattle.rules.proofs.FormatLaws.{length-slot_record}
use Rattle.profiles.specs.declared.Profile.{Profile}

-- ---- parts of given widths

-- l with the parts written one behind another, from index o
abbrev put_in_order : List ℕ → ℕ → List (List ℕ) → List ℕ → List ℕ
put_in_order l o [] ws = l
put_in_order l o (p ∷ ps) [] = l
put_in_order l o (p ∷ ps) (w ∷ ws) = put_in_order (splice l o p) (o + w) ps ws

pub in_order : (ps : List (List ℕ)) (ws : List ℕ) → Widths ps ws → (l : List ℕ) (o : ℕ) → o + total ws ≤ length l → put_in_order l o ps ws ≡ splice l o (flatten ps)
unfolding flatten
in_order [] ws v l o h = sym (splice-nil l o)
in_order (p ∷ ps) [] v l o h = absurd v
in_order (p ∷ ps) (w ∷ ws) v l o h =
    let k : length (splice l o p) ≡ length l = length-splice l o p (omega (arith, v.0)) in
    in_order ps ws v.1 (splice l o p) (o + w) (omega arith) ∙ splice-next l o p (o + w) (flatten ps) (omega (arith, v.0)) (omega arith)

-- ---- the header's fields, as the code writes them

-- magic, version and the three names
abbrev pub names : Profile → List (List ℕ)
names r = magic ∷ version ∷ r.cipher ∷ r.mode ∷ r.hash ∷ []

abbrev pub name_widths : List ℕ
name_widths = 6 ∷ 2 ∷ 32 ∷ 32 ∷ 32 ∷ []

-- payload start, key bytes, checksum with its salt and count, UUID
abbrev pub numbers : ℕ → ℕ → List ℕ → List ℕ → ℕ → List ℕ → List (List ℕ)
numbers payload L sum salt count uuid = be32 payload ∷ be32 L ∷ sum ∷ salt ∷ be32 count ∷ uuid ∷ []

abbrev pub number_widths : List ℕ
number_widths = 4 ∷ 4 ∷ 20 ∷ 32 ∷ 4 ∷ 40 ∷ []

pub number-widths : (payload L : ℕ) (sum salt : List ℕ) (count : ℕ) (uuid : List ℕ) → length sum ≡ 20 → length salt ≡ 32 → length uuid ≡ 40
    → Widths (numbers payload L sum salt count uuid) number_widths
number-widths payload L sum salt count uuid s t u =
    (length-big_endian 4 payload, (length-big_endian 4 L, (s, (t, (length-big_endian 4 count, (u, tt))))))

-- names, numbers and records written over z
pub parts-written : (z names numbers records h₁ h₂ h₃ : List ℕ) → length z ≡ 592 → length names ≡ 104 → length numbers ≡ 104 → length records ≡ 384
    → h₁ ≡ splice z 0 names → h₂ ≡ splice h₁ 104 numbers → h₃ ≡ splice h₂ 208 records → h₃ ≡ (names ++ numbers) ++ records
parts-written z names numbers records h₁ h₂ h₃ l m n k e₁ e₂ e₃ =
    let both : List ℕ = names ++ numbers in
    let b : length both ≡ 208 = omega (arith, length-append names numbers) in
    let e : h₂ ≡ splice z 0 both = rw (e₂, e₁) (splice-next z 0 names 104 numbers (omega arith) (omega arith)) in
    rw (e₃, e) (splice-next z 0 both 208 records (omega arith) (omega arith) ∙ splice_all z (both ++ records) (omega (arith, length-append both records)))

-- ---- the eight records of a new drive, with n stripes for keys of L bytes

module _ (n L : ℕ) where
  -- the record at index k
  abbrev pub blank : ℕ → List ℕ
  blank k = slot_record n L disabled 0 (zeros 32) k

  pub record_is : (k s : ℕ) (r₁ r₂ r₃ : List ℕ) → s ≡ area_start n L k → r₁ ≡ splice (zeros 48) 0 (be32 disabled) → r₂ ≡ splice r₁ 40 (be32 s)
      → r₃ ≡ splice r₂ 44 (be32 n) → r₃ ≡ blank k
  unfolding splice slot_record record_head big_endian zeros
  record_is k s r₁ r₂ r₃ e e₁ e₂ e₃ = rw (e₃, e₂, e₁, e)

  width : (k : ℕ) → length (blank k) ≡ 48
  width k = length-slot_record n L disabled 0 (zeros 32) k (length-zeros 32)

  pub length-records : length (flatten (map blank slots)) ≡ 384
  length-records =
      let w = width in
      length_flatten (map blank slots) (48 ∷ 48 ∷ 48 ∷ 48 ∷ 48 ∷ 48 ∷ 48 ∷ 48 ∷ []) (w 0, (w 1, (w 2, (w 3, (w 4, (w 5, (w 6, (w 7, tt))))))))

  -- h with the records from index k on
  abbrev pub completed : List ℕ → ℕ → List ℕ
  completed h k = splice h (208 + k * 48) (flatten (map blank (drop k slots)))

  -- a turn of the loop that writes them
  pub record-next : (h : List ℕ) (k : ℕ) → k < 8 → 592 ≤ length h → completed (splice h (208 + k * 48) (blank k)) (k + 1) ≡ completed h k
  unfolding flatten
  record-next h k i r =
      let behind : List ℕ = drop (k + 1) slots in
      let e : drop k slots ≡ k ∷ behind = drop_at slots k 0 i ∙ ap (λ (j : ℕ). j ∷ behind) (slots_at k i) in
      rw e (splice-next h (208 + k * 48) (blank k) (208 + (k + 1) * 48) (flatten (map blank behind)) (omega (arith, width k)) (omega arith))

  pub records-end : (h : List ℕ) → completed h 8 ≡ h
  unfolding flatten
  records-end h = splice-nil h 592

-- ---- the UUID's field

pub splice-padded : (w : ℕ) (x r : List ℕ) → r ≡ splice (zeros w) 0 x → r ≡ padded w x
unfolding splice
splice-padded w x r e = rw (e, drop-zeros, zero-add)
