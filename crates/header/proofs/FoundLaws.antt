-- The profile that a header finds, beside the facts.
use mathlib.Core.Path.{◌≡◌, sym, ap, subst, ◌∙◌}
use mathlib.Core.List.{List}
use mathlib.Core.Bool.{true}
use Prim.Native.Nat.{ℕ, zero, suc, ◌≤◌}
use native.Mathlib.Omega.{arith}
use lib.Dec.{ltb}
use lib.ListN.{length}
use borrow.Author.Tests.{lt-ltb}
use Rattle.std.specs.Prelude.{Option, None, Some, is_some, IfSome}
use Rattle.octets.proofs.BoolLaws.{no}
use Rattle.rules.specs.Profiles.{known, profile_at}
use Rattle.rules.specs.Facts.{profile_in}
use Rattle.profiles.specs.declared.Profile.{Profile}
use Rattle.profiles.specs.Rows.{aes_xts_row, rows}
use Rattle.profiles.specs.Records.{IsProfile, IsRow, number_found}
use Rattle.header.specs.Records.{facts_in}
use Rattle.header.proofs.SoundLaws.{key-small}

-- no row has the number 0
positive : (k : ℕ) → known rows k ≡ true → ltb 0 k ≡ true
unfolding known rows aes_xts_row
positive zero h = no h
positive (suc k) h = lt-ltb 0 (suc k) (omega arith)

pub found_is : (o : Option Profile) (n : ℕ) → number_found o ≡ n → IfSome o (λ p. IsRow p.number p) → is_some o ≡ ltb 0 n
found_is None n e h = ap (ltb 0) e
found_is (Some p) n e h = sym (positive p.number h.known_is) ∙ ap (ltb 0) e

pub row_is : (o : Option Profile) (n : ℕ) → number_found o ≡ n → IfSome o (λ p. IsRow p.number p) → IfSome o (λ p. IsProfile p (profile_at rows n))
row_is None n e h = h
row_is (Some p) n e h = subst (λ (k : ℕ). IsProfile p (profile_at rows k)) e h.profile_is

pub key_few : (image : List ℕ) → 1024 ≤ length image → (o : Option Profile) → is_some o ≡ ltb 0 (profile_in rows image)
    → IfSome o (λ p. IsProfile p (facts_in image).profile) → IfSome o (λ p. p.key_bytes ≤ 64)
key_few image s None e h = h
key_few image s (Some p) e h = omega (arith, h.key_is, key-small image (record { size = s; found = sym e }))
