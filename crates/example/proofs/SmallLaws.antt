-- The small suite obeys the laws of a suite, and its table those of a table.
use mathlib.Core.Path.{◌≡◌, refl, ap₂}
use mathlib.Core.List.{List, [], ◌∷◌}
use Prim.Native.Nat.{ℕ, zero, suc, ◌+◌, ◌%◌, ◌<◌}
use native.Mathlib.Nat.{mod-lt, zero-lt-suc}
use native.Mathlib.Omega.{arith}
use lib.ListN.{replicate, length-replicate}
use Rattle.octets.specs.Octets.{Bytes, Str, ◌⊕◌, zeros, same}
use Rattle.octets.proofs.XorLaws.{⊕-byte, ⊕_undo}
use Rattle.octets.proofs.OctetsLaws.{str_map}
use Rattle.suite.specs.Suite.{LawfulSuite}
use Rattle.rules.specs.Checks.{every}
use Rattle.rules.specs.Profiles.{holds_text, fits, number_of, known}
use Rattle.rules.specs.Lawful.{row_ok, finds, distinct, are_rows_ok, LawfulTable}
use Rattle.example.specs.Small.{small_derive, mask, masked, bumped, small_suite, small_profile, small_table}

bytes-replicate : (n b : ℕ) → b < 256 → Bytes (replicate n b)
bytes-replicate zero b h = tt
bytes-replicate (suc n) b h = (h, bytes-replicate n b h)

mask-byte : (key : List ℕ) (u : ℕ) → mask key u < 256
unfolding mask
mask-byte key u = mod-lt _ (zero-lt-suc 255)

str_masked : (key : List ℕ) (u n : ℕ) (x : List ℕ) → Str n x → Str n (masked key u x)
unfolding masked
str_masked key u n x h = str_map (λ b. b ⊕ mask key u) (λ b hb. ⊕-byte b (mask key u) hb (mask-byte key u)) n x h

masked-masked : (key : List ℕ) (u : ℕ) (x : List ℕ) → masked key u (masked key u x) ≡ x
unfolding masked
masked-masked key u [] = refl
masked-masked key u (b ∷ x) = ap₂ ◌∷◌ (⊕_undo b (mask key u)) (masked-masked key u x)

suite-lawful : (L : ℕ) → LawfulSuite small_suite L
unfolding small_suite small_derive bumped
suite-lawful L =
    record {
      str_derive = λ password salt count n. record { len = length-replicate n _; byte = bytes-replicate n _ (mod-lt _ (zero-lt-suc 255)) };
      str_diffuse = λ n x h. str_map (λ b. (b + 1) % 256) (λ b hb. mod-lt _ (zero-lt-suc 255)) n x h;
      str_encipher = λ key hk u n x hn hm hx. str_masked key u n x hx;
      str_decipher = λ key hk u n x hn hm hx. str_masked key u n x hx;
      decipher_encipher = λ key hk u n x hn hm hx. masked-masked key u x;
    }

pub small-lawful : LawfulTable small_table
unfolding are_rows_ok every row_ok finds distinct known number_of fits holds_text zeros same small_profile small_table
small-lawful = record { rows_ok = refl; suites = λ k h. suite-lawful _; alignment_least = omega arith; alignment_most = omega arith }
