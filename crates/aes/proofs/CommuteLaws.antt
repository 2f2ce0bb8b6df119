-- SUBBYTES and SHIFTROWS may change places, and so may their inverses (FIPS 197, 5.3.5).
use mathlib.Core.Path.{◌≡◌, refl}
use mathlib.Core.List.{List}
use Prim.Native.Nat.{ℕ}
use lib.ListN.{length}
use Rattle.aes.specs.Aes.{sub_bytes, inv_sub_bytes, shift_rows, inv_shift_rows}
use Rattle.aes.proofs.ListLaws.{sixteen}

pub shift_sub : (s : List ℕ) → length s ≡ 16 → shift_rows (sub_bytes s) ≡ sub_bytes (shift_rows s)
unfolding sub_bytes shift_rows
shift_sub = sixteen (λ s. shift_rows (sub_bytes s) ≡ sub_bytes (shift_rows s)) (λ a b c d e f g h i j k l m n o p. refl)

pub unshift_unsub : (s : List ℕ) → length s ≡ 16 → inv_shift_rows (inv_sub_bytes s) ≡ inv_sub_bytes (inv_shift_rows s)
unfolding inv_sub_bytes inv_shift_rows
unshift_unsub = sixteen (λ s. inv_shift_rows (inv_sub_bytes s) ≡ inv_sub_bytes (inv_shift_rows s)) (λ a b c d e f g h i j k l m n o p. refl)
