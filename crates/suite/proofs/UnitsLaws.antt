-- Data units under a lawful suite: lengths are kept, and deciphering undoes enciphering.
use mathlib.Core.Path.{◌≡◌}
use mathlib.Core.List.{List}
use Prim.Native.Nat.{ℕ, ◌%◌}
use native.Mathlib.Omega.{arith}
use Rattle.octets.specs.Octets.{Str}
use Rattle.octets.proofs.PiecesLaws.{Cuts, str_in_pieces, undo_in_pieces}
use Rattle.suite.specs.Suite.{Suite, LawfulSuite}
use Rattle.suite.specs.Units.{in_units}

-- whole blocks are cut into whole blocks
abbrev Blocks : ℕ → Type 0
Blocks n = n % 16 ≡ 0

blocks-cut : Cuts 512 Blocks
blocks-cut n h = (omega arith, omega arith)

module _ (S : Suite) (L : ℕ) (ok : LawfulSuite S L) (key : List ℕ) (hk : Str L key) (u n : ℕ) (x : List ℕ) (hn : n % 16 ≡ 0) (hx : Str n x) where
  pub str_enciphered : Str n (in_units (S.encipher key) u x)
  str_enciphered = str_in_pieces 512 (omega arith) Blocks blocks-cut (S.encipher key) (ok.str_encipher key hk) u n x hn hx

  pub str_deciphered : Str n (in_units (S.decipher key) u x)
  str_deciphered = str_in_pieces 512 (omega arith) Blocks blocks-cut (S.decipher key) (ok.str_decipher key hk) u n x hn hx

  pub deciphered_enciphered : in_units (S.decipher key) u (in_units (S.encipher key) u x) ≡ x
  deciphered_enciphered =
      undo_in_pieces 512 (omega arith) Blocks blocks-cut (S.encipher key) (ok.str_encipher key hk) (S.decipher key) (ok.decipher_encipher key hk) u n x hn hx
