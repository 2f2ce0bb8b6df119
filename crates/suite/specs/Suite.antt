-- A cipher suite: what a profile's hash and cipher mode give the rules of LUKS 1, as functions on byte strings.
use Rattle.std.specs.Prelude.{◌≡◌, List, ℕ, ◌%◌, ◌≤◌}
use Rattle.octets.specs.Octets.{Str}

-- 01, "Ciphers and hashes" and "The splitter"
pub record Suite : Type 0 where
  pub derive : List ℕ → List ℕ → ℕ → ℕ → List ℕ  -- PBKDF2: password, salt, count, length
  pub made : ℕ → ℕ → ℕ  -- how many values of HMAC that makes (02, Wish 6): count, length
  pub encipher : List ℕ → ℕ → List ℕ → List ℕ  -- key, unit number, data unit
  pub decipher : List ℕ → ℕ → List ℕ → List ℕ
  pub diffuse : List ℕ → List ℕ  -- H of the splitter

-- what the theorems about drives need of a suite, for keys of L bytes; a data unit is at most a sector, and whole blocks
pub record LawfulSuite (S : Suite) (L : ℕ) : Type 0 where
  pub str_derive : (password salt : List ℕ) (count n : ℕ) → Str n (S.derive password salt count n)
  pub str_diffuse : (n : ℕ) (x : List ℕ) → Str n x → Str n (S.diffuse x)
  pub str_encipher : (key : List ℕ) → Str L key → (u n : ℕ) (x : List ℕ) → n ≤ 512 → n % 16 ≡ 0 → Str n x → Str n (S.encipher key u x)
  pub str_decipher : (key : List ℕ) → Str L key → (u n : ℕ) (x : List ℕ) → n ≤ 512 → n % 16 ≡ 0 → Str n x → Str n (S.decipher key u x)
  pub decipher_encipher : (key : List ℕ) → Str L key → (u n : ℕ) (x : List ℕ) → n ≤ 512 → n % 16 ≡ 0 → Str n x
      → S.decipher key u (S.encipher key u x) ≡ x
