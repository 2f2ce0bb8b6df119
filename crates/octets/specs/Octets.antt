-- Byte strings: a byte is a number below 256, a byte string a list of them. Numbers in bytes, exclusive or, equality as a test.
use Rattle.std.specs.Prelude.{◌≡◌, List, [], ◌∷◌, ◌++◌, Bool, true, false, ◌&&◌, ℕ, zero, suc, ◌+◌, ◌-◌, ◌*◌, ◌/◌, ◌%◌, ◌<◌, eqb, length, get_or, replicate}
use Rattle.std.specs.Int.Bits.{bit_xor}

-- each element is a byte
abbrev pub Bytes : List ℕ → Type 0
Bytes [] = Unit {0}
Bytes (x ∷ xs) = (x < 256) × Bytes xs

-- x is a string of n bytes
pub record Str (n : ℕ) (x : List ℕ) : Type 0 where
  pub len : length x ≡ n
  pub byte : Bytes x

-- n zero bytes
unfoldable pub zeros : ℕ → List ℕ
zeros n = replicate n 0

-- x followed by zeros, to w bytes
abbrev pub padded : ℕ → List ℕ → List ℕ
padded w x = x ++ zeros (w - length x)

-- ---- numbers in bytes (01, "Header and layout": "Numbers are big-endian")

-- x as n bytes, the highest first
unfoldable pub big_endian : ℕ → ℕ → List ℕ
big_endian zero x = []
big_endian (suc n) x = big_endian n (x / 256) ++ (x % 256 ∷ [])

-- x as four bytes, the highest first
abbrev pub be32 : ℕ → List ℕ
be32 x = big_endian 4 x

-- the number of four bytes, the highest first
abbrev pub be32_of : ℕ → ℕ → ℕ → ℕ → ℕ
be32_of a b c d = a * 16777216 + b * 65536 + c * 256 + d

-- the number of the four bytes of s from offset o
unfoldable pub be32_at : List ℕ → ℕ → ℕ
be32_at s o = be32_of (get_or s o 0) (get_or s (o + 1) 0) (get_or s (o + 2) 0) (get_or s (o + 3) 0)

-- ---- exclusive or

-- of two numbers; a name of its own, so that it unfolds only where a proof says so
infixl 55 ◌⊕◌
unfoldable pub ◌⊕◌ : ℕ → ℕ → ℕ
a ⊕ b = bit_xor a b

-- of two strings, byte by byte; where the second has ended the first stays as it is
unfoldable pub xors : List ℕ → List ℕ → List ℕ
xors [] ys = []
xors (x ∷ xs) [] = x ∷ xs
xors (x ∷ xs) (y ∷ ys) = (x ⊕ y) ∷ xors xs ys

-- ---- equality as a test

-- the strings are equal
unfoldable pub same : List ℕ → List ℕ → Bool
same [] [] = true
same [] (y ∷ ys) = false
same (x ∷ xs) [] = false
same (x ∷ xs) (y ∷ ys) = eqb x y && same xs ys
