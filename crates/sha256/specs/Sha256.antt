-- SHA-256's compression function (FIPS 180-4). A word is a number below 2 ^ 32; a block is 16 words.
use Rattle.std.specs.Prelude.{ℕ, zero, suc, ◌-◌, ◌*◌, ◌/◌, ◌%◌, ◌^◌, List, [], ◌∷◌, bit_or, bit_xor, slice_index, slice_index_or}
use Rattle.digest.specs.Digest.{Digest}
use Rattle.digest.specs.Chaining.{◌⊞◌, ch, maj, schedule, Compression, chained}

-- ---- functions and constants (2.2.2, 3.2, 4.1.2, 4.2.2)

-- ROTR^n(x) = (x >> n) | (x << (32 - n))
abbrev pub rotr : ℕ → ℕ → ℕ
rotr n x = bit_or (x / 2 ^ n) ((x * 2 ^ (32 - n)) % 2 ^ 32)

-- Σ₀(x) = ROTR^2(x) XOR ROTR^13(x) XOR ROTR^22(x)
abbrev pub Σ₀ : ℕ → ℕ
Σ₀ x = bit_xor (bit_xor (rotr 2 x) (rotr 13 x)) (rotr 22 x)

-- Σ₁(x) = ROTR^6(x) XOR ROTR^11(x) XOR ROTR^25(x)
abbrev pub Σ₁ : ℕ → ℕ
Σ₁ x = bit_xor (bit_xor (rotr 6 x) (rotr 11 x)) (rotr 25 x)

-- σ₀(x) = ROTR^7(x) XOR ROTR^18(x) XOR SHR^3(x)
abbrev pub σ₀ : ℕ → ℕ
σ₀ x = bit_xor (bit_xor (rotr 7 x) (rotr 18 x)) (x / 2 ^ 3)

-- σ₁(x) = ROTR^17(x) XOR ROTR^19(x) XOR SHR^10(x)
abbrev pub σ₁ : ℕ → ℕ
σ₁ x = bit_xor (bit_xor (rotr 17 x) (rotr 19 x)) (x / 2 ^ 10)

-- K_0 to K_63
unfoldable pub constants : List ℕ
constants =
    0x428a2f98 ∷ 0x71374491 ∷ 0xb5c0fbcf ∷ 0xe9b5dba5 ∷ 0x3956c25b ∷ 0x59f111f1 ∷ 0x923f82a4 ∷ 0xab1c5ed5
    ∷ 0xd807aa98 ∷ 0x12835b01 ∷ 0x243185be ∷ 0x550c7dc3 ∷ 0x72be5d74 ∷ 0x80deb1fe ∷ 0x9bdc06a7 ∷ 0xc19bf174
    ∷ 0xe49b69c1 ∷ 0xefbe4786 ∷ 0x0fc19dc6 ∷ 0x240ca1cc ∷ 0x2de92c6f ∷ 0x4a7484aa ∷ 0x5cb0a9dc ∷ 0x76f988da
    ∷ 0x983e5152 ∷ 0xa831c66d ∷ 0xb00327c8 ∷ 0xbf597fc7 ∷ 0xc6e00bf3 ∷ 0xd5a79147 ∷ 0x06ca6351 ∷ 0x14292967
    ∷ 0x27b70a85 ∷ 0x2e1b2138 ∷ 0x4d2c6dfc ∷ 0x53380d13 ∷ 0x650a7354 ∷ 0x766a0abb ∷ 0x81c2c92e ∷ 0x92722c85
    ∷ 0xa2bfe8a1 ∷ 0xa81a664b ∷ 0xc24b8b70 ∷ 0xc76c51a3 ∷ 0xd192e819 ∷ 0xd6990624 ∷ 0xf40e3585 ∷ 0x106aa070
    ∷ 0x19a4c116 ∷ 0x1e376c08 ∷ 0x2748774c ∷ 0x34b0bcb5 ∷ 0x391c0cb3 ∷ 0x4ed8aa4a ∷ 0x5b9cca4f ∷ 0x682e6ff3
    ∷ 0x748f82ee ∷ 0x78a5636f ∷ 0x84c87814 ∷ 0x8cc70208 ∷ 0x90befffa ∷ 0xa4506ceb ∷ 0xbef9a3f7 ∷ 0xc67178f2 ∷ []

-- H^(0) (5.3.3)
abbrev pub initial : List ℕ
initial = 0x6a09e667 ∷ 0xbb67ae85 ∷ 0x3c6ef372 ∷ 0xa54ff53a ∷ 0x510e527f ∷ 0x9b05688c ∷ 0x1f83d9ab ∷ 0x5be0cd19 ∷ []

-- ---- a block (6.2.2)

-- step 1: W_t, where w has the words before it
unfoldable pub next : List ℕ → ℕ → ℕ
next w t = σ₁ (slice_index w (t - 2)) ⊞ slice_index_or w (t - 7) 0 ⊞ σ₀ (slice_index w (t - 15)) ⊞ slice_index_or w (t - 16) 0

-- step 3: the working words a b c d e f g h after a round with the constant c and the word w
unfoldable pub mix : ℕ → ℕ → List ℕ → List ℕ
mix c w s =
    let t₁ = slice_index_or s 7 0 ⊞ Σ₁ (slice_index s 4) ⊞ ch (slice_index s 4) (slice_index s 5) (slice_index s 6) ⊞ c ⊞ w in
    let t₂ = Σ₀ (slice_index s 0) ⊞ maj (slice_index s 0) (slice_index s 1) (slice_index s 2) in
    t₁ ⊞ t₂ ∷ slice_index s 0 ∷ slice_index s 1 ∷ slice_index s 2 ∷ slice_index_or s 3 0 ⊞ t₁ ∷ slice_index s 4 ∷ slice_index s 5 ∷ slice_index s 6 ∷ []

-- the first n rounds with the schedule w
unfoldable pub rounds : List ℕ → List ℕ → ℕ → List ℕ
rounds w s zero = s
rounds w s (suc t) = mix (slice_index constants t) (slice_index w t) (rounds w s t)

-- step 4: the chaining words s and the working words v, added
unfoldable pub add_words : List ℕ → List ℕ → List ℕ
add_words s v =
    slice_index_or s 0 0 ⊞ slice_index_or v 0 0 ∷ slice_index_or s 1 0 ⊞ slice_index_or v 1 0 ∷ slice_index_or s 2 0 ⊞ slice_index_or v 2 0 ∷ slice_index_or s 3 0 ⊞ slice_index_or v 3 0
    ∷ slice_index_or s 4 0 ⊞ slice_index_or v 4 0 ∷ slice_index_or s 5 0 ⊞ slice_index_or v 5 0 ∷ slice_index_or s 6 0 ⊞ slice_index_or v 6 0 ∷ slice_index_or s 7 0 ⊞ slice_index_or v 7 0 ∷ []

-- steps 1 to 4: the chaining words after the block m of 16 words
unfoldable pub compress_words : List ℕ → List ℕ → List ℕ
compress_words s m = add_words s (rounds (schedule next m 48) s 64)

-- ---- a message (6.2)

abbrev pub compression : Compression
compression = record { count = 8; initial = initial; compress = compress_words }

-- SHA-256 as a digest
abbrev pub sha256 : Digest
sha256 = chained compression
