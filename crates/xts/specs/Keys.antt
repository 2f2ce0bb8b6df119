-- What the code keeps: a tweak as two halves of a number, and a key expanded once for many data units.
use Rattle.std.specs.Prelude.{◌≡◌, ℕ, zero, suc, ◌+◌, ◌*◌, ◌/◌, ◌%◌, ◌^◌, ◌<◌, ◌≤◌, Bool, true, false, List, ◌++◌, length, take}
use Rattle.aes.specs.Aes.{cipher, inv_cipher, expand}
use Rattle.aes.specs.Planes.{Sliced}
use Rattle.aes.specs.Planes as planes
use Rattle.xts.specs.Xts.{little_endian, unit_block, double, data_unit, data_key, tweak_key}
use Rattle.xts.specs.declared.Tweak.{Tweak}
use Rattle.xts.specs.declared.schedules.Keys.{Keys}

-- the 16 bytes of a tweak
unfoldable pub tweak_bytes : Tweak → List ℕ
tweak_bytes t = little_endian 8 t.low ++ little_endian 8 t.high

-- the tweak of block b, t being that of the first
unfoldable pub tweak_at : ℕ → List ℕ → List ℕ
tweak_at zero t = t
tweak_at (suc b) t = double (tweak_at b t)

-- the blocks of t are the first tweaks of 32 data units from the number u on, under the key schedule that is sliced in vs
unfoldable pub Firsts : ℕ → List ℕ → ℕ → List ℕ → Type 0
Firsts n vs u t = (v : List ℕ) → Sliced (n + 2) v vs → (b : ℕ) → b < 32 → planes.block b t ≡ cipher n v (unit_block ((u + b) % 2 ^ 64))

-- k has room for its rounds
pub record Ready (k : Keys) : Type 0 where
  pub room : (k.rounds + 2) * 16 ≤ 240

-- k is key, expanded
pub record Expanded (k : Keys) (key : List ℕ) : Type 0 where
  pub ready : Ready k
  pub rounds : k.rounds ≡ length key / 2 / 4 + 5
  pub for_data : take ((k.rounds + 2) * 16) k.blocks ≡ expand (length key / 2 / 4) (data_key key)
  pub for_tweak : take ((k.rounds + 2) * 16) k.tweaks ≡ expand (length key / 2 / 4) (tweak_key key)

-- ---- a data unit under an expanded key

-- the cipher of the blocks: forward enciphers
abbrev pub cipher_of : Bool → ℕ → List ℕ → List ℕ → List ℕ
cipher_of true = cipher
cipher_of false = inv_cipher

-- f is the work on a data unit under the key schedules, of n rounds and the last, that are sliced in ks for the blocks and in vs for the
-- tweaks
pub record Under (forward : Bool) (n : ℕ) (ks vs : List ℕ) (f : ℕ → List ℕ → List ℕ) : Type 0 where
  pub blocks : List ℕ
  pub tweaks : List ℕ
  pub for_data : Sliced (n + 2) blocks ks
  pub for_tweak : Sliced (n + 2) tweaks vs
  pub is : f ≡ data_unit (cipher_of forward n blocks) (cipher n tweaks)

-- the data unit s with the number u, under an expanded key
unfoldable pub unit_run : Bool → Keys → ℕ → List ℕ → List ℕ
unit_run forward k u s = data_unit (cipher_of forward k.rounds k.blocks) (cipher k.rounds k.tweaks) u s

-- enciphered
abbrev pub unit_encrypt : Keys → ℕ → List ℕ → List ℕ
unit_encrypt = unit_run true

-- deciphered
abbrev pub unit_decrypt : Keys → ℕ → List ℕ → List ℕ
unit_decrypt = unit_run false
