-- What the calls cost with the built profiles (02, "Wish 6. How long an opening takes"): a checksum its count, a derivation its count for each block.
use mathlib.Core.Path.{◌≡◌, refl, sym, ap₂, ◌∙◌}
use mathlib.Core.List.{List}
use Prim.Native.Nat.{ℕ, ◌+◌, ◌*◌, ◌≤◌}
use native.Mathlib.Omega.{arith}
use lib.ListN.{length}
use Rattle.octets.specs.Pieces.{piece_count}
use Rattle.hash.specs.declared.Hash.{Hash}
use Rattle.hash.specs.declared.Hash.TheVariants.{Sha1, Sha256}
use Rattle.hash.specs.Hash.{digest_of}
use Rattle.hash.proofs.HashLaws as hash
use Rattle.pbkdf2.specs.Pbkdf2.{hmac_values, values_made}
use Rattle.pbkdf2.proofs.CountLaws.{values-made, one_block}
use Rattle.rules.specs.Facts.{Facts, slot_of, profile_in, facts_of}
use Rattle.rules.specs.Format.{FormatInput, format}
use Rattle.rules.specs.Costs.{checksum_cost, derivation_cost, trial_cost, format_cost}
use Rattle.rules.proofs.CostLaws.{format-accepted-cost}
use Rattle.profiles.specs.Rows.{hash_of, rows}
use Rattle.profiles.specs.Suites.{aes_xts, suite_of, built}

-- a profile's number is that of the values that its derivation has
pub made-is : (k : ℕ) (password salt : List ℕ) (c m : ℕ)
    → (suite_of k).made c m ≡ length (hmac_values (digest_of (hash_of k)) password salt c (piece_count (digest_of (hash_of k)).size m))
unfolding suite_of aes_xts
made-is k password salt c m = sym (values-made (digest_of (hash_of k)) password salt c m)

-- 20 bytes are one block of each hash
pub checksum-made : (h : Hash) (c : ℕ) → values_made (digest_of h).size c 20 ≡ c
checksum-made h c = one_block (digest_of h).size c 20 (omega arith) (hash.lawful h).at_least

-- at most four blocks of each hash make 64 bytes
pub blocks-most : (h : Hash) (m : ℕ) → m ≤ 64 → piece_count (digest_of h).size m ≤ 4
blocks-most Sha1 m l = omega arith
blocks-most Sha256 m l = omega arith

-- ---- on any image

module _ (image : List ℕ) where
  abbrev f : Facts
  f = facts_of built image

  -- how many blocks of the header's hash the key bytes need
  abbrev pub key_blocks : ℕ
  key_blocks = piece_count (digest_of (hash_of (profile_in rows image))).size (facts_of built image).profile.key_bytes

  pub checksum-cost : checksum_cost (facts_of built image) ≡ (facts_of built image).checksum_count
  unfolding checksum_cost facts_of suite_of aes_xts
  checksum-cost = checksum-made (hash_of (profile_in rows image)) f.checksum_count

  pub derivation_cost_lem : (count : ℕ) → derivation_cost (facts_of built image) count ≡ count * key_blocks
  unfolding derivation_cost facts_of suite_of aes_xts values_made
  derivation_cost_lem count = refl

  pub trial-cost : (k : ℕ) → trial_cost (facts_of built image) k ≡ (slot_of (facts_of built image) k).count * key_blocks + (facts_of built image).checksum_count
  unfolding trial_cost
  trial-cost k = ap₂ ◌+◌ (derivation_cost_lem (slot_of f k).count) checksum-cost

-- an accepted format
pub format-cost : (a : FormatInput) (image : List ℕ) → (format built a image).code ≡ 0 → format_cost built a image ≡ a.count
unfolding suite_of aes_xts
format-cost a image e = format-accepted-cost built a image e ∙ checksum-made (hash_of a.profile) a.count
