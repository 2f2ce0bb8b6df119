-- The last block of a message in each lane, and the place of blocks in the derived key.
use mathlib.Core.Path.{◌≡◌, refl, sym, ap, ◌∙◌}
use mathlib.Core.List.{List, [], ◌∷◌, ◌++◌, append_assoc}
use Prim.Native.Nat.{ℕ, suc, ◌+◌, ◌*◌, ◌≤◌, ◌<◌}
use native.Mathlib.Numerals.{add-one}
use native.Mathlib.Omega.{arith}
use lib.ListN.{length, get_or, take}
use lib.Seq.{take_all}
use Rattle.octets.specs.Octets.{zeros, big_endian}
use Rattle.octets.specs.Splice.{splice}
use Rattle.octets.specs.Pieces.{piece_count}
use Rattle.octets.proofs.PiecesLaws.{piece_count_covers}
use Rattle.digest.specs.Chaining.{Compression, digest, padding}
use Rattle.sha_1.specs.Sha1 as sha1
use Rattle.hash.specs.declared.Hash.{Hash}
use Rattle.hash.specs.declared.Hash.TheVariants.{Sha1, Sha256}
use Rattle.hash.specs.Hash.{compression_of, digest_of}
use Rattle.hash.proofs.HashLaws.{lawful-compression, lawful}
use Rattle.hmac.specs.Keyed.{keyed}
use Rattle.lanes.specs.Lanes.{lane}
use Rattle.lanes.proofs.LanesLaws.{four, lane-four, lane-five}
use Rattle.pbkdf2.specs.Pbkdf2.{laid, pbkdf2}
use Rattle.pbkdf2.specs.Words.{padding_words, last_block, block_bytes, four_blocks, Holds}
use Rattle.pbkdf2.proofs.Rfc8018Laws.{rfc_8018}
use Rattle.pbkdf2.proofs.WordsLaws.{F-block_words}

-- ---- the last block, in lanes

-- the words that are stored
abbrev last_words : List (List ℕ) → List (List ℕ)
last_words u =
    get_or u 0 [] ∷ get_or u 1 [] ∷ get_or u 2 [] ∷ get_or u 3 [] ∷ get_or u 4 [] ∷ four 0x80000000
    ∷ four 0 ∷ four 0 ∷ four 0 ∷ four 0 ∷ four 0 ∷ four 0 ∷ four 0 ∷ four 0 ∷ four 0 ∷ four 672 ∷ []

pub last-lane : (i : ℕ) (w u : List (List ℕ)) → i < 4 → length u ≡ 5 → take 16 (lane i (splice w 0 (last_words u))) ≡ last_block (lane i u)
unfolding last_block padding_words zeros splice
last-lane i w u h lu = rw (lane-four 0x80000000 i h, lane-four 0 i h, lane-four 672 i h) (ap last_block (lane-five i u lu))

-- ---- blocks of the derived key

module _ (C : Compression) (i o s : List ℕ) (c j : ℕ) (t : List ℕ) where
  pub one_more : t ≡ block_bytes C i o s c (j + 1) → laid (block_bytes C i o s c) (j + 1) ≡ laid (block_bytes C i o s c) j ++ t
  unfolding laid
  one_more e = rw (e, add-one)

pub four_more : (i o s : List ℕ) (c j : ℕ) (t : List ℕ) → t ≡ four_blocks i o s c (j + 1)
    → laid (block_bytes sha1.compression i o s c) (j + 4) ≡ laid (block_bytes sha1.compression i o s c) j ++ t
unfolding laid
four_more i o s c j t e =
    let n₁ : j + 1 ≡ suc j = omega arith in
    let n₂ : j + 1 + 1 ≡ suc (suc j) = omega arith in
    let n₃ : j + 1 + 2 ≡ suc (suc (suc j)) = omega arith in
    let n₄ : j + 1 + 3 ≡ suc (suc (suc (suc j))) = omega arith in
    let n : j + 4 ≡ suc (suc (suc (suc j))) = omega arith in
    rw (n, e, n₄, n₃, n₂, n₁) (simp append_assoc)

-- the padding of a last block, as words and as bytes
padding-words : (h : Hash) → digest (padding_words (compression_of h).count) ≡ padding (64 + 4 * (compression_of h).count)
unfolding digest padding_words padding zeros big_endian
padding-words Sha1 = refl
padding-words Sha256 = refl

-- under the password p they are those of RFC 8018, and all that out has room for are the derived key
pub all_blocks : (h : Hash) (p s i o : List ℕ) (c : ℕ) → i ≡ keyed (compression_of h) 0x36 p → o ≡ keyed (compression_of h) 0x5c p
    → (out : List ℕ) (j : ℕ) → j ≡ piece_count (digest_of h).size (length out) → Holds (compression_of h) i o s c j out
    → out ≡ pbkdf2 (digest_of h) p s c (length out)
all_blocks h p s i o c ei eo out j ej b =
    let C = compression_of h in
    let H = digest_of h in
    let D = H.size in
    let g : length out ≤ D * piece_count D (length out) = piece_count_covers D (length out) (omega (arith, (lawful h).at_least)) in
    sym (take_all (D * j) out (rw ej g)) ∙ b ∙ ap (λ (k : ℕ). take (length out) (laid (block_bytes C i o s c) k)) ej
    ∙ (rfc_8018 H (lawful h)).blocks_give p s c (length out) (block_bytes C i o s c)
    (λ k l m. F-block_words C (lawful-compression h) (padding-words h) p s i o c k ei eo)
