-- Laws of a block of 64 bytes, whose four pieces are hashed side by side.
use mathlib.Core.Path.{◌≡◌, refl, sym, ap, ◌∙◌, subst}
use mathlib.Core.List.{List, [], ◌∷◌, ◌++◌, append-nil}
use Prim.Native.Nat.{ℕ, ◌+◌, ◌-◌, ◌*◌, ◌/◌, ◌%◌, ◌≤◌, ◌<◌}
use native.Mathlib.Omega.{arith}
use lib.ListN.{length, take, drop, length-take, length-append}
use lib.Seq.{take_all, take-append-add}
use Rattle.octets.specs.Octets.{zeros, big_endian, be32_at, be32}
use Rattle.octets.specs.Pieces.{pieces, in_pieces}
use Rattle.octets.specs.Splice.{splice}
use Rattle.octets.proofs.OctetsLaws.{length-big_endian, length-zeros}
use Rattle.digest.specs.Chaining.{Compression, words, padding, compress_block, blocks, digest, hash}
use Rattle.digest.proofs.ChainingLaws.{elements, all_elements, lawful-digest}
use Rattle.sha_1.specs.Sha1.{initial, compress_words, compression, sha1}
use Rattle.sha_1.proofs.Sha1Laws.{lawful}
use Rattle.lanes.specs.Lanes.{Each, lane, four_digests}
use Rattle.lanes.proofs.LanesLaws.{each, four}
use Rattle.splitter.specs.Diffuse.{piece_digest, diffuse}
use Rattle.splitter.specs.Fours.{piece, piece_block, across}

-- what holds of the elements of a list of 64, written out, holds of it
written_out : (P : List ℕ → Type 0) (d : List ℕ) → length d ≡ 64 → P (elements 0 d 0 64) → P d
written_out P d h p = subst P (sym (all_elements 0 64 d h)) p

-- ---- what is hashed

-- the digest of piece i and its number
abbrev hashes : List ℕ → ℕ → List ℕ
hashes d i = sha1.hash (be32 i ++ piece d i)

length-padded : (m : List ℕ) → length m ≤ 24 → length (m ++ padding (length m)) ≡ 64
unfolding padding
length-padded m h =
    let z : ℕ = (119 - length m % 64) % 64 in
    length-append m (padding (length m))
    ∙ omega (arith, length-append (zeros z) (big_endian 8 (8 * length m)), length-zeros z, length-big_endian 8 (8 * length m))

-- a short message is one block
hash_short : (C : Compression) (m : List ℕ) → length m ≤ 24 → hash C m ≡ digest (C.compress C.initial (words (m ++ padding (length m)) 16))
unfolding hash blocks compress_block
hash_short C m h =
    let p : List ℕ = m ++ padding (length m) in
    let l : length p ≡ 64 = length-padded m h in
    let n : length p / 64 ≡ 1 = omega arith in
    ap (λ (k : ℕ). digest (blocks C C.initial p k)) n ∙ ap (λ (x : List ℕ). digest (C.compress C.initial (words x 16))) (take_all 64 p (omega arith))

-- and so is a piece with its number
hash-piece : (d s : List ℕ) (i : ℕ) → s ≡ compress_words initial (piece_block d i) → digest s ≡ hashes d i
unfolding piece_block
hash-piece d s i e =
    let l : length (be32 i ++ piece d i) ≡ 4 + length (piece d i) =
    length-append (be32 i) (piece d i) ∙ ap (λ (n : ℕ). n + length (piece d i)) (length-big_endian 4 i) in
    ap digest (e ∙ ap (λ (n : ℕ). compress_words initial (words ((be32 i ++ piece d i) ++ padding n) 16)) (sym l))
    ∙ sym (hash_short compression (be32 i ++ piece d i) (omega (arith, length-take 20 (drop (20 * i) d))))

-- ---- the words that are stored

-- the first 16, where the words of the pieces are a b c e f
abbrev piece_rows : List ℕ → List ℕ → List ℕ → List ℕ → List ℕ → List (List ℕ)
piece_rows a b c e f =
    (0 ∷ 1 ∷ 2 ∷ 3 ∷ []) ∷ a ∷ b ∷ c ∷ e ∷ f ∷ (0x80000000 ∷ 0x80000000 ∷ 0x80000000 ∷ 0 ∷ [])
    ∷ four 0 ∷ four 0 ∷ four 0 ∷ four 0 ∷ four 0 ∷ four 0 ∷ four 0 ∷ four 0 ∷ (192 ∷ 192 ∷ 192 ∷ 64 ∷ []) ∷ []

-- those for the block d
abbrev rows_of : List ℕ → List (List ℕ)
rows_of d = piece_rows (across d 0 (be32_at d 60)) (across d 4 0x80000000) (across d 8 0) (across d 12 0) (across d 16 0)

-- each lane has its piece's block
rows-piece : (d : List ℕ) → length d ≡ 64 → Each (λ i. lane i (rows_of d) ≡ piece_block d i)
unfolding piece_block words be32_at padding zeros big_endian
rows-piece d h =
    each (λ (i : ℕ). lane i (rows_of d) ≡ piece_block d i)
    (written_out (λ (x : List ℕ). lane 0 (rows_of x) ≡ piece_block x 0) d h refl)
    (written_out (λ (x : List ℕ). lane 1 (rows_of x) ≡ piece_block x 1) d h refl)
    (written_out (λ (x : List ℕ). lane 2 (rows_of x) ≡ piece_block x 2) d h refl)
    (written_out (λ (x : List ℕ). lane 3 (rows_of x) ≡ piece_block x 3) d h refl)

-- so the words stored one after the other are the four blocks
pub loaded : (d a b c e f : List ℕ) (w : List (List ℕ)) (x i : ℕ) → length d ≡ 64 → i < 4 → x ≡ be32_at d 60
    → a ≡ across d 0 x → b ≡ across d 4 0x80000000 → c ≡ across d 8 0 → e ≡ across d 12 0 → f ≡ across d 16 0
    → take 16 (lane i (splice w 0 (piece_rows a b c e f))) ≡ piece_block d i
unfolding splice
loaded d a b c e f w x i h hi ex ea eb ec ee ef =
    let e₁ : a ≡ across d 0 (be32_at d 60) = ea ∙ ap (λ (y : ℕ). across d 0 y) ex in
    let r : piece_rows a b c e f ≡ rows_of d = rw (e₁, eb, ec, ee, ef) in
    ap (lane i) r ∙ rows-piece d h i hi

-- ---- what is written back

-- of four digests the first 64 bytes are three and the start of the last
crop_64 : (a b c e : List ℕ) → length a ≡ 20 → length b ≡ 20 → length c ≡ 20
    → take 64 (a ++ (b ++ (c ++ e))) ≡ a ++ (b ++ (c ++ take 4 e))
crop_64 a b c e la lb lc =
    let na : 64 ≡ length a + 44 = omega arith in
    let nb : 44 ≡ length b + 24 = omega arith in
    let nc : 24 ≡ length c + 4 = omega arith in
    ap (λ (n : ℕ). take n (a ++ (b ++ (c ++ e)))) na ∙ take-append-add a (b ++ (c ++ e)) 44
    ∙ ap (λ (x : List ℕ). a ++ x) (ap (λ (n : ℕ). take n (b ++ (c ++ e))) nb ∙ take-append-add b (c ++ e) 24
    ∙ ap (λ (x : List ℕ). b ++ x) (ap (λ (n : ℕ). take n (c ++ e)) nc ∙ take-append-add c e 4))

diffuse-pieces : (d : List ℕ) → length d ≡ 64
    → diffuse sha1 d ≡ take 20 (hashes d 0) ++ (take 20 (hashes d 1) ++ (take 20 (hashes d 2) ++ (take 4 (hashes d 3) ++ [])))
unfolding diffuse in_pieces pieces piece_digest
diffuse-pieces d h =
    written_out
    (λ (x : List ℕ). diffuse sha1 x ≡ take 20 (hashes x 0) ++ (take 20 (hashes x 1) ++ (take 20 (hashes x 2) ++ (take 4 (hashes x 3) ++ []))))
    d h refl

-- the chaining words of the four blocks make H
pub diffused : (d out b s t u v : List ℕ) → length d ≡ 64 → length b ≡ 80 → s ≡ compress_words initial (piece_block d 0) → t ≡ compress_words initial (piece_block d 1)
    → u ≡ compress_words initial (piece_block d 2) → v ≡ compress_words initial (piece_block d 3) → b ≡ four_digests s t u v
    → out ≡ take 64 b → out ≡ diffuse sha1 d
diffused d out b s t u v h lb es et eu ev eb eo =
    let l : (i : ℕ) → length (hashes d i) ≡ 20 = λ i. ((lawful-digest compression lawful).str_hash (be32 i ++ piece d i)).len in
    let whole : (i : ℕ) → take 20 (hashes d i) ≡ hashes d i = λ i. take_all 20 (hashes d i) (omega (arith, l i)) in
    let e : b ≡ hashes d 0 ++ (hashes d 1 ++ (hashes d 2 ++ hashes d 3)) =
    eb ∙ rw (hash-piece d s 0 es, hash-piece d t 1 et, hash-piece d u 2 eu, hash-piece d v 3 ev) in
    let c : take 64 b ≡ hashes d 0 ++ (hashes d 1 ++ (hashes d 2 ++ take 4 (hashes d 3))) =
    ap (take 64) e ∙ crop_64 (hashes d 0) (hashes d 1) (hashes d 2) (hashes d 3) (l 0) (l 1) (l 2) in
    let f : take 64 b ≡ diffuse sha1 d =
    c ∙ sym (diffuse-pieces d h ∙ rw (whole 0, whole 1, whole 2, append-nil (take 4 (hashes d 3)))) in
    eo ∙ f
