-- The entries of a list: numbers that four bytes hold and 512 bytes each, so that its bytes read back are the list.
use mathlib.Core.Path.{◌≡◌, refl, sym, ap, ap₂, ◌∙◌}
use mathlib.Core.List.{List, [], ◌∷◌, ◌++◌}
use Prim.Native.Nat.{ℕ, zero, suc, ◌+◌, ◌*◌, ◌/◌, ◌^◌, ◌≤◌, ◌<◌}
use native.Mathlib.Omega.{arith}
use lib.ListN.{length, drop, length-append}
use lib.Seq.{drop-append-add}
use Rattle.octets.specs.Octets.{Bytes, be32, be32_at}
use Rattle.octets.specs.Splice.{part}
use Rattle.octets.proofs.OctetsLaws.{bytes-at, length-big_endian, be32_at-be32}
use Rattle.octets.proofs.SpliceLaws.{length_part, part-here, part_skip, part_all, be32_at-part}
use Rattle.rules.specs.Sectors.{SectorWrite, sectors_from, encoded, entry_bytes, head_list}
use Rattle.rules.proofs.SectorLaws.{head-runs}
use Rattle.ledger.proofs.AllLaws.{All, all_append}
use Rattle.cuts.specs.Cuts.{decoded}

-- a number that four bytes hold, and a sector's bytes
abbrev pub Whole : SectorWrite → Type 0
Whole w = (w.0 < 2 ^ 32) × (length w.1 ≡ 512)

-- four bytes are a number below 2^32
pub be32_at-most : (x : List ℕ) → Bytes x → (o : ℕ) → be32_at x o < 2 ^ 32
unfolding be32_at
be32_at-most x b o = omega (arith, bytes-at x b o, bytes-at x b (o + 1), bytes-at x b (o + 2), bytes-at x b (o + 3))

pub run-whole : (image : List ℕ) (s m : ℕ) → (s + m) * 512 ≤ length image → s + m ≤ 2 ^ 32 → All Whole (sectors_from image s m)
unfolding sectors_from
run-whole image s zero h k = tt
run-whole image s (suc m) h k =
    ((omega (arith, k), length_part image (s * 512) 512 (omega (arith, h))), run-whole image (suc s) m (omega (arith, h)) (omega (arith, k)))

pub head-whole : (image : List ℕ) → 1024 ≤ length image → All Whole (head_list image)
head-whole image h =
    let one = run-whole image 1 1 (omega (arith, h)) (omega arith) in
    let zero' = run-whole image 0 1 (omega (arith, h)) (omega arith) in
    rw (head-runs image) (all_append Whole (sectors_from image 1 1) (sectors_from image 0 1) one zero')

-- ---- read back

module _ (n : ℕ) (x rest : List ℕ) (h : n < 2 ^ 32) (l : length x ≡ 512) where
  abbrev entry : List ℕ
  entry = be32 n ++ (x ++ rest)

  number_back : be32_at entry 0 ≡ n
  number_back =
      let e = length-big_endian 4 n in
      sym (be32_at-part entry 0 4 0 (omega arith))
      ∙ ap (λ (y : List ℕ). be32_at y 0) (part-here (be32 n) (x ++ rest) 0 4 (omega (arith, e)) ∙ part_all (be32 n) 4 e)
      ∙ be32_at-be32 n h

  bytes_back : part entry 4 512 ≡ x
  bytes_back = part_skip (be32 n) (x ++ rest) 4 0 512 (length-big_endian 4 n) ∙ part-here x rest 0 512 (omega (arith, l)) ∙ part_all x 512 l

  rest_back : drop 516 entry ≡ rest
  rest_back =
      let e = length-big_endian 4 n in
      ap (λ (m : ℕ). drop m entry) (let q : 516 ≡ length (be32 n) + 512 = omega (arith, e) in q)
      ∙ drop-append-add (be32 n) (x ++ rest) 512
      ∙ ap (λ (m : ℕ). drop m (x ++ rest)) (let q : 512 ≡ length x + 0 = omega (arith, l) in q)
      ∙ drop-append-add x rest 0

length-entries : (ws : List SectorWrite) → All Whole ws → length (encoded ws) ≡ length ws * entry_bytes
unfolding encoded
length-entries [] h = refl
length-entries (w ∷ ws) h =
    omega (
      arith,
      length-append (be32 w.0) (w.1 ++ encoded ws),
      length-append w.1 (encoded ws),
      length-big_endian 4 w.0,
      h.0.1,
      length-entries ws h.1,
    )

entries_back : (ws : List SectorWrite) → All Whole ws → decoded (length ws) (encoded ws) ≡ ws
unfolding decoded encoded
entries_back [] h = refl
entries_back (w ∷ ws) h =
    let n = w.0 in
    let x = w.1 in
    let e = encoded ws in
    ap₂ (λ (v : SectorWrite) (vs : List SectorWrite). v ∷ vs)
    (λ i. (number_back n x e h.0.0 h.0.1 i, bytes_back n x e h.0.0 h.0.1 i))
    (ap (decoded (length ws)) (rest_back n x e h.0.0 h.0.1) ∙ entries_back ws h.1)

pub read_back : (ws : List SectorWrite) → All Whole ws → decoded (length (encoded ws) / entry_bytes) (encoded ws) ≡ ws
read_back ws h =
    ap (λ (m : ℕ). decoded m (encoded ws)) (let e : length (encoded ws) / entry_bytes ≡ length ws = omega (arith, length-entries ws h) in e) ∙ entries_back ws h
