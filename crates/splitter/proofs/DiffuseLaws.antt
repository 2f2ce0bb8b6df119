-- Laws of the diffusion function over any lawful digest, and merging undoes splitting with it.
use mathlib.Core.Path.{◌≡◌, sym, ap, ap₂, ◌∙◌}
use mathlib.Core.List.{List, ◌++◌, append_assoc}
use Prim.Native.Nat.{ℕ, ◌+◌, ◌-◌, ◌*◌, ◌≤◌, ◌<◌, min}
use native.Mathlib.Nat.{mul-add}
use native.Mathlib.Omega.{arith}
use lib.ListN.{length, take, drop, length-drop, length-append}
use lib.Seq.{take_at, take-take, length-take-le}
use Rattle.octets.specs.Octets.{Str, be32}
use Rattle.octets.specs.Pieces.{in_pieces}
use Rattle.octets.specs.Splice.{splice}
use Rattle.octets.proofs.OctetsLaws.{str_crop}
use Rattle.octets.proofs.PiecesLaws.{take_min, drop_min, pieces_step, pieces_end, str_in_pieces}
use Rattle.digest.specs.Digest.{Digest, LawfulDigest}
use Rattle.suite.specs.Split.{split, merge}
use Rattle.suite.proofs.SplitLaws.{merge-split}
use Rattle.splitter.specs.Diffuse.{piece_digest, diffuse}

-- two strings put one behind the other at the start of a buffer
pub put_two : (b x y p b₁ b₂ : List ℕ) (n : ℕ) → length x ≡ n → y ≡ x → b₁ ≡ splice b 0 y → b₂ ≡ splice b₁ n p → take (n + length p) b₂ ≡ x ++ p
unfolding splice
put_two b x y p b₁ b₂ n l ex e₁ e₂ =
    let t : take n b₁ ≡ x = ap (take n) (e₁ ∙ ap (λ (z : List ℕ). z ++ drop (0 + length z) b) ex) ∙ take_at x (drop (0 + length x) b) n l in
    ap (take (n + length p)) (e₂ ∙ ap (λ (y : List ℕ). y ++ (p ++ drop (n + length p) b₁)) t ∙ sym (append_assoc x p (drop (n + length p) b₁)))
    ∙ take_at (x ++ p) (drop (n + length p) b₁) (n + length p) (length-append x p ∙ ap (λ (k : ℕ). k + length p) l)

module _ (H : Digest) (ok : LawfulDigest H) where
  pos : 1 ≤ H.size
  pos = omega (arith, ok.at_least)

  -- a turn of the loop in place, where the digest stands at the front of h and d is its length
  pub diffuse-step : (at n i d : ℕ) (s s' h q : List ℕ) → d ≡ H.size → at < length s → n ≡ min d (length s - at) → d ≤ length h
      → take H.size h ≡ H.hash (be32 i ++ take (at + n - at) (drop at s)) → s' ≡ splice s at (take n h)
      → take at s ++ in_pieces H.size (piece_digest H) i (drop at s) ≡ q
      → take (at + n) s' ++ in_pieces H.size (piece_digest H) (i + 1) (drop (at + n) s') ≡ q
  unfolding splice piece_digest
  diffuse-step at n i d s s' h q ed ha en lh eh es e =
      let k : at + n - at ≡ n = omega arith in
      let ly : length (take n h) ≡ n = length-take-le n h (omega arith) in
      let lx : length (take n (drop at s)) ≡ n = length-take-le n (drop at s) (omega (arith, length-drop at s)) in
      pieces_step H.size pos (piece_digest H) at n i s s' (take n h) q ha (en ∙ ap (λ (m : ℕ). min m (length s - at)) ed) ly
      (sym (take-take n H.size h (omega (arith, ed, en))) ∙ ap (take n) (eh ∙ ap (λ (m : ℕ). H.hash (be32 i ++ take m (drop at s))) k)
      ∙ ap (λ (m : ℕ). take m (H.hash (be32 i ++ take n (drop at s)))) (sym lx))
      (es ∙ ap (λ (m : ℕ). take at s ++ (take n h ++ drop (at + m) s)) ly) e

  -- the same, where piece i begins at d * i and the next at d * (i + 1), which may lie behind the end
  pub diffuse-turn : (i d n : ℕ) (s s' h q : List ℕ) → d ≡ H.size → d * i < length s → n ≡ min d (length s - d * i) → d ≤ length h → length s' ≡ length s
      → take H.size h ≡ H.hash (be32 i ++ take (d * i + n - d * i) (drop (d * i) s)) → s' ≡ splice s (d * i) (take n h)
      → take (d * i) s ++ in_pieces H.size (piece_digest H) i (drop (d * i) s) ≡ q
      → take (d * (i + 1)) s' ++ in_pieces H.size (piece_digest H) (i + 1) (drop (d * (i + 1)) s') ≡ q
  diffuse-turn i d n s s' h q ed ha en lh ls eh es e =
      let m : d * (i + 1) ≡ d * i + d = mul-add d i 1 ∙ omega arith in
      let k : d * i + n ≡ min (d * (i + 1)) (length s') = omega arith in
      ap₂ (λ (x y : List ℕ). x ++ in_pieces H.size (piece_digest H) (i + 1) y)
      (take_min (d * (i + 1)) (d * i + n) s' k) (drop_min (d * (i + 1)) (d * i + n) s' k)
      ∙ diffuse-step (d * i) n i d s s' h q ed ha en lh eh es e

  -- its end
  pub diffuse-end : (at i : ℕ) (s q : List ℕ) → length s ≤ at → take at s ++ in_pieces H.size (piece_digest H) i (drop at s) ≡ q → s ≡ q
  diffuse-end = pieces_end H.size pos (piece_digest H)

  str_piece_digest : (i n : ℕ) (x : List ℕ) → n ≤ H.size → Unit {0} → Str n x → Str n (piece_digest H i x)
  unfolding piece_digest
  str_piece_digest i n x l p h = rw h.len (str_crop n (ok.str_hash (be32 i ++ x)) l)

  pub str_diffuse : (n : ℕ) (x : List ℕ) → Str n x → Str n (diffuse H x)
  unfolding diffuse
  str_diffuse n x h =
      str_in_pieces H.size pos (λ n. Unit {0}) (λ n p. (tt, tt)) (piece_digest H) str_piece_digest 0 n x tt h

  -- merging undoes splitting, for every number of stripes from 1 and every key length
  pub diffused-merge-split : (L n : ℕ) → 1 ≤ n → (random key : List ℕ) → Str ((n - 1) * L) random → Str L key
      → merge (diffuse H) L n (split (diffuse H) L n random key) ≡ key
  diffused-merge-split L n = merge-split (diffuse H) str_diffuse L n
