-- Deriving gives RFC 8018's bytes, over any lawful digest.
use mathlib.Core.Path.{◌≡◌, refl, sym, ap, ap₂, ◌∙◌}
use mathlib.Core.List.{List, ◌++◌}
use Prim.Native.Nat.{ℕ, zero, suc, ◌+◌, ◌-◌, ◌*◌, ◌≤◌, ◌<◌}
use native.Mathlib.Nat.{mul-zero, mul_comm}
use native.Mathlib.Omega.{arith}
use lib.ListN.{length, take}
use lib.Seq.{take-append-add}
use Rattle.octets.specs.Pieces.{piece_count}
use Rattle.digest.specs.Digest.{Digest, LawfulDigest}
use Rattle.pbkdf2.specs.Pbkdf2.{F, laid, pbkdf2}
use Rattle.pbkdf2.specs.Rfc8018.{Rfc8018}
use Rattle.octets.proofs.PiecesLaws.{piece_count_covers, piece_inside}
use Rattle.pbkdf2.proofs.Pbkdf2Laws.{str_laid}
use Rattle.pbkdf2.proofs.CountLaws.{block_is}

laid_same : (T U : ℕ → List ℕ) (n : ℕ) → ((i : ℕ) → 1 ≤ i → i ≤ n → T i ≡ U i) → laid T n ≡ laid U n
unfolding laid
laid_same T U zero h = refl
laid_same T U (suc n) h = ap₂ ◌++◌ (laid_same T U n (λ i a b. h i a (omega arith))) (h (suc n) (omega arith) (omega arith))

-- where blocks have bytes there is one
some_block : (D l n : ℕ) → 1 ≤ n → n ≤ D * l → 1 ≤ l
some_block D zero n h k = absurd (omega (arith, mul-zero D))
some_block D (suc l) n h k = omega arith

module _ (H : Digest) (L : LawfulDigest H) (p s : List ℕ) (c n : ℕ) where
  abbrev T : ℕ → List ℕ
  T = F H p s c

  -- k whole blocks, and the start of the next
  cropped : (k : ℕ) → suc k ≡ piece_count H.size n → take n (laid T (suc k)) ≡ laid T k ++ take (n - k * H.size) (T (suc k))
  unfolding laid
  cropped k e =
      let i : H.size * k < n = piece_inside H.size n k (omega (arith, L.at_least)) (omega arith) in
      let m : n ≡ length (laid T k) + (n - k * H.size) = omega (arith, (str_laid H L p s c k).len, mul_comm H.size k) in
      ap (λ (j : ℕ). take j (laid T k ++ T (suc k))) m ∙ take-append-add (laid T k) (T (suc k)) (n - k * H.size)

  key_is : 1 ≤ n → pbkdf2 H p s c n ≡ laid T (piece_count H.size n - 1) ++ take (n - (piece_count H.size n - 1) * H.size) (T (piece_count H.size n))
  unfolding pbkdf2
  key_is h =
      let l : ℕ = piece_count H.size n in
      let some : 1 ≤ l = some_block H.size l n h (piece_count_covers H.size n (omega (arith, L.at_least))) in
      let e : suc (l - 1) ≡ l = omega arith in
      ap (λ (j : ℕ). take n (laid T j)) (sym e) ∙ cropped (l - 1) e
      ∙ ap (λ (j : ℕ). laid T (l - 1) ++ take (n - (l - 1) * H.size) (T j)) e

pub rfc_8018 : (H : Digest) → LawfulDigest H → Rfc8018 H
unfolding pbkdf2
rfc_8018 H L =
    record {
      block_is = block_is H;
      key_is = key_is H L;
      blocks_give = λ p s c n T h. ap (take n) (laid_same T (F H p s c) (piece_count H.size n) h);
    }
