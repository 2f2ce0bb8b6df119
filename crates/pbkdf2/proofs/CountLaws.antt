-- How many values of HMAC PBKDF2 makes (02, "Wish 6. How long an opening takes"): as many as its blocks are the exclusive or of.
use mathlib.Core.Path.{◌≡◌, refl, sym, ap, ◌∙◌}
use mathlib.Core.List.{List, [], ◌∷◌, ◌++◌}
use Prim.Native.Nat.{ℕ, zero, suc, ◌+◌, ◌-◌, ◌*◌, ◌/◌, ◌≤◌}
use native.Mathlib.Nat.{mul-one, mul-suc, add-div_right, div-eq_of_lt}
use native.Mathlib.Omega.{arith}
use lib.ListN.{length, length-append}
use Rattle.octets.specs.Octets.{be32, xors}
use Rattle.octets.specs.Pieces.{piece_count}
use Rattle.digest.specs.Digest.{Digest}
use Rattle.hmac.specs.Hmac.{hmac}
use Rattle.pbkdf2.specs.Pbkdf2.{iterated, folded, F, iterates, xor_from, xor_all, hmac_values, values_made}

-- ---- the number of values

pub length-iterates : (f : List ℕ → List ℕ) (u : List ℕ) (n : ℕ) → length (iterates f u n) ≡ n
unfolding iterates
length-iterates f u zero = refl
length-iterates f u (suc n) = omega (arith, length-append (iterates f u n) (iterated f u n ∷ []), length-iterates f u n)

module _ (H : Digest) (p s : List ℕ) (c : ℕ) where
  length-values : (n : ℕ) → length (hmac_values H p s c n) ≡ c * n
  unfolding hmac_values
  length-values zero = omega arith
  length-values (suc n) =
      let u : List ℕ = hmac H p (s ++ be32 (suc n)) in
      omega (
        arith,
        length-append (hmac_values H p s c n) (iterates (hmac H p) u c),
        length-values n,
        length-iterates (hmac H p) u c,
        mul-suc c n,
      )

  -- the number is that of the values that the blocks of m bytes have
  pub values-made : (m : ℕ) → length (hmac_values H p s c (piece_count H.size m)) ≡ values_made H.size c m
  unfolding values_made
  values-made m = length-values (piece_count H.size m)

-- what fits into one block makes as many values as the count says
pub one_block : (D c m : ℕ) → 1 ≤ m → m ≤ D → values_made D c m ≡ c
unfolding values_made
one_block D c m h k =
    let a : m + (D - 1) ≡ (m - 1) + D = omega arith in
    let b : (m - 1) / D ≡ 0 = div-eq_of_lt (omega arith) in
    let e : (m - 1) / D + 1 ≡ 1 = omega arith in
    ap (λ (n : ℕ). c * n) (ap (λ (n : ℕ). n / D) a ∙ add-div_right (m - 1) (omega arith) ∙ e) ∙ mul-one c

-- ---- a block is their exclusive or

-- one value more
xor_from_more : (t : List ℕ) (us : List (List ℕ)) (v : List ℕ) → xor_from t (us ++ (v ∷ [])) ≡ xors (xor_from t us) v
unfolding xor_from
xor_from_more t [] v = refl
xor_from_more t (u ∷ us) v = xor_from_more (xors t u) us v

xor_all_more : (us : List (List ℕ)) (v : List ℕ) → 1 ≤ length us → xor_all (us ++ (v ∷ [])) ≡ xors (xor_all us) v
unfolding xor_all
xor_all_more [] v h = absurd (omega arith)
xor_all_more (u ∷ us) v h = xor_from_more u us v

folded_all : (f : List ℕ → List ℕ) (u : List ℕ) (n : ℕ) → folded f u n ≡ xor_all (iterates f u (suc n))
unfolding folded iterated iterates xor_all xor_from
folded_all f u zero = refl
folded_all f u (suc n) =
    ap (λ (t : List ℕ). xors t (iterated f u (suc n))) (folded_all f u n)
    ∙ sym (xor_all_more (iterates f u (suc n)) (iterated f u (suc n)) (omega (arith, length-iterates f u (suc n))))

-- T_i = U_1 xor .. xor U_c
pub block_is : (H : Digest) (p s : List ℕ) (c i : ℕ) → 1 ≤ c → F H p s c i ≡ xor_all (iterates (hmac H p) (hmac H p (s ++ be32 i)) c)
unfolding F
block_is H p s c i h =
    let e : suc (c - 1) ≡ c = omega arith in
    folded_all (hmac H p) (hmac H p (s ++ be32 i)) (c - 1) ∙ ap (λ (n : ℕ). xor_all (iterates (hmac H p) (hmac H p (s ++ be32 i)) n)) e
