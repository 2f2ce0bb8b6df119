-- Laws of PBKDF2 over any lawful digest: lengths and bytes, and the loops over its iterations and over the blocks of the derived key.
use mathlib.Core.Path.{◌≡◌, refl, sym, ap, ap₂, ◌∙◌}
use mathlib.Core.List.{List, ◌++◌}
use Prim.Native.Nat.{ℕ, zero, suc, ◌+◌, ◌-◌, ◌*◌, ◌^◌, ◌≤◌, ◌<◌, min}
use native.Mathlib.Nat.{mul-suc, mul-add, mul_comm, mul-le-mul_right}
use native.Mathlib.Omega.{arith}
use lib.ListN.{length, take, length-take}
use lib.Seq.{take_all, take-append-add}
use Rattle.octets.specs.Octets.{Str, be32, xors}
use Rattle.octets.specs.Splice.{splice}
use Rattle.octets.specs.Pieces.{piece_count}
use Rattle.octets.proofs.OctetsLaws.{str_cast, str_append, str_crop, str_xors}
use Rattle.octets.proofs.SpliceLaws.{length-splice, take-splice}
use Rattle.octets.proofs.PiecesLaws.{take_min, piece_count_covers, piece_inside}
use Rattle.digest.specs.Digest.{Digest, LawfulDigest}
use Rattle.hmac.specs.Hmac.{hmac}
use Rattle.hmac.proofs.HmacLaws.{str_hmac}
use Rattle.pbkdf2.specs.Pbkdf2.{iterated, folded, F, laid, pbkdf2}

-- ---- the loop over the iterations

-- of k values, each made by f from the one before, u is the last and t the exclusive or
pub record Values (f : List ℕ → List ℕ) (first : List ℕ) (k : ℕ) (u t : List ℕ) : Type 0 where
  pub some : 1 ≤ k
  pub last : u ≡ iterated f first (k - 1)
  pub sum : t ≡ folded f first (k - 1)

pub one_value : (f : List ℕ → List ℕ) (first : List ℕ) → Values f first 1 first first
unfolding iterated folded
one_value f first = record { some = omega arith; last = refl; sum = refl }

pub more_values : {f : List ℕ → List ℕ} {first u t v x : List ℕ} {k : ℕ} → Values f first k u t → v ≡ f u → x ≡ xors t v → Values f first (k + 1) v x
unfolding iterated folded
more_values {k = k} p ev ex =
    let n : (k + 1) - 1 ≡ suc (k - 1) = omega arith in
    record { some = omega arith; last = rw (n, ev, p.last); sum = rw (n, ex, p.sum, ev, p.last) }

-- ---- how many values are made

-- c for each of j blocks, and then for m more
pub more_made : (c j m x y : ℕ) → x ≡ c * j → y ≡ m * c → x + y ≡ c * (j + m)
more_made c j m x y ex ey = ap₂ ◌+◌ ex (ey ∙ mul_comm m c) ∙ sym (mul-add c j m)

-- they fit in 64 bits
pub few-made : (c j n : ℕ) → c < 2 ^ 32 → j ≤ n → n < 2 ^ 32 → c * j < 2 ^ 64
few-made c j n hc hj hn =
    let a : c * j ≤ (2 ^ 32 - 1) * j = mul-le-mul_right j (let e : c ≤ 2 ^ 32 - 1 = omega arith in e) in
    omega arith

-- ---- lengths and bytes

str_folded : (D : ℕ) (f : List ℕ → List ℕ) (u : List ℕ) (n : ℕ) → ((x : List ℕ) → Str D (f x)) → Str D u → Str D (folded f u n)
unfolding folded iterated
str_folded D f u zero hf h = h
str_folded D f u (suc n) hf h = str_xors (f (iterated f u n)) (str_folded D f u n hf h) (hf (iterated f u n)).byte

-- numbers of four bytes are enough for blocks of at least 20
few-blocks_by : (D n k : ℕ) → 20 ≤ D → n ≤ 20 * (2 ^ 32 - 1) → k ≤ piece_count D n → k < 2 ^ 32
few-blocks_by D n zero h l p = omega arith
few-blocks_by D n (suc j) h l p =
    let i : D * j < n = piece_inside D n j (omega arith) (omega arith) in
    let a : 20 * j ≤ D * j = mul-le-mul_right j h in
    omega arith

pub few-blocks : (D n : ℕ) → 20 ≤ D → n ≤ 20 * (2 ^ 32 - 1) → piece_count D n < 2 ^ 32
few-blocks D n h l = few-blocks_by D n (piece_count D n) h l (omega arith)

-- a turn of a loop over blocks of D bytes: T n are the first n of them, and of the m blocks t after the first j as much as there is room
-- for goes to its place in out
pub blocks_more : (D : ℕ) (T : ℕ → List ℕ) (out out' t : List ℕ) (j m : ℕ) → length t ≡ D * m → D * j < length out → T (j + m) ≡ T j ++ t
    → out' ≡ splice out (D * j) (take (length out - D * j) t) → take (D * j) out ≡ take (length out) (T j) → take (D * (j + m)) out' ≡ take (length out') (T (j + m))
blocks_more D T out out' t j m lt h et eo i =
    let q : ℕ = D * j in
    let r : ℕ = length out - q in
    let x : List ℕ = take r t in
    let a : D * (j + m) ≡ q + D * m = mul-add D j m in
    let lx : length x ≡ min r (length t) = length-take r t in
    let lT : length (T j) ≡ q = omega (arith, ap length i, length-take q out, length-take (length out) (T j)) in
    let lo : length out' ≡ length out = ap length eo ∙ length-splice out q x (omega arith) in
    let d : length out' ≡ length (T j) + r = omega arith in
    take_min (D * (j + m)) (q + length x) out' (omega arith) ∙ ap (take (q + length x)) eo ∙ take-splice out q x (omega arith)
    ∙ ap (λ (y : List ℕ). y ++ x) (i ∙ take_all (length out) (T j) (omega arith)) ∙ sym (ap₂ take d et ∙ take-append-add (T j) t r)

module _ (H : Digest) (L : LawfulDigest H) (p s : List ℕ) (c : ℕ) where
  str_F : (i : ℕ) → Str H.size (F H p s c i)
  unfolding F
  str_F i = str_folded H.size (hmac H p) (hmac H p (s ++ be32 i)) (c - 1) (str_hmac H L p) (str_hmac H L p (s ++ be32 i))

  pub str_laid : (n : ℕ) → Str (H.size * n) (laid (F H p s c) n)
  unfolding laid
  str_laid zero = record { len = omega arith; byte = tt }
  str_laid (suc n) = str_cast (sym (mul-suc H.size n)) (str_append (str_laid n) (str_F (suc n)))

  pub str_pbkdf2 : (n : ℕ) → Str n (pbkdf2 H p s c n)
  unfolding pbkdf2
  str_pbkdf2 n = str_crop n (str_laid (piece_count H.size n)) (piece_count_covers H.size n (omega (arith, L.at_least)))
