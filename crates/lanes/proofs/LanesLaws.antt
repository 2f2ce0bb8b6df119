-- Laws of words in four lanes: what a function does to its arrays is, in lane i, what SHA-1 does to lane i.
use Rattle.std.proofs.Common.{◌≡◌, ℕ, zero, suc, ◌+◌, ◌-◌, ◌*◌, ◌/◌, ◌%◌, ◌^◌, ◌<◌, ◌≤◌, List, [], ◌∷◌, ◌++◌, length, get_or, take, set, sym, refl, ap, ◌∙◌, ap₂, append_assoc, add_comm, add-one, arith, take_all}
use native.Mathlib.Nat.{mod-add-mod}
use lib.Bits.{bit_or, bit_xor, or_shifted, or_zero_r}
use lib.ListN.{length-map, get_or-map}
use Rattle.octets.specs.Octets.{xors, ◌⊕◌}
use Rattle.octets.specs.Splice.{splice}
use Rattle.octets.proofs.SpliceLaws.{take-splice}
use Rattle.digest.specs.Chaining.{◌⊞◌, digest, schedule}
use Rattle.digest.specs.Turns.{turns}
use Rattle.digest.proofs.ChainingLaws.{all_elements}
use Rattle.sha_1.specs.Sha1.{rotl, f, k, next, mix, rounds, add_words, compress_words}
use Rattle.sha_1.specs.Turns.{grow, turn}
use Rattle.sha_1.proofs.RoundLaws.{turn_more, four_twenties, turns-rounds}
use Rattle.lanes.specs.Lanes.{Each, lane, four_digests, taps, joined, round_of}

-- what holds in lanes 0, 1, 2 and 3 holds in each
pub each : (P : ℕ → Type 0) → P 0 → P 1 → P 2 → P 3 → Each P
each P a b c d zero h = a
each P a b c d (suc zero) h = b
each P a b c d (suc (suc zero)) h = c
each P a b c d (suc (suc (suc zero))) h = d
each P a b c d (suc (suc (suc (suc i)))) h = absurd (omega arith)

-- a word that is the same in each lane
abbrev pub four : ℕ → List ℕ
four x = x ∷ x ∷ x ∷ x ∷ []

pub lane-four : (x : ℕ) → Each (λ i. get_or (four x) i 0 ≡ x)
lane-four x = each (λ (i : ℕ). get_or (four x) i 0 ≡ x) refl refl refl refl

-- ---- sums

-- a rotation is the sum of its halves
rotl5_sum : (a : ℕ) → a < 2 ^ 32 → rotl 5 a ≡ (a * 2 ^ 5) % 2 ^ 32 + a / 2 ^ 27
rotl5_sum a h =
    let e : (a * 2 ^ 5) % 2 ^ 32 ≡ (a % 2 ^ 27) * 2 ^ 5 = omega arith in
    let l : a / 2 ^ 27 < 2 ^ 5 = omega arith in
    ap (λ (x : ℕ). bit_or x (a / 2 ^ 27)) e ∙ or_shifted (a % 2 ^ 27) 5 (a / 2 ^ 27) l ∙ ap (λ (x : ℕ). x + a / 2 ^ 27) (sym e)

-- sums modulo 2 ^ 32 in another order
sum_order : (x e c w g l : ℕ) → x ⊞ e ⊞ c ⊞ w ⊞ g ⊞ l ≡ (g + l) ⊞ x ⊞ e ⊞ c ⊞ w
sum_order x e c w g l =
    let n : ((((x + e) + c) + w) + g) + l ≡ ((((g + l) + x) + e) + c) + w = omega arith in
    simp mod-add-mod (ap (λ (y : ℕ). y % 2 ^ 32) n)

-- so that the halves of ROTL^5(a) may be added at the end, one by one
pub sum-halves : (x e c w a u r : ℕ) → a < 2 ^ 32 → u ≡ x ⊞ e ⊞ c ⊞ w ⊞ ((a * 2 ^ 5) % 2 ^ 32) → r ≡ u ⊞ (a / 2 ^ 27)
    → r ≡ rotl 5 a ⊞ x ⊞ e ⊞ c ⊞ w
sum-halves x e c w a u r h eu er =
    er ∙ ap (λ (n : ℕ). n ⊞ (a / 2 ^ 27)) eu ∙ sum_order x e c w ((a * 2 ^ 5) % 2 ^ 32) (a / 2 ^ 27)
    ∙ ap (λ (n : ℕ). n ⊞ x ⊞ e ⊞ c ⊞ w) (sym (rotl5_sum a h))

-- ---- lanes of lists

pub lane-at : (w : List (List ℕ)) (i t : ℕ) → get_or (lane i w) t 0 ≡ get_or (get_or w t []) i 0
lane-at w i t = get_or-map (λ (x : List ℕ). get_or x i 0) w t []

lane-set : (w : List (List ℕ)) (i t : ℕ) (x : List ℕ) → lane i (set w t x) ≡ set (lane i w) t (get_or x i 0)
lane-set [] i t x = refl
lane-set (y ∷ w) i zero x = refl
lane-set (y ∷ w) i (suc t) x = ap (λ (z : List ℕ). get_or y i 0 ∷ z) (lane-set w i t x)

-- the taps of a word of the schedule, read across the lanes
pub taps-lane : (w : List (List ℕ)) (t i x : ℕ)
    → x ≡ bit_xor (bit_xor (bit_xor (get_or (get_or w (t + 13) []) i 0) (get_or (get_or w (t + 8) []) i 0)) (get_or (get_or w (t + 2) []) i 0)) (get_or (get_or w t []) i 0)
    → x ≡ taps (lane i w) (16 + t)
taps-lane w t i x e =
    let n3 : 16 + t - 3 ≡ t + 13 = omega arith in
    let n8 : 16 + t - 8 ≡ t + 8 = omega arith in
    let n14 : 16 + t - 14 ≡ t + 2 = omega arith in
    let n16 : 16 + t - 16 ≡ t = omega arith in
    e ∙ rw (n3, n8, n14, n16, lane-at w i (t + 13), lane-at w i (t + 8), lane-at w i (t + 2), lane-at w i t)

-- five words, in lane i
pub lane-five : (i : ℕ) (s : List (List ℕ)) → length s ≡ 5
    → get_or (get_or s 0 []) i 0 ∷ get_or (get_or s 1 []) i 0 ∷ get_or (get_or s 2 []) i 0 ∷ get_or (get_or s 3 []) i 0 ∷ get_or (get_or s 4 []) i 0 ∷ [] ≡ lane i s
lane-five i s l = sym (ap (lane i) (all_elements [] 5 s l))

pub xor-lane : (i : ℕ) (s v r : List (List ℕ)) → length s ≡ 5 → length v ≡ 5 → length r ≡ 5
    → ((k : ℕ) → k < 5 → get_or (get_or r k []) i 0 ≡ bit_xor (get_or (get_or s k []) i 0) (get_or (get_or v k []) i 0))
    → lane i r ≡ xors (lane i s) (lane i v)
unfolding xors ◌⊕◌
xor-lane i s v r ls lv lr e =
    sym (lane-five i r lr)
    ∙ rw (e 0 (omega arith), e 1 (omega arith), e 2 (omega arith), e 3 (omega arith), e 4 (omega arith)) (ap₂ xors (lane-five i s ls) (lane-five i v lv))

-- ---- a round in lane i

module _ (i : ℕ) (v : List (List ℕ)) where
  pub step-lane : (q c : ℕ) (w h x s g l : List ℕ)
      → get_or h i 0 ≡ bit_or (get_or (get_or v 2 []) i 0) (get_or (get_or v 3 []) i 0)
      → get_or x i 0 ≡ f q (get_or (get_or v 1 []) i 0) (get_or h i 0) (get_or (get_or v 4 []) i 0)
      → get_or s i 0 ≡ rotl 5 (get_or (get_or v 0 []) i 0) ⊞ get_or x i 0 ⊞ get_or (get_or v 5 []) i 0 ⊞ c ⊞ get_or w i 0
      → get_or g i 0 ≡ get_or (get_or v 1 []) i 0 * 2 ^ 30 % 2 ^ 32 → get_or l i 0 ≡ get_or (get_or v 1 []) i 0 / 2 ^ 2
      → joined (lane i (s ∷ get_or v 0 [] ∷ g ∷ l ∷ h ∷ get_or v 4 [] ∷ []))
      ≡ round_of q c (get_or w i 0) (joined (lane i v))
  unfolding mix
  step-lane q c w h x s g l eh ex es eg el =
      rw (lane-at v i 0, lane-at v i 1, lane-at v i 2, lane-at v i 3, lane-at v i 4, lane-at v i 5, es, ex, eh, eg, el)

  pub joined_lane : (h : List ℕ) → get_or h i 0 ≡ bit_or (get_or (get_or v 2 []) i 0) (get_or (get_or v 3 []) i 0)
      → lane i (get_or v 0 [] ∷ get_or v 1 [] ∷ h ∷ get_or v 4 [] ∷ get_or v 5 [] ∷ []) ≡ joined (lane i v)
  joined_lane h eh = rw (lane-at v i 0, lane-at v i 1, lane-at v i 2, lane-at v i 3, lane-at v i 4, lane-at v i 5, eh)

-- five working words as six: c's second half is 0
abbrev pub halved : List (List ℕ) → List (List ℕ)
halved s = get_or s 0 [] ∷ get_or s 1 [] ∷ get_or s 2 [] ∷ four 0 ∷ get_or s 3 [] ∷ get_or s 4 [] ∷ []

pub halved-lane : (i : ℕ) (s : List (List ℕ)) → i < 4 → length s ≡ 5 → joined (lane i (halved s)) ≡ lane i s
halved-lane i s h l = rw (lane-four 0 i h, or_zero_r (get_or (get_or s 2 []) i 0)) (lane-five i s l)

-- a turn of the loop over the rounds, round p: the word before its rotation was made a round ago
pub turn-lane : (i : ℕ) (a : List ℕ × List ℕ) (w : List (List ℕ)) (v u : List ℕ) (g y : List ℕ) (t j p q c : ℕ)
    → (lane i w, v) ≡ turns turn a t j → p ≡ t + j → (t + j) / 20 ≡ q
    → get_or y i 0 ≡ taps (lane i w) (16 + (t + j)) → get_or g i 0 ≡ rotl 1 (get_or y i 0) → c ≡ k q
    → u ≡ round_of q c (get_or (get_or w p []) i 0) v
    → (lane i (set w (p + 16) g), u) ≡ turns turn a t (j + 1)
unfolding grow next
turn-lane i a w v u g y t j p q c e ep eq ey eg ec eu =
    let ew : lane i (set w (p + 16) g) ≡ grow (lane i w) (t + j) =
    lane-set w i (p + 16) g ∙ ap₂ (λ (n z : ℕ). set (lane i w) n z) (ap (λ (n : ℕ). n + 16) ep ∙ add_comm (t + j) 16) (eg ∙ ap (rotl 1) ey) in
    let xw : get_or (get_or w p []) i 0 ≡ get_or (lane i w) (t + j) 0 = sym (lane-at w i p) ∙ ap (λ (n : ℕ). get_or (lane i w) n 0) ep in
    turn_more a (lane i w) (lane i (set w (p + 16) g)) v u t j q (get_or (get_or w p []) i 0) (f q (get_or v 1 0) (get_or v 2 0) (get_or v 3 0)) c e eq ew xw refl ec eu

-- ---- a block in lane i

pub rounds-lane : (i : ℕ) (w wa wb wc wd s sa sb sc sd : List (List ℕ)) → length w ≡ 96
    → (lane i wa, lane i sa) ≡ turns turn (lane i w, lane i s) 0 20 → (lane i wb, lane i sb) ≡ turns turn (lane i wa, lane i sa) 20 20
    → (lane i wc, lane i sc) ≡ turns turn (lane i wb, lane i sb) 40 20 → (lane i wd, lane i sd) ≡ turns turn (lane i wc, lane i sc) 60 20
    → lane i sd ≡ rounds (schedule next (take 16 (lane i w)) 64) (lane i s) 80
rounds-lane i w wa wb wc wd s sa sb sc sd l ea eb ec ed =
    ap (λ (x : List ℕ × List ℕ). x.1)
    (four_twenties (lane i w, lane i s) (lane i wa, lane i sa) (lane i wb, lane i sb) (lane i wc, lane i sc) (lane i wd, lane i sd) ea eb ec ed)
    ∙ turns-rounds (take 16 (lane i w)) (lane i s) (lane i w) 80 (length-map w (λ (x : List ℕ). get_or x i 0) ∙ l) refl (omega arith)

pub added-lane : (i : ℕ) (s v r : List (List ℕ)) (m : List ℕ) → length r ≡ 5
    → ((k : ℕ) → k < 5 → get_or (get_or r k []) i 0 ≡ get_or (get_or s k []) i 0 ⊞ get_or (get_or v k []) i 0) → lane i v ≡ rounds (schedule next m 64) (lane i s) 80
    → lane i r ≡ compress_words (lane i s) m
unfolding compress_words add_words
added-lane i s v r m lr e ev =
    sym (lane-five i r lr)
    ∙ rw (
      ← ev,
      lane-at s i 0,
      lane-at s i 1,
      lane-at s i 2,
      lane-at s i 3,
      lane-at s i 4,
      lane-at v i 0,
      lane-at v i 1,
      lane-at v i 2,
      lane-at v i 3,
      lane-at v i 4,
      e 0 (omega arith),
      e 1 (omega arith),
      e 2 (omega arith),
      e 3 (omega arith),
      e 4 (omega arith),
    )

-- ---- the bytes of the lanes

-- those of the first n
unfoldable pub lane_digests : List (List ℕ) → ℕ → List ℕ
lane_digests t zero = []
lane_digests t (suc n) = lane_digests t n ++ digest (lane n t)

pub digests_more : (t : List (List ℕ)) (d d' b : List ℕ) (i : ℕ) → length b ≡ 20 → 20 * i + 20 ≤ length d → take (20 * i) d ≡ lane_digests t i
    → b ≡ digest (lane i t) → d' ≡ splice d (20 * i) b → take (20 * (i + 1)) d' ≡ lane_digests t (i + 1)
unfolding lane_digests
digests_more t d d' b i lb h e eb ed =
    let n : 20 * (i + 1) ≡ 20 * i + length b = omega arith in
    ap₂ take n ed ∙ take-splice d (20 * i) b (omega arith) ∙ ap₂ ◌++◌ e eb ∙ ap (lane_digests t) (sym (add-one i))

pub digests_end : (t : List (List ℕ)) (d : List ℕ) → length d ≡ 80 → take 80 d ≡ lane_digests t 4
    → d ≡ four_digests (lane 0 t) (lane 1 t) (lane 2 t) (lane 3 t)
unfolding lane_digests
digests_end t d l e = sym (take_all 80 d (omega arith)) ∙ e ∙ simp append_assoc
