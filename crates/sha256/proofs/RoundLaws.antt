-- The schedule and the rounds in one pass over a ring (specs/Ring.antt) come to what they come to one after the other.
use Rattle.std.proofs.Common.{◌≡◌, ℕ, zero, suc, ◌+◌, ◌-◌, ◌%◌, ◌<◌, ◌≤◌, List, [], length, get_or, sym, refl, ap, ◌∙◌, ap₂, add-zero, add-one, zero-add, arith, length-set, get_or-set_other, get_or-set_same}
use native.Mathlib.Nat.{mod-add-mod}
use native.Mathlib.Decide.{dec_le}
use lib.Seq.{get_or_at}
use Rattle.digest.specs.Chaining.{◌⊞◌, schedule}
use Rattle.digest.specs.Turns.{turns}
use Rattle.digest.proofs.ChainingLaws.{length-schedule, schedule-at, turns-add}
use Rattle.sha256.specs.Sha256.{σ₀, σ₁, constants, next, mix, rounds}
use Rattle.sha256.specs.Ring.{grow, turn}

-- ---- the schedule

-- the word 16 + n, from the words of the whole schedule
schedule-next : (m : List ℕ) (n : ℕ) → length m ≡ 16 → n < 64
    → get_or (schedule next m 64) (16 + n) 0
    ≡ σ₁ (get_or (schedule next m 64) (n + 14) 0) ⊞ get_or (schedule next m 64) (n + 9) 0 ⊞ σ₀ (get_or (schedule next m 64) (n + 1) 0) ⊞ get_or (schedule next m 64) n 0
unfolding schedule next
schedule-next m n h l =
    let a : 16 + n - 2 ≡ n + 14 = omega arith in
    let b : 16 + n - 7 ≡ n + 9 = omega arith in
    let c : 16 + n - 15 ≡ n + 1 = omega arith in
    let d : 16 + n - 16 ≡ n = omega arith in
    let at : (t : ℕ) → t < 16 + n → get_or (schedule next m n) t 0 ≡ get_or (schedule next m 64) t 0 = λ t k. schedule-at next m n 64 t h k (omega arith) in
    sym (schedule-at next m (suc n) 64 (16 + n) h (omega arith) (omega arith))
    ∙ get_or_at (schedule next m n) (next (schedule next m n) (16 + n)) [] 0 (16 + n) (length-schedule next m n h)
    ∙ rw (a, b, c, d, at (n + 14) (omega arith), at (n + 9) (omega arith), at (n + 1) (omega arith), at n (omega arith))

-- ---- turns

-- one, made in place i
turn_is : (w w' s r : List ℕ) (t i : ℕ) → t % 16 ≡ i → w' ≡ grow w i → r ≡ mix (get_or constants t 0) (get_or w i 0) s → (w', r) ≡ turn t (w, s)
unfolding turn
turn_is w w' s r t i ei ew er = ap₂ (λ (x y : List ℕ). (x, y)) (ew ∙ ap (grow w) (sym ei)) (er ∙ rw ei)

-- eight of them one after the other, from place o on
pub turns-eight : {w₁ w₂ w₃ w₄ w₅ w₆ w₇ w₈ s₁ s₂ s₃ s₄ s₅ s₆ s₇ s₈ : List ℕ} (w₀ s₀ : List ℕ) (t o : ℕ) → t % 16 ≡ o → o ≤ 8
    → w₁ ≡ grow w₀ o → s₁ ≡ mix (get_or constants t 0) (get_or w₀ o 0) s₀
    → w₂ ≡ grow w₁ (o + 1) → s₂ ≡ mix (get_or constants (t + 1) 0) (get_or w₁ (o + 1) 0) s₁
    → w₃ ≡ grow w₂ (o + 2) → s₃ ≡ mix (get_or constants (t + 2) 0) (get_or w₂ (o + 2) 0) s₂
    → w₄ ≡ grow w₃ (o + 3) → s₄ ≡ mix (get_or constants (t + 3) 0) (get_or w₃ (o + 3) 0) s₃
    → w₅ ≡ grow w₄ (o + 4) → s₅ ≡ mix (get_or constants (t + 4) 0) (get_or w₄ (o + 4) 0) s₄
    → w₆ ≡ grow w₅ (o + 5) → s₆ ≡ mix (get_or constants (t + 5) 0) (get_or w₅ (o + 5) 0) s₅
    → w₇ ≡ grow w₆ (o + 6) → s₇ ≡ mix (get_or constants (t + 6) 0) (get_or w₆ (o + 6) 0) s₆
    → w₈ ≡ grow w₇ (o + 7) → s₈ ≡ mix (get_or constants (t + 7) 0) (get_or w₇ (o + 7) 0) s₇
    → (w₈, s₈) ≡ turns turn (w₀, s₀) t 8
unfolding turns
turns-eight {w₁} {w₂} {w₃} {w₄} {w₅} {w₆} {w₇} {w₈} {s₁} {s₂} {s₃} {s₄} {s₅} {s₆} {s₇} {s₈}
    w₀ s₀ t o ei le a₀ b₀ a₁ b₁ a₂ b₂ a₃ b₃ a₄ b₄ a₅ b₅ a₆ b₆ a₇ b₇ =
    let e₀ : (w₁, s₁) ≡ turn t (w₀, s₀) = turn_is w₀ w₁ s₀ s₁ t o ei a₀ b₀ in
    let e₁ : (w₂, s₂) ≡ turn (t + 1) (w₁, s₁) = turn_is w₁ w₂ s₁ s₂ (t + 1) (o + 1) (omega arith) a₁ b₁ in
    let e₂ : (w₃, s₃) ≡ turn (t + 2) (w₂, s₂) = turn_is w₂ w₃ s₂ s₃ (t + 2) (o + 2) (omega arith) a₂ b₂ in
    let e₃ : (w₄, s₄) ≡ turn (t + 3) (w₃, s₃) = turn_is w₃ w₄ s₃ s₄ (t + 3) (o + 3) (omega arith) a₃ b₃ in
    let e₄ : (w₅, s₅) ≡ turn (t + 4) (w₄, s₄) = turn_is w₄ w₅ s₄ s₅ (t + 4) (o + 4) (omega arith) a₄ b₄ in
    let e₅ : (w₆, s₆) ≡ turn (t + 5) (w₅, s₅) = turn_is w₅ w₆ s₅ s₆ (t + 5) (o + 5) (omega arith) a₅ b₅ in
    let e₆ : (w₇, s₇) ≡ turn (t + 6) (w₆, s₆) = turn_is w₆ w₇ s₆ s₇ (t + 6) (o + 6) (omega arith) a₆ b₆ in
    let e₇ : (w₈, s₈) ≡ turn (t + 7) (w₇, s₇) = turn_is w₇ w₈ s₇ s₈ (t + 7) (o + 7) (omega arith) a₇ b₇ in
    e₇ ∙ ap (turn (t + 7)) (e₆ ∙ ap (turn (t + 6)) (e₅ ∙ ap (turn (t + 5)) (e₄ ∙ ap (turn (t + 4)) (e₃ ∙ ap (turn (t + 3)) (e₂ ∙ ap (turn (t + 2))
    (e₁ ∙ ap (turn (t + 1)) (e₀ ∙ ap (λ (n : ℕ). turn n (w₀, s₀)) (sym (add-zero t)))))))))

-- one more, in the loop over eight
pub turn_more : (a b c : List ℕ × List ℕ) (t i : ℕ) → b ≡ turns turn a t i → c ≡ turn (t + i) b → c ≡ turns turn a t (i + 1)
unfolding turns
turn_more a b c t i eb ec = ec ∙ ap (turn (t + i)) eb ∙ ap (turns turn a t) (sym (add-one i))

-- eight more, after the first n
eight_more : (a x y : List ℕ × List ℕ) (n : ℕ) → x ≡ turns turn a 0 n → y ≡ turns turn x n 8 → y ≡ turns turn a 0 (n + 8)
eight_more a x y n p q =
    q ∙ ap (λ (z : List ℕ × List ℕ). turns turn z n 8) p ∙ ap (λ (k : ℕ). turns turn (turns turn a 0 n) k 8) (sym (zero-add n)) ∙ turns-add turn a 0 n 8

-- eight times eight
turns_all : (a b c d e f g h i : List ℕ × List ℕ) → b ≡ turns turn a 0 8 → c ≡ turns turn b 8 8 → d ≡ turns turn c 16 8 → e ≡ turns turn d 24 8
    → f ≡ turns turn e 32 8 → g ≡ turns turn f 40 8 → h ≡ turns turn g 48 8 → i ≡ turns turn h 56 8 → i ≡ turns turn a 0 64
turns_all a b c d e f g h i eb ec ed ee ef eg eh ei =
    eight_more a h i 56 (eight_more a g h 48 (eight_more a f g 40 (eight_more a e f 32 (eight_more a d e 24 (eight_more a c d 16 (eight_more a b c 8 eb ec) ed) ee) ef) eg) eh) ei

-- ---- the first t turns are the first t rounds

-- what holds after t turns for the block m, from the chaining words s: the ring has the words t to t + 15 of a
-- schedule that is 16 words longer than the rounds need
record Course (m s : List ℕ) (t : ℕ) (a : List ℕ × List ℕ) : Type 0 where
  size : length a.0 ≡ 16
  ring : (j : ℕ) → j < 16 → get_or a.0 ((t + j) % 16) 0 ≡ get_or (schedule next m 64) (t + j) 0
  state : a.1 ≡ rounds (schedule next m 48) s t

length-grow : (w : List ℕ) (i : ℕ) → length (grow w i) ≡ length w
unfolding grow
length-grow w i = length-set w i _

-- the place of word t, now of word t + 16, and the others
grow-same : (m w : List ℕ) (t : ℕ) → length m ≡ 16 → t < 64 → length w ≡ 16 → ((j : ℕ) → j < 16 → get_or w ((t + j) % 16) 0 ≡ get_or (schedule next m 64) (t + j) 0)
    → get_or (grow w (t % 16)) (t % 16) 0 ≡ get_or (schedule next m 64) (16 + t) 0
unfolding grow
grow-same m w t hm h l r =
    let a : (t % 16 + 14) % 16 ≡ (t + 14) % 16 = mod-add-mod t 16 14 in
    let b : (t % 16 + 9) % 16 ≡ (t + 9) % 16 = mod-add-mod t 16 9 in
    let c : (t % 16 + 1) % 16 ≡ (t + 1) % 16 = mod-add-mod t 16 1 in
    let d : get_or w (t % 16) 0 ≡ get_or (schedule next m 64) t 0 = ap (λ (k : ℕ). get_or w (k % 16) 0) (sym (add-zero t))
    ∙ r 0 (omega arith) ∙ ap (λ (k : ℕ). get_or (schedule next m 64) k 0) (add-zero t) in
    get_or-set_same w (t % 16) _ 0 (omega arith)
    ∙ rw (a, b, c, r 14 (omega arith), r 9 (omega arith), r 1 (omega arith), d) (sym (schedule-next m t hm h))

grow-other : (w : List ℕ) (i j : ℕ) → (j ≡ i → ⊥) → get_or (grow w i) j 0 ≡ get_or w j 0
unfolding grow
grow-other w i j n = get_or-set_other w i j _ 0 n

ring_more : (m w : List ℕ) (t : ℕ) → length m ≡ 16 → t < 64 → length w ≡ 16 → ((j : ℕ) → j < 16 → get_or w ((t + j) % 16) 0 ≡ get_or (schedule next m 64) (t + j) 0)
    → (j : ℕ) → j < 16 → Dec (j ≤ 14) → get_or (grow w (t % 16)) ((suc t + j) % 16) 0 ≡ get_or (schedule next m 64) (suc t + j) 0
ring_more m w t hm h l r j hj (no n) =
    let a : (suc t + j) % 16 ≡ t % 16 = omega arith in
    let b : suc t + j ≡ 16 + t = omega arith in
    ap (λ (k : ℕ). get_or (grow w (t % 16)) k 0) a ∙ grow-same m w t hm h l r ∙ ap (λ (k : ℕ). get_or (schedule next m 64) k 0) (sym b)
ring_more m w t hm h l r j hj (yes g) =
    let a : suc t + j ≡ t + suc j = omega arith in
    ap (λ (k : ℕ). get_or (grow w (t % 16)) (k % 16) 0) a
    ∙ grow-other w (t % 16) ((t + suc j) % 16) (λ e. omega arith)
    ∙ r (suc j) (omega arith) ∙ ap (λ (k : ℕ). get_or (schedule next m 64) k 0) (sym a)

turn-course : (m s : List ℕ) (t : ℕ) (a : List ℕ × List ℕ) → length m ≡ 16 → t < 64 → Course m s t a → Course m s (suc t) (turn t a)
unfolding turn rounds
turn-course m s t a hm h p =
    let x : get_or a.0 (t % 16) 0 ≡ get_or (schedule next m 48) t 0 =
    ap (λ (k : ℕ). get_or a.0 (k % 16) 0) (sym (add-zero t)) ∙ p.ring 0 (omega arith) ∙ ap (λ (k : ℕ). get_or (schedule next m 64) k 0) (add-zero t)
    ∙ schedule-at next m 64 48 t hm (omega arith) (omega arith) in
    record {
      size = length-grow a.0 (t % 16) ∙ p.size;
      ring = λ j hj. ring_more m a.0 t hm h p.size p.ring j hj (dec_le j 14);
      state = ap₂ (mix (get_or constants t 0)) x p.state;
    }

first-words : (m : List ℕ) (j : ℕ) → length m ≡ 16 → j < 16 → get_or m j 0 ≡ get_or (schedule next m 64) j 0
unfolding schedule
first-words m j h k = schedule-at next m 0 64 j h (omega arith) (omega arith)

course : (m s : List ℕ) (t : ℕ) → length m ≡ 16 → t ≤ 64 → Course m s t (turns turn (m, s) 0 t)
unfolding turns rounds
course m s zero hm h =
    record {
      size = hm;
      ring = λ j hj.
          let a : (0 + j) % 16 ≡ j = omega arith in
          ap (λ (k : ℕ). get_or m k 0) a ∙ first-words m j hm hj ∙ ap (λ (k : ℕ). get_or (schedule next m 64) k 0) (sym (zero-add j));
      state = refl;
    }
course m s (suc t) hm h =
    rw (zero-add t) (turn-course m s t (turns turn (m, s) 0 t) hm h (course m s t hm (omega arith)))

-- so that eight times eight turns are the 64 rounds
pub rounds_are : (m s : List ℕ) (b c d e f g h i : List ℕ × List ℕ) → length m ≡ 16 → b ≡ turns turn (m, s) 0 8 → c ≡ turns turn b 8 8 → d ≡ turns turn c 16 8
    → e ≡ turns turn d 24 8 → f ≡ turns turn e 32 8 → g ≡ turns turn f 40 8 → h ≡ turns turn g 48 8 → i ≡ turns turn h 56 8 → i.1 ≡ rounds (schedule next m 48) s 64
rounds_are m s b c d e f g h i hm eb ec ed ee ef eg eh ei =
    ap (λ (x : List ℕ × List ℕ). x.1) (turns_all (m, s) b c d e f g h i eb ec ed ee ef eg eh ei) ∙ (course m s 64 hm (omega arith)).state
