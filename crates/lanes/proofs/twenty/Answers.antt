-- Each time round is a turn more in each lane.
use Rattle.std.proofs.Common.{◌≡◌, ℕ, ◌+◌, ◌*◌, ◌/◌, ◌<◌, List, length, get_or, set, refl, ap, ◌∙◌, arith, rules}
use Rattle.digest.specs.Turns.{turns}
use Rattle.sha_1.specs.Sha1.{rotl, k}
use Rattle.sha_1.specs.Turns.{turn}
use Rattle.sha_1.specs.Quarters.{number}
use Rattle.lanes.specs.Lanes.{Each, lane, taps, joined}
use Rattle.lanes.proofs.LanesLaws.{turn-lane, halved, halved-lane, joined_lane}
use Rattle.lanes.proofs.twenty.Goals as goal

pub loop-j-init : goal.loop-j-init
unfolding turns
loop-j-init c =
    let a = c.args in
    let e : 20 * c.number-n.result ≡ 20 * number a.q + 0 = omega (arith, c.number-n.ensures.0) in (
      omega arith,
      refl,
      λ i h. refl,
      λ i h. c.taps_at-y.ensures i h ∙ ap (λ (n : ℕ). taps (lane i a.w.now) (16 + n)) e,
    )

pub loop-j-preserved : goal.loop-j-preserved
loop-j-preserved c =
    let a = c.args in
    let l = c.loop-j in
    let g = c.from_fn.result in
    let q : ℕ = number a.q in
    let n : ℕ = c.number-n.result in
    let en : n ≡ q = c.number-n.ensures.0 in
    let t : ℕ = 20 * q in
    let et : 20 * n + l.j ≡ t + l.j = omega (arith, en) in
    let em : 20 * n + l.j + 1 ≡ t + (l.j + 1) = omega (arith, en) in
    let eq : (t + l.j) / 20 ≡ q = omega arith in
    let eg : Each (λ i. get_or g i 0 ≡ rotl 1 (get_or l.y i 0)) = search rules in
    let ec : c.round_constant-c.result ≡ k q = c.round_constant-c.ensures ∙ ap k en in
    let ey : (i : ℕ) → i < 4 → get_or l.y i 0 ≡ taps (lane i l.w) (16 + (t + l.j)) = l.invariant.3 in
    let w = set l.w (20 * n + l.j + 16) g in (
      omega arith,
      search rules,
      λ i h.
          turn-lane i (lane i a.w.now, joined (lane i (halved a.s))) l.w (joined (lane i l.v)) (joined (lane i c.step-u.result)) g l.y
          t l.j (20 * n + l.j) q c.round_constant-c.result (l.invariant.2 i h) et eq (ey i h) (eg i h) ec (c.step-u.ensures i h),
      λ i h. c.taps_at-z.ensures i h ∙ ap (λ (m : ℕ). taps (lane i w) (16 + m)) em,
    )

pub returns : goal.returns
returns c i h =
    let a = c.args in
    let l = c.loop-j in
    let t : ℕ = 20 * number a.q in
    let ls : length a.s ≡ 5 = search rules in
    let e : l.j ≡ 20 = omega arith in
    let r : (lane i l.w, joined (lane i l.v)) ≡ turns turn (lane i a.w.now, joined (lane i (halved a.s))) t 20 = rw e at (l.invariant.2 i h) in
    ap (λ (x : List ℕ). (lane i l.w, x)) (joined_lane i l.v c.or_word.result (c.or_word.ensures i h)) ∙ r
    ∙ ap (λ (x : List ℕ). turns turn (lane i a.w.now, x) t 20) (halved-lane i a.s h ls)
