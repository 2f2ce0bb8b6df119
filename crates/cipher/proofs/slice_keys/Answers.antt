-- Each round key before i is sliced.
use Rattle.std.proofs.Common.{◌≡◌, ℕ, ◌+◌, ◌-◌, ◌*◌, List, ◌++◌, length, take, drop, ap, ◌∙◌, arith, rules}
use Rattle.octets.proofs.SpliceLaws.{splice-part}
use Rattle.cipher.proofs.RoundLaws.{sliced_none, sliced_more}
use Rattle.cipher.proofs.slice_keys.Goals as goal

pub loop-i-init : goal.loop-i-init
loop-i-init c = sliced_none c.args.w.now _

pub loop-i-preserved : goal.loop-i-preserved
loop-i-preserved c =
    let l = c.loop-i in
    let x = c.spread-q in
    let y = c.copy_from_slice in
    let a : ℕ = l.i * 128 in
    let lk : length l.k ≡ 1920 = c.spread-q.array_long in
    let lx : length x.result ≡ 128 = search rules in
    sliced_more c.args.w.now l.k x.result _ l.i (omega arith) lx x.ensures l.invariant
    (ap (λ (z : List ℕ). take a l.k ++ (z ++ drop (a + 128 - a) (drop a l.k))) y.ensures.after ∙ splice-part l.k x.result a (a + 128) (omega arith) (omega arith))

pub returns : goal.returns
returns c = let e : c.loop-i.i ≡ c.args.m = omega arith in rw e at c.loop-i.invariant
