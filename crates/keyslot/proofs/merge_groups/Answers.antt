-- Merging what is left from the block d gives what is wanted.
use Rattle.std.proofs.Common.{◌≡◌, ℕ, ◌+◌, ◌-◌, ◌*◌, ◌/◌, ◌<◌, false, List, length, take, drop, refl, ap, subst, ◌∙◌, arith, rules}
use Rattle.std.proofs.lemmas.List.{length-replicate}
use Rattle.octets.specs.Splice.{part}
use Rattle.octets.proofs.SpliceLaws.{length_part}
use Rattle.hash.specs.Hash.{digest_of}
use Rattle.suite.specs.Split.{running, merge_from}
use Rattle.suite.specs.Units.{in_units}
use Rattle.splitter.specs.Diffuse.{diffuse}
use Rattle.splitter.proofs.StripesLaws.{merge-is}
use Rattle.xts.proofs.KeysLaws.{length_under}
use Rattle.keyslot.proofs.AreaLaws.{more_left, less_left, merge_more, merge-end}
use Rattle.keyslot.proofs.merge_groups.Goals as goal

pub loop-i-init : goal.loop-i-init
loop-i-init c =
    let a = c.args in
    let L = length c.clear.new.d in
    let e : L ≡ length a.d.now = search rules in
    let b : a.n * L ≡ length a.area.now = ap (λ (k : ℕ). a.n * k) e ∙ c.requires.1 in
    (c.requires.0, omega arith, length-replicate {A = ℕ} 16384 0, λ f g. refl)

pub overflow_sub-left : goal.overflow_sub-left
overflow_sub-left c =
    let l = c.loop-i in
    let p = c.per_group-per in
    let h : p.result < l.left = more_left (length c.clear.new.d) p.result l.left p.ensures (omega arith) in
    omega arith

pub loop-i-preserved : goal.loop-i-preserved
unfolding part
loop-i-preserved c =
    let a = c.args in
    let l = c.loop-i in
    let p = c.per_group-per in
    let L = length c.clear.new.d in
    let H = diffuse (digest_of a.hash) in
    let at : ℕ = 16384 * l.i in
    let x : List ℕ = take (at + 16384 - at) (drop at a.area.now) in
    let k : length x ≡ 16384 = length_part a.area.now at (at + 16384 - at) (omega arith) ∙ omega arith in
    let h : p.result < l.left = more_left L p.result l.left p.ensures (omega arith) in
    let ld : length l.d ≡ L = search rules in
    let z : 16384 * (l.i + 1) ≡ at + 16384 = omega arith in (
      omega arith,
      less_left L p.result l.left p.ensures (length a.area.now - at) h l.invariant.1 ∙ omega arith,
      search rules,
      λ f g. ap (λ (n : ℕ). merge_from H L c.add_stripes.new.d (l.left - p.result - 1) (in_units f (32 * (l.i + 1)) (drop n a.area.now))) z
          ∙ merge_more H L f at (32 * l.i) l.left l.d c.add_stripes.new.d a.area.now _ ld (l.invariant.3 f g) p.result (32 * (l.i + 1)) h p.ensures (omega arith)
          (length_under false a.keys.rounds a.keys.blocks.now a.keys.tweaks.now f g (32 * l.i) x (omega (arith, k)) ∙ k)
          (c.add_stripes.ensures ∙ ap (running H (length l.d) l.d p.result) (c.decipher.ensures f g)),
    )

pub returns : goal.returns
returns c = λ f g.
    let a = c.args in
    let l = c.loop-i in
    let d = c.clear.new.d in
    let H = diffuse (digest_of a.hash) in
    let N = length a.area.now in
    let i : ℕ = (N - 1) / 16384 in
    let e : length d ≡ length a.d.now = search rules in
    let ei : l.i ≡ i = omega arith in
    let ld : length l.d ≡ length d = search rules in
    let q : List ℕ = merge_from H (length d) d (a.n - 1) (in_units f 0 a.area.now) in
    let s = subst (λ (i : ℕ). merge_from H (length d) l.d (l.left - 1) (in_units f (32 * i) (drop (16384 * i) a.area.now)) ≡ q) ei (l.invariant.3 f g) in
    merge-is H (length a.d.now) a.n d _ (in_units f 0 a.area.now) e c.clear.ensures
    (merge-end H (length d) f (16384 * i) (32 * i) l.left l.d _ a.area.now q ld s
    (c.merge_from.ensures ∙ ap (merge_from H (length l.d) l.d (l.left - 1)) (c.decipher-2.ensures f g)))
