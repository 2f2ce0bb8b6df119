-- `pbkdf2::Source::put_rest`: a block more.
use Rattle.std.proofs.Common.{◌≡◌, ◌≤◌, ◌<◌, ◌∙◌, ◌+◌, ◌*◌, ◌^◌, ℕ, length, take, refl, sym, subst, arith, rules, length-take-le, mul-one, one-mul}
use Rattle.octets.specs.Pieces.{piece_count}
use Rattle.octets.proofs.PiecesLaws.{piece_inside}
use Rattle.hash.specs.Hash.{compression_of, digest_of, chain}
use Rattle.pbkdf2.specs.Pbkdf2.{laid}
use Rattle.pbkdf2.specs.Words.{block_bytes}
use Rattle.pbkdf2.proofs.Pbkdf2Laws.{more_made, few-made, few-blocks, blocks_more}
use Rattle.pbkdf2.proofs.FoursLaws.{one_more}
use Rattle.pbkdf2.proofs.Source.put_rest.Goals as goal

pub loop-j-init : goal.loop-j-init
loop-j-init c =
    let n = length c.args.out.now in
    (refl, c.requires.2, few-blocks c.size-d.result n c.size-d.ensures.1 c.requires.0, c.requires.3)

pub overflow_add-made : goal.overflow_add-made
overflow_add-made c =
    let t = c.block-t in
    let l = c.loop-j in
    let z = c.size-d in
    let count = c.args.self.now.count in
    let hc : count < 2 ^ 32 = search rules in
    let b : ℕ = piece_count z.result (length c.args.out.now) in
    let k : l.j + 1 ≤ b = omega arith in
    let f : count * (l.j + 1) < 2 ^ 64 = few-made count (l.j + 1) b hc k l.invariant.2 in
    omega (arith, more_made count l.j 1 l.made t.result.made l.invariant.3 (t.ensures.1 ∙ sym (one-mul count)))

pub loop-j-preserved : goal.loop-j-preserved
loop-j-preserved c =
    let q = c.put in
    let t = c.block-t in
    let l = c.loop-j in
    let z = c.size-d in
    let h = c.args.hash in
    let s = c.args.self.now in
    let C = compression_of h in
    let D = (digest_of h).size in
    let n = length c.args.out.now in
    let r = t.result.value in
    let lr : length r ≡ 32 = search rules in
    let lt : length (take D r) ≡ D * 1 = rw z.ensures.0 at (length-take-le z.result r (omega (arith, z.ensures.2))) ∙ sym (mul-one D) in
    let i : z.result * l.j < n = piece_inside z.result n l.j (omega (arith, z.ensures.1)) (search rules) in
    let k : D * l.j < length l.out = rw (z.ensures.0, ← l.invariant.0) at i in (
      q.auto.out ∙ l.invariant.0,
      blocks_more D (laid (block_bytes C (chain h s.key.inner) (chain h s.key.outer) s.salt.now s.count)) l.out q.new.out (take D r) l.j 1 lt k
          (one_more C (chain h s.key.inner) (chain h s.key.outer) s.salt.now s.count l.j (take D r) t.ensures.0) (rw z.ensures.0 at q.ensures) l.invariant.1,
      l.invariant.2,
      more_made s.count l.j 1 l.made t.result.made l.invariant.3 (t.ensures.1 ∙ sym (one-mul s.count)),
    )

pub returns : goal.returns
returns c =
    let l = c.loop-j in
    let z = c.size-d in
    let d : c.args.done.value ≤ piece_count z.result (length c.args.out.now) =
    subst (λ (i : ℕ). c.args.done.value ≤ piece_count i (length c.args.out.now)) (sym z.ensures.0) c.requires.1 in
    let e : l.j ≡ piece_count z.result (length c.args.out.now) = omega arith in
    (rw (e, z.ensures.0) at l.invariant.1, rw (e, z.ensures.0) at l.invariant.3)
