-- `pbkdf2::Source::put_fours`: four blocks more.
use Rattle.std.proofs.Common.{◌≡◌, ◌≤◌, ◌<◌, ◌∙◌, ◌+◌, ◌*◌, ◌^◌, ℕ, length, take, refl, sym, arith, rules, mul-zero}
use lib.Seq.{take-nil}
use Rattle.octets.specs.Pieces.{piece_count}
use Rattle.sha_1.specs.Sha1.{compression}
use Rattle.pbkdf2.specs.Pbkdf2.{laid}
use Rattle.pbkdf2.specs.Words.{block_bytes}
use Rattle.pbkdf2.proofs.Pbkdf2Laws.{more_made, few-made, few-blocks, blocks_more}
use Rattle.pbkdf2.proofs.FoursLaws.{four_more}
use Rattle.pbkdf2.proofs.Source.put_fours.Goals as goal

pub loop-g-init : goal.loop-g-init
unfolding laid
loop-g-init c = (refl, sym (take-nil (length c.args.out.now)), sym (mul-zero c.args.self.now.count))

pub overflow_add-made : goal.overflow_add-made
overflow_add-made c =
    let t = c.four_blocks-t in
    let l = c.loop-g in
    let count = c.args.self.now.count in
    let out = c.args.out.now in
    let hc : count < 2 ^ 32 = search rules in
    let n : ℕ = piece_count 20 (length out) in
    let k : 4 * l.g + 4 ≤ n = omega arith in
    let f : count * (4 * l.g + 4) < 2 ^ 64 = few-made count (4 * l.g + 4) n hc k (few-blocks 20 (length out) (omega arith) c.requires.0) in
    omega (arith, more_made count (4 * l.g) 4 l.made t.result.made l.invariant.2 t.ensures.1)

pub loop-g-preserved : goal.loop-g-preserved
loop-g-preserved c =
    let q = c.put in
    let t = c.four_blocks-t in
    let l = c.loop-g in
    let s = c.args.self.now in
    let b = t.result.value in
    let lt : length b ≡ 80 = search rules in
    let m : 4 * (l.g + 1) ≡ 4 * l.g + 4 = omega arith in (
      q.auto.out ∙ l.invariant.0,
      rw m
          (blocks_more 20 (laid (block_bytes compression (take 5 s.key.inner) (take 5 s.key.outer) s.salt.now s.count)) l.out q.new.out b (4 * l.g) 4 lt (omega arith)
          (four_more (take 5 s.key.inner) (take 5 s.key.outer) s.salt.now s.count (4 * l.g) b t.ensures.0) q.ensures l.invariant.1),
      rw m (more_made s.count (4 * l.g) 4 l.made t.result.made l.invariant.2 t.ensures.1),
    )

pub returns : goal.returns
returns c =
    let l = c.loop-g in
    let e : l.g ≡ c.args.groups = omega arith in
    (rw e at l.invariant.1, rw e at l.invariant.2)
