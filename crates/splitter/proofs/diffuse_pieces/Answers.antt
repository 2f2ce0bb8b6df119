-- `splitter::diffuse_pieces`: a piece more, and the end.
use Rattle.std.proofs.Common.{◌≡◌, ◌≤◌, ◌<◌, ◌∙◌, ◌-◌, ◌*◌, ℕ, min, length, refl, sym, ap, arith, rules}
use Rattle.octets.specs.Pieces.{piece_count}
use Rattle.octets.proofs.PiecesLaws.{piece_inside, piece_count_covers}
use Rattle.hash.specs.Hash.{digest_of}
use Rattle.hash.proofs.HashLaws.{lawful}
use Rattle.splitter.specs.Diffuse.{diffuse}
use Rattle.splitter.proofs.DiffuseLaws.{diffuse-turn, diffuse-end}
use Rattle.splitter.proofs.diffuse_pieces.Goals as goal

pub loop-i-init : goal.loop-i-init
unfolding diffuse
loop-i-init c =
    let z : c.size-size.result * 0 ≡ 0 = omega arith in
    (refl, rw z refl)

pub loop-i-preserved : goal.loop-i-preserved
loop-i-preserved c =
    let l = c.loop-i in
    let z = c.size-size in
    let a = c.args in
    let h = c.numbered_digest-h in
    let H = digest_of a.hash in
    let lh : length h.result ≡ 32 = search rules in
    let inside : z.result * l.i < length a.d.now = piece_inside z.result (length a.d.now) l.i (omega (arith, z.ensures.1)) (search rules) in (
      c.copy_into.auto.d ∙ l.invariant.0,
      diffuse-turn H (lawful a.hash) l.i z.result c.min-n.result l.d c.copy_into.new.d h.result (diffuse H a.d.now) z.ensures.0 (omega (arith, l.invariant.0))
          (c.min-n.ensures ∙ ap (λ (k : ℕ). min z.result (k - z.result * l.i)) (sym l.invariant.0)) (omega (arith, z.ensures.2)) c.copy_into.auto.d h.ensures
          c.copy_into.ensures l.invariant.1,
    )

pub returns : goal.returns
returns c =
    let l = c.loop-i in
    let z = c.size-size in
    let H = digest_of c.args.hash in
    let n = length c.args.d.now in
    let e : l.i ≡ piece_count z.result n = omega arith in
    let k : n ≤ z.result * l.i = rw e (piece_count_covers z.result n (omega (arith, z.ensures.1))) in
    diffuse-end H (lawful c.args.hash) (z.result * l.i) l.i l.d (diffuse H c.args.d.now) (omega (arith, l.invariant.0)) l.invariant.1
