-- `pbkdf2::pbkdf2`: in lanes, then one by one, all blocks are in out, and their values were made.
use Rattle.std.proofs.Common.{◌≡◌, ◌∙◌, ◌*◌, ℕ, length, sym, ap}
use Rattle.octets.specs.Pieces.{piece_count}
use Rattle.hash.specs.Hash.{digest_of, chain}
use Rattle.pbkdf2.specs.Pbkdf2.{pbkdf2, values_made}
use Rattle.pbkdf2.proofs.FoursLaws.{all_blocks}
use Rattle.pbkdf2.proofs.pbkdf2.Goals as goal

pub returns : goal.returns
unfolding values_made
returns c =
    let r = c.put_rest in
    let f = c.put_lanes-done in
    let k = c.prepare in
    let a = c.args in
    let h = a.hash in
    let l : length r.new.out ≡ length f.new.out = r.auto.out in
    let n : length r.new.out ≡ length a.out.now = l ∙ f.auto.out in (
      all_blocks h a.password.now a.salt.now (chain h k.result.inner) (chain h k.result.outer) a.count k.ensures.0 k.ensures.1
          r.new.out (piece_count (digest_of h).size (length f.new.out)) (ap (piece_count (digest_of h).size) (sym l)) r.ensures.0
          ∙ ap (pbkdf2 (digest_of h) a.password.now a.salt.now a.count) n,
      r.ensures.1 ∙ ap (λ (x : ℕ). a.count * piece_count (digest_of h).size x) f.auto.out,
    )
