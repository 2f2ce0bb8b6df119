-- `pbkdf2::Source::put_lanes`: what each arm owes, with the hash that it is.
use Rattle.std.proofs.Common.{◌≡◌, ◌≤◌, ◌*◌, ℕ, List, length, sym, subst, arith, mul-zero}
use lib.Seq.{take-nil}
use Rattle.octets.specs.Pieces.{piece_count}
use Rattle.hash.specs.declared.Hash.{Hash}
use Rattle.hash.specs.Hash.{compression_of, digest_of, chain}
use Rattle.pbkdf2.specs.Pbkdf2.{laid}
use Rattle.pbkdf2.specs.Words.{Holds}
use Rattle.pbkdf2.proofs.Source.put_lanes.Goals as goal

-- what each arm owes, where the hash is h
abbrev Done : List ℕ → List ℕ → List ℕ → ℕ → ℕ → ℕ → ℕ → List ℕ → Hash → Type 0
Done inner outer salt count n done made out h =
    (done ≤ piece_count (digest_of h).size n) × Holds (compression_of h) (chain h inner) (chain h outer) salt count done out × (made ≡ count * done)

pub returns-in-Sha1 : goal.returns-in-Sha1
returns-in-Sha1 c =
    let q = c.put_fours-made in
    let s = c.args.self.now in
    subst (Done s.key.inner s.key.outer s.salt.now s.count (length c.args.out.now) _ q.result q.new.out) (sym c.in-Sha1.is) (omega arith, q.ensures.0, q.ensures.1)

pub returns-in-Sha256 : goal.returns-in-Sha256
unfolding laid
returns-in-Sha256 c =
    let s = c.args.self.now in
    subst (Done s.key.inner s.key.outer s.salt.now s.count (length c.args.out.now) 0 0 c.args.out.now) (sym c.in-Sha256.is)
    (omega arith, sym (take-nil (length c.args.out.now)), sym (mul-zero s.count))
