-- The planes are stored from bit 7 down.
use Rattle.std.proofs.Common.{List, ℕ, ◌+◌, ◌∙◌, refl, ap, arith, rules}
use mathlib.Core.Path.{ap₂}
use Rattle.bitslice.specs.Words.{xor_words}
use Rattle.aes.specs.Columns.{elems, at4, premix_of}
use Rattle.mixing.specs.Rows.{sum_of, cross_sums}
use Rattle.mixing.proofs.ColumnLaws.{sum-assoc, bit_rows, cross-plain, none_stored, not-stored, more_stored, read-stored, column-done}
use Rattle.mixing.proofs.premix_column.Goals as goal

-- a bit, from the rows of the second bit below it, its own and the sums that the doublings add
abbrev reduced : List ℕ → List ℕ → List ℕ → List ℕ
reduced b a t = sum_of a (sum_of (cross_sums b) t)

pub returns : goal.returns
unfolding premix_of xor_words
returns c =
    let k = c.args.c in
    let h = c.requires in
    let q = c.args.q.now in
    let x = elems at4 k 0 32 q in
    let y = premix_of x in
    let none = none_stored k h q y (search rules) in
    let e7 = not-stored k h q y 0 0 (k + 112) c.rows-a7.result q (omega arith) (omega arith) refl c.rows-a7.ensures none in
    let e6 = not-stored k h q y 0 1 (k + 96) c.rows-a6.result q (omega arith) (omega arith) refl c.rows-a6.ensures none in
    let t7 = c.cross_sums-s7.ensures ∙ ap cross_sums e7 in
    let t6 = c.cross_sums-s6.ensures ∙ ap cross_sums e6 in
    let tt = c.sum-both.ensures ∙ ap₂ sum_of t7 t6 in
    let e5 = read-stored k h q y 0 2 c.premix_rows-a5.ensures (omega arith) (omega arith) refl (omega arith) (ap₂ sum_of e7 (cross-plain (bit_rows 5 x))) none in
    let e4 = read-stored k h q y 1 3 c.premix_rows-a4.ensures (omega arith) (omega arith) refl (omega arith) (ap₂ sum_of e6 (cross-plain (bit_rows 4 x))) e5.1 in
    let e3 = read-stored k h q y 2 4 c.premix_rows-a3.ensures (omega arith) (omega arith) refl (omega arith) (ap₂ (reduced (bit_rows 3 x)) e5.0 t7) e4.1 in
    let e2 = read-stored k h q y 3 5 c.premix_rows-a2.ensures (omega arith) (omega arith) refl (omega arith)
    (ap₂ (reduced (bit_rows 2 x)) e4.0 tt ∙ ap (sum_of (bit_rows 4 x)) (sum-assoc (cross_sums (bit_rows 2 x)) (cross_sums (bit_rows 7 x)) (cross_sums (bit_rows 6 x)))) e3.1 in
    let e1 = read-stored k h q y 4 6 c.premix_rows-a1.ensures (omega arith) (omega arith) refl (omega arith) (ap₂ (reduced (bit_rows 1 x)) e3.0 t6) e2.1 in
    let e0 = read-stored k h q y 5 7 c.premix_rows-a0.ensures (omega arith) (omega arith) (omega arith) (omega arith) (ap₂ (reduced (bit_rows 0 x)) e2.0 t7) e1.1 in
    let z1 = c.sum.ensures ∙ ap₂ sum_of e1.0 tt in
    let z0 = c.sum-2.ensures ∙ ap₂ sum_of e0.0 t6 in
    let d1 = more_stored k h q y 6 (k + 16) c.sum.result c.premix_rows-a0.new.q c.put_rows.new.q (omega arith) refl z1 c.put_rows.ensures e0.1 in
    let d0 = more_stored k h q y 7 k c.sum-2.result c.put_rows.new.q c.put_rows-2.new.q (omega arith) (omega arith) z0 c.put_rows-2.ensures d1 in
    column-done premix_of k h q c.put_rows-2.new.q (λ x. refl) d0
