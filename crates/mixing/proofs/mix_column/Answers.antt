-- The planes are stored from bit 7 down.
use Rattle.std.proofs.Common.{List, ℕ, ◌+◌, ◌∙◌, refl, ap, arith, rules}
use mathlib.Core.Path.{ap₂}
use Rattle.bitslice.specs.Words.{xor_words}
use Rattle.aes.specs.Columns.{elems, at4, mix_of}
use Rattle.mixing.specs.Rows.{sum_of, next_sums, mixed_of}
use Rattle.mixing.proofs.ColumnLaws.{bit_rows, next-plain, none_stored, not-stored, more_stored, read-stored, column-done}
use Rattle.mixing.proofs.mix_column.Goals as goal

-- a bit of the field's polynomial, from the rows of the bit below it, of bit 7 and its own
abbrev reduced : List ℕ → List ℕ → List ℕ → List ℕ
reduced b t a = mixed_of (sum_of (next_sums b) (next_sums t)) a

pub returns : goal.returns
unfolding mix_of xor_words
returns c =
    let k = c.args.c in
    let h = c.requires in
    let q = c.args.q.now in
    let x = elems at4 k 0 32 q in
    let y = mix_of x in
    let none = none_stored k h q y (search rules) in
    let e7 = not-stored k h q y 0 0 (k + 112) c.rows-a7.result q (omega arith) (omega arith) refl c.rows-a7.ensures none in
    let e6 = read-stored k h q y 0 1 c.mix_rows-a6.ensures (omega arith) (omega arith) refl (omega arith) (ap₂ mixed_of (next-plain (bit_rows 6 x)) e7) none in
    let e5 = read-stored k h q y 1 2 c.mix_rows-a5.ensures (omega arith) (omega arith) refl (omega arith) (ap₂ mixed_of (next-plain (bit_rows 5 x)) e6.0) e6.1 in
    let e4 = read-stored k h q y 2 3 c.mix_rows-a4.ensures (omega arith) (omega arith) refl (omega arith) (ap₂ mixed_of (next-plain (bit_rows 4 x)) e5.0) e5.1 in
    let e3 = read-stored k h q y 3 4 c.mix_rows-a3.ensures (omega arith) (omega arith) refl (omega arith) (ap₂ (reduced (bit_rows 3 x)) e7 e4.0) e4.1 in
    let e2 = read-stored k h q y 4 5 c.mix_rows-a2.ensures (omega arith) (omega arith) refl (omega arith) (ap₂ (reduced (bit_rows 2 x)) e7 e3.0) e3.1 in
    let e1 = read-stored k h q y 5 6 c.mix_rows-a1.ensures (omega arith) (omega arith) refl (omega arith) (ap₂ mixed_of (next-plain (bit_rows 1 x)) e2.0) e2.1 in
    let e0 = read-stored k h q y 6 7 c.mix_rows-a0.ensures (omega arith) (omega arith) (omega arith) (omega arith) (ap₂ (reduced (bit_rows 0 x)) e7 e1.0) e1.1 in
    let z = c.mixed.ensures ∙ ap₂ mixed_of (c.next_sums.ensures ∙ ap next_sums e7) e0.0 in
    column-done mix_of k h q c.put_rows.new.q (λ x. refl)
    (more_stored k h q y 7 k c.mixed.result c.mix_rows-a0.new.q c.put_rows.new.q (omega arith) (omega arith) z c.put_rows.ensures e0.1)
