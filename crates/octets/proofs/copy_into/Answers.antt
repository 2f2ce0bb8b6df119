-- `octets::copy_into` meets its contract.
use Rattle.std.proofs.Common.{◌≡◌, ◌+◌, arith, ap, ◌∙◌, slice_set, slice_index_or}
use native.Mathlib.Numerals.{add-one}
use lib.ListN.{length}
use lib.Seq.{paste-zero, paste-suc}
use Rattle.octets.proofs.SpliceLaws.{splice-paste}
use Rattle.octets.proofs.copy_into.Goals as goal

pub loop-i-init : goal.loop-i-init
loop-i-init g c = paste-zero c.args.d.now c.args.at c.args.b.now

pub loop-i-preserved : goal.loop-i-preserved
loop-i-preserved g c =
    let a = c.args in
    let i = c.loop-i.i in
    let x = c.index-b-i.result in
    ap (slice_set c.loop-i.d (a.at + i)) c.index-b-i.is ∙ ap (λ d. slice_set d (a.at + i) (slice_index_or a.b.now i x)) c.loop-i.invariant
    ∙ paste-suc a.d.now a.at a.b.now i x (omega arith) (omega arith) ∙ rw add-one

pub returns : goal.returns
returns g c = c.loop-i.invariant ∙ splice-paste c.args.d.now c.args.at c.args.b.now c.loop-i.i (omega arith)
