-- `splitter::load_pieces`: the 16 words in front are the four blocks.
use Rattle.std.proofs.Common.{◌∙◌, List, ℕ, length, take, ap, arith}
use Rattle.octets.proofs.SpliceLaws.{length-splice}
use Rattle.lanes.specs.Lanes.{lane}
use Rattle.splitter.proofs.FoursLaws.{loaded}
use Rattle.splitter.proofs.load_pieces.Goals as goal

pub returns : goal.returns
returns c =
    let w = c.args.w.now in
    let put = c.copy_into in (
      ap length put.ensures ∙ length-splice w 0 _ (omega arith) ∙ c.requires.0,
      λ i h.
          ap (λ (v : List (List ℕ)). take 16 (lane i v)) put.ensures
          ∙ loaded c.args.d.now c.across.result c.across-2.result c.across-3.result c.across-4.result c.across-5.result w c.be32_at-x.result i c.requires.1 h
          c.be32_at-x.ensures c.across.ensures c.across-2.ensures c.across-3.ensures c.across-4.ensures c.across-5.ensures,
    )
