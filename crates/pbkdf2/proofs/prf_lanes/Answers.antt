-- `pbkdf2::prf_lanes`: two compressions in each lane.
use Rattle.std.proofs.Common.{◌∙◌, ap}
use Rattle.sha_1.specs.Sha1.{compress_words}
use Rattle.lanes.specs.Lanes.{lane}
use Rattle.pbkdf2.specs.Words.{last_block, prf_words}
use Rattle.pbkdf2.proofs.prf_lanes.Goals as goal

pub returns : goal.returns
unfolding prf_words
returns c =
    let y = c.compress in
    let n = c.last_blocks-2 in
    let x = c.compress-h in
    let m = c.last_blocks in
    let a = c.args in (
      y.ensures.0,
      λ i h.
          y.ensures.1 i h
          ∙ ap (compress_words (lane i a.outer)) (n.ensures.1 i h ∙ ap last_block (x.ensures.1 i h ∙ ap (compress_words (lane i a.inner)) (m.ensures.1 i h))),
    )
