-- `splitter::diffuse_64`: each lane has the digest of its piece.
use Rattle.std.proofs.Common.{◌≡◌, ◌∙◌, length, sym, ap₂, length-take-le, arith, rules}
use Rattle.sha_1.specs.Sha1.{initial, compress_words}
use Rattle.lanes.specs.Lanes.{Each, lane}
use Rattle.splitter.specs.Fours.{piece_block}
use Rattle.splitter.proofs.FoursLaws.{diffused}
use Rattle.splitter.proofs.diffuse_64.Goals as goal

pub slice_bounds-copy_from_slice-end : goal.slice_bounds-copy_from_slice-end
slice_bounds-copy_from_slice-end c =
    let l : length c.store-b.result ≡ 80 = search rules in
    sym (length-take-le 64 c.store-b.result (omega arith))

pub copy_from_slice-requires : goal.copy_from_slice-requires
copy_from_slice-requires c =
    let l : length c.store-b.result ≡ 80 = search rules in
    omega (arith, c.requires, length-take-le 64 c.store-b.result (omega arith))

pub returns : goal.returns
returns c =
    let b = c.store-b in
    let r = c.compress in
    let d = c.args.d.now in
    let lb : length b.result ≡ 80 = search rules in
    let e : Each (λ i. lane i r.result ≡ compress_words initial (piece_block d i)) =
    λ i h. r.ensures.1 i h ∙ ap₂ compress_words (c.broadcast.ensures i h ∙ c.start.ensures) (c.load_pieces.ensures.1 i h) in
    diffused d c.copy_from_slice.new.self b.result (lane 0 r.result) (lane 1 r.result) (lane 2 r.result) (lane 3 r.result) c.requires lb
    (e 0 (omega arith)) (e 1 (omega arith)) (e 2 (omega arith)) (e 3 (omega arith)) b.ensures c.copy_from_slice.ensures.after
