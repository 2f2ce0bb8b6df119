-- `pbkdf2::last_blocks`: the 16 words stand in front.
use Rattle.std.proofs.Common.{◌≡◌, ◌∙◌, ℕ, List, length, take, ap, arith, rules}
use Rattle.octets.proofs.SpliceLaws.{length-splice}
use Rattle.lanes.specs.Lanes.{lane}
use Rattle.pbkdf2.proofs.FoursLaws.{last-lane}
use Rattle.pbkdf2.proofs.last_blocks.Goals as goal

pub returns : goal.returns
returns c =
    let l : length c.args.u ≡ 5 = search rules in (
      ap length c.copy_into.ensures ∙ length-splice c.args.w.now 0 _ (omega arith) ∙ c.requires,
      λ i h. ap (λ (x : List (List ℕ)). take 16 (lane i x)) c.copy_into.ensures ∙ last-lane i c.args.w.now c.args.u h l,
    )
