use mathlib.Core.Path.{◌≡◌, ap, ◌∙◌}
use mathlib.Core.List.{List}
use Prim.Native.Nat.{ℕ, ◌^◌, ◌<◌}
use native.Mathlib.Omega.{arith}
use lib.ListN.{length}
use Rattle.std.proofs.Common.{rules}
use Rattle.profiles.specs.Suites.{aes_xts}
use Rattle.header.specs.Records.{facts_in}
use Rattle.header.proofs.AnswerLaws.{bytes_same}
use Rattle.header.proofs.SoundLaws.{sound}
use Rattle.slots.proofs.AreaLaws.{matches_is}
use Rattle.slots.proofs.CostLaws.{few-values, checksum-counted}
use Rattle.slots.proofs.key_matches.Goals as goal

pub pbkdf2-made-requires : goal.pbkdf2-made-requires
pbkdf2-made-requires c =
    let m = c.args.drive.image.now in
    let l : length c.checksum_salt.result ≡ 32 = search rules in
    let e = c.checksum_count.ensures ∙ ap (λ (x : List ℕ). (facts_in x).checksum_count) c.head-head.ensures in
    (omega (arith, c.requires), omega (arith, l), omega (arith, e, (sound m c.args.drive.accepted).checksum_least), omega arith)

pub returns : goal.returns
unfolding aes_xts
returns c =
    let m = c.args.drive.image.now in
    let h = c.head-head.ensures in
    let g = c.hash in
    let n = c.checksum_count.result in
    let en = c.checksum_count.ensures ∙ ap (λ (x : List ℕ). (facts_in x).checksum_count) h in
    let es = c.checksum_salt.ensures ∙ ap (λ (x : List ℕ). (facts_in x).checksum_salt) h in
    let ee = c.checksum-expected.ensures ∙ ap (λ (x : List ℕ). (facts_in x).checksum) h in
    let few : n < 2 ^ 32 = search rules in
    let v = c.pbkdf2-made.ensures.1 in
    record {
      matches_is = matches_is m g.result g.ensures c.args.key.now c.checksum_salt.result _ _ n _ en es ee c.pbkdf2-made.ensures.0 (c.eq.ensures ∙ bytes_same _ _);
      values_are = checksum-counted m g.result g.ensures n c.pbkdf2-made.result en v;
      values_few = omega (arith, v, few-values g.result n 20 few (omega arith));
    }
