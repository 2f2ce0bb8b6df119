-- The area deciphered under the slot key, and merged.
use Rattle.std.proofs.Common.{length, take, length-take-le, ◌≡◌, arith, rules}
use Rattle.hash.specs.Hash.{digest_of}
use Rattle.xts.specs.Keys.{unit_decrypt}
use Rattle.xts.proofs.KeysLaws.{unit_decrypt-is}
use Rattle.profiles.specs.Suites.{aes_xts}
use Rattle.keyslot.proofs.AreaLaws.{candidate_of-is}
use Rattle.keyslot.proofs.candidate.Goals as goal

pub returns : goal.returns
unfolding aes_xts
returns c =
    let a = c.args in
    let L = length a.d.now in
    let k = c.slot_key-s in
    let r = k.result.value in
    let l : length r ≡ 64 = search rules in
    let e : length (take L r) ≡ L = length-take-le L r (omega arith) in
    let x = c.expand in (
      candidate_of-is (digest_of a.hash) L a.n a.count a.passphrase.now a.salt.now a.area.now _ (take L r) (unit_decrypt x.result)
          k.ensures.0 (unit_decrypt-is x.result (take L r) (omega (arith, e, c.requires.4)) x.ensures) c.merge_units.ensures,
      k.ensures.1,
    )
