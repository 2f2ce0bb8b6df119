-- The key split, and the area enciphered.
use Rattle.std.proofs.Common.{length, take}
use Rattle.hash.specs.Hash.{digest_of}
use Rattle.profiles.specs.Suites.{aes_xts}
use Rattle.keyslot.proofs.AreaLaws.{key_material-is}
use Rattle.keyslot.proofs.fill.Goals as goal

pub returns : goal.returns
unfolding aes_xts
returns c =
    let a = c.args in
    let L = length a.key.now in
    let s = c.split_into in
    let k = c.slot_key-d in (
      key_material-is (digest_of a.hash) L a.n a.count a.key.now a.passphrase.now a.salt.now a.random.now s.new.area _ (take L k.result.value)
          s.ensures k.ensures.0 c.encrypt_all.ensures,
      k.ensures.1,
    )
