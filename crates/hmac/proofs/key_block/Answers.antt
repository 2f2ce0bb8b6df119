-- `hmac::key_block`: a longer key's digest, or the key.
use Rattle.std.proofs.Common.{◌∙◌, ℕ, take, sym, ap}
use Rattle.octets.specs.Octets.{padded}
use Rattle.hash.specs.Hash.{digest_of}
use Rattle.hmac.proofs.HmacLaws.{key_block_long, key_block_short}
use Rattle.hmac.proofs.key_block.Goals as goal

pub returns-then-key-gt-BLOCK_BYTES : goal.returns-then-key-gt-BLOCK_BYTES
returns-then-key-gt-BLOCK_BYTES c =
    c.zero_pad.ensures
    ∙ ap (padded 64) (ap (λ (n : ℕ). take n c.digest.result) c.size.ensures.0 ∙ c.digest.ensures)
    ∙ sym (key_block_long (digest_of c.args.hash) c.args.key.now c.if-key-gt-BLOCK_BYTES.true)

pub returns-else-key-gt-BLOCK_BYTES : goal.returns-else-key-gt-BLOCK_BYTES
returns-else-key-gt-BLOCK_BYTES c =
    c.zero_pad-else-key-gt-BLOCK_BYTES.ensures ∙ sym (key_block_short (digest_of c.args.hash) c.args.key.now c.if-key-gt-BLOCK_BYTES.false)
