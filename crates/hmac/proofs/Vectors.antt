-- Examples of RFC 2202 (SHA-1) and RFC 4231 (SHA-256), computed from the definitions: key "Jefe", data "what do ya want for nothing?".
use mathlib.Core.Path.{◌≡◌, refl}
use mathlib.Core.List.{List, [], ◌∷◌}
use Prim.Native.Nat.{ℕ}
use Rattle.octets.specs.Octets.{zeros, big_endian, be32_at, xors, ◌⊕◌}
use Rattle.digest.specs.Chaining.{digest, padding, words, schedule, compress_block, blocks, hash}
use Rattle.sha_1.specs.Sha1 as sha1
use Rattle.sha256.specs.Sha256 as sha256
use Rattle.hmac.specs.Hmac.{key_block, xor_pad, hmac}

abbrev key : List ℕ
key = 0x4a ∷ 0x65 ∷ 0x66 ∷ 0x65 ∷ []

abbrev text : List ℕ
text = 0x77 ∷ 0x68 ∷ 0x61 ∷ 0x74 ∷ 0x20 ∷ 0x64 ∷ 0x6f ∷ 0x20 ∷ 0x79 ∷ 0x61 ∷ 0x20 ∷ 0x77 ∷ 0x61 ∷ 0x6e ∷ 0x74 ∷
    0x20 ∷ 0x66 ∷ 0x6f ∷ 0x72 ∷ 0x20 ∷ 0x6e ∷ 0x6f ∷ 0x74 ∷ 0x68 ∷ 0x69 ∷ 0x6e ∷
    0x67 ∷ 0x3f ∷ []

-- RFC 2202, section 3, test case 2
sha1-2 : hmac sha1.sha1 key text ≡ 0xef ∷ 0xfc ∷ 0xdf ∷ 0x6a ∷ 0xe5 ∷ 0xeb ∷ 0x2f ∷ 0xa2 ∷ 0xd2 ∷ 0x74 ∷
    0x16 ∷ 0xd5 ∷ 0xf1 ∷ 0x84 ∷ 0xdf ∷ 0x9c ∷ 0x25 ∷ 0x9a ∷ 0x7c ∷ 0x79 ∷ []
unfolding hmac xor_pad key_block xors ◌⊕◌ hash padding zeros big_endian blocks compress_block words be32_at digest sha1.compress_words schedule sha1.next sha1.rounds sha1.round sha1.mix sha1.f
    sha1.k sha1.add_words
sha1-2 = refl

-- RFC 4231, section 4.3, test case 2
sha256-2 : hmac sha256.sha256 key text ≡ 0x5b ∷ 0xdc ∷ 0xc1 ∷ 0x46 ∷ 0xbf ∷ 0x60 ∷ 0x75 ∷ 0x4e ∷ 0x6a ∷ 0x04 ∷
    0x24 ∷ 0x26 ∷ 0x08 ∷ 0x95 ∷ 0x75 ∷ 0xc7 ∷ 0x5a ∷ 0x00 ∷ 0x3f ∷ 0x08 ∷ 0x9d ∷
    0x27 ∷ 0x39 ∷ 0x83 ∷ 0x9d ∷ 0xec ∷ 0x58 ∷ 0xb9 ∷ 0x64 ∷ 0xec ∷ 0x38 ∷ 0x43 ∷ []
unfolding hmac xor_pad key_block xors ◌⊕◌ hash padding zeros big_endian blocks compress_block words be32_at digest sha256.compress_words schedule sha256.next sha256.rounds sha256.constants
    sha256.mix sha256.add_words
sha256-2 = refl
