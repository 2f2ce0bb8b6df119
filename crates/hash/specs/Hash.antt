-- The hashes that are built, by their names in code.
use Rattle.std.specs.Prelude.{List, ℕ, take}
use Rattle.digest.specs.Digest.{Digest}
use Rattle.digest.specs.Chaining.{Compression, chained}
use Rattle.sha_1.specs.Sha1 as sha1
use Rattle.sha256.specs.Sha256 as sha256
use Rattle.hash.specs.declared.Hash.{Hash}
use Rattle.hash.specs.declared.Hash.TheVariants.{Sha1, Sha256}

abbrev pub compression_of : Hash → Compression
compression_of Sha1 = sha1.compression
compression_of Sha256 = sha256.compression

abbrev pub digest_of : Hash → Digest
digest_of h = chained (compression_of h)

-- the chaining words of the hash h in an array of eight: the first of them
abbrev pub chain : Hash → List ℕ → List ℕ
chain h s = take (compression_of h).count s
