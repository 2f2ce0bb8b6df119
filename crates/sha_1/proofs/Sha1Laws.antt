-- SHA-1's compression function is lawful.
use Rattle.std.proofs.Common.{refl, arith}
use Rattle.digest.specs.Chaining.{LawfulCompression}
use Rattle.sha_1.specs.Sha1.{compress_words, add_words, compression}

pub lawful : LawfulCompression compression
unfolding compress_words add_words
lawful =
    record {
      at_least = omega arith;
      at_most = omega arith;
      length_initial = refl;
      length_compress = λ s m. refl;
      words_compress = λ s m. (omega arith, (omega arith, (omega arith, (omega arith, (omega arith, tt)))));
    }
