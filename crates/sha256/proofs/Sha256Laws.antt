-- SHA-256's compression function is lawful.
use Rattle.std.proofs.Common.{refl, arith}
use Rattle.digest.specs.Chaining.{LawfulCompression}
use Rattle.sha256.specs.Sha256.{add_words, compress_words, compression}

pub lawful : LawfulCompression compression
unfolding compress_words add_words
lawful =
    record {
      at_least = omega arith;
      at_most = omega arith;
      length_initial = refl;
      length_compress = λ s m. refl;
      words_compress = λ s m. (omega arith, (omega arith, (omega arith, (omega arith, (omega arith, (omega arith, (omega arith, (omega arith, tt))))))));
    }
