-- `pbkdf2::words::prf_words`: two compressions.
use Rattle.pbkdf2.specs.Words.{prf_words}
use Rattle.pbkdf2.proofs.words.prf_words.Goals as goal

pub returns : goal.returns
unfolding prf_words
returns g c = cc
