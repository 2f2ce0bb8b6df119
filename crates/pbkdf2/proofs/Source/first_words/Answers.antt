-- `pbkdf2::Source::first_words`: the inner hash of the salt and the number, and one compression more.
use Rattle.pbkdf2.specs.Words.{first_words}
use Rattle.pbkdf2.proofs.Source.first_words.Goals as goal

pub returns : goal.returns
unfolding first_words
returns c = cc
