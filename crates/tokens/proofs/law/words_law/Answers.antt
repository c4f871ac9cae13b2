use Rattle.tokens.proofs.GrammarLemmas.{words_of-from, HasWords-words_of}
use Rattle.tokens.proofs.law.words_law.Goals as goal

pub returns : goal.returns
returns c = λ line words. (words_of-from line words, HasWords-words_of line words)
