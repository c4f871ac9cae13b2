use Rattle.schedule.proofs.TokenLemmas.{text_of-from, IsTextFor-text_of, bytes_of-from}
use Rattle.schedule.proofs.TokenLemmas.{IsHexFor-bytes_of}
use Rattle.schedule.proofs.law.texts_law.Goals as goal

pub returns-clause-texts : goal.returns-clause-texts
returns-clause-texts c = λ word text. (text_of-from word text, IsTextFor-text_of word text)

pub returns-clause-bytes : goal.returns-clause-bytes
returns-clause-bytes c = λ word bytes. (bytes_of-from word bytes, IsHexFor-bytes_of word bytes)
