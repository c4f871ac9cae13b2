-- What a code says, and what to do about it, as a text.
use Rattle.std.specs.Prelude.{ℕ, ◌==◌, if◌then◌else◌, List, [], ◌++◌, length, codes}
use Rattle.code_words.specs.declared.meaning.Meaning.{Meaning}

-- a semicolon and what to do, if anything is to be done
abbrev pub advice_text : Meaning → List ℕ
advice_text m = if length m.advice.now == 0 then [] else codes "; " ++ m.advice.now

-- what is so, and what to do
abbrev pub sentence : Meaning → List ℕ
sentence m = m.words.now ++ advice_text m
