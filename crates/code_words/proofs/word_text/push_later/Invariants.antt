use Rattle.std.proofs.Common.{◌≡◌, ◌++◌, take, map}
use Rattle.std.specs.List.{flat_map}
use Rattle.std.specs.String.{string_bytes}
use Rattle.code_words.specs.Words.{later_word}
use Rattle.code_words.proofs.word_text.push_later.Given as goal

abbrev pub invariant-loop-word : goal.invariant-loop-word
invariant-loop-word l =
    string_bytes l.text
    ≡ string_bytes l.initial.text
    ++ flat_map later_word (map (λ word. word.now) (take l.word-index l.words))
