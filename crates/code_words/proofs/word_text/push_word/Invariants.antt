use Rattle.std.proofs.Common.{◌≡◌, ◌++◌, length}
use Rattle.std.specs.String.{string_bytes}
use Rattle.code_words.specs.Words.{parts_text, parts_after, word_text}
use Rattle.code_words.proofs.word_text.push_word.Given as goal

-- what was appended, and what is left to be
abbrev pub invariant-loop-begin : goal.invariant-loop-begin
invariant-loop-begin l =
    string_bytes l.text ++ parts_text l.room (parts_after 0 l.rest)
    ≡ string_bytes l.fn.text ++ word_text l.word

abbrev pub decreases-loop-begin : goal.decreases-loop-begin
decreases-loop-begin l = length l.rest
