use Rattle.std.proofs.Common.{◌≡◌, ◌++◌, take}
use Rattle.std.specs.List.{flat_map}
use Rattle.std.specs.String.{string_bytes}
use Rattle.code_words.specs.Words.{byte_text}
use Rattle.code_words.proofs.word_text.push_each.Given as goal

abbrev pub invariant-loop-byte : goal.invariant-loop-byte
invariant-loop-byte l =
    string_bytes l.text
    ≡ string_bytes l.initial.text ++ flat_map byte_text (take l.byte-index l.bytes)
