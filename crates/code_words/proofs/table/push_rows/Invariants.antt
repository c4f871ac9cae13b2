use Rattle.std.proofs.Common.{◌≡◌, ◌++◌, take}
use Rattle.std.specs.List.{flat_map}
use Rattle.std.specs.String.{string_bytes}
use Rattle.code_words.specs.Tables.{row_text}
use Rattle.code_words.proofs.table.push_rows.Given as goal

-- what was appended so far
abbrev pub invariant-loop-meaning : goal.invariant-loop-meaning
invariant-loop-meaning l =
    string_bytes l.text
    ≡ string_bytes l.initial.text ++ flat_map row_text (take l.meaning-index l.meanings)
