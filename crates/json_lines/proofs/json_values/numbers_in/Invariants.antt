use Rattle.std.proofs.Common.{◌≡◌, map, take}
use Rattle.serde_json.specs.View.{view}
use Rattle.json_lines.specs.Json.{number_in_word}
use Rattle.json_lines.proofs.json_values.numbers_in.Given as goal

-- the words so far have their values
abbrev pub invariant-loop-word : goal.invariant-loop-word
invariant-loop-word l =
    map view l.values.items ≡ map (λ word. number_in_word word.now) (take l.word-index l.words)
