use Rattle.std.proofs.Common.{◌≡◌, ◌++◌, flat_map, string_bytes}
use Rattle.code_words.specs.Names.{shown}
use Rattle.code_words.proofs.name.push_name.Given as goal

abbrev pub invariant-loop-character : goal.invariant-loop-character
invariant-loop-character l =
    string_bytes l.text ≡ string_bytes l.fn.text ++ flat_map shown l.yielded
