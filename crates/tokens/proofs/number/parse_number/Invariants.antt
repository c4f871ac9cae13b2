use Rattle.std.proofs.Common.{◌≡◌, drop}
use Rattle.std.specs.Str.{all_ascii_digits}
use Rattle.tokens.specs.Words.{value_after}
use Rattle.tokens.proofs.number.parse_number.Given as goal

-- the bytes so far are digits, and the value is theirs
abbrev pub invariant-loop-byte : goal.invariant-loop-byte
invariant-loop-byte l = record {
  digits : all_ascii_digits l.word ≡ all_ascii_digits (drop l.byte-index l.word);
  value : value_after 0 l.word ≡ value_after l.value (drop l.byte-index l.word);
}
