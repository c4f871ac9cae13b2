use Rattle.std.proofs.Common.{refl}
use Rattle.tokens.proofs.PrintedWords.{text_of-escaped}
use Rattle.json_lines.specs.Forms.{forms}
use Rattle.json_lines.specs.Json.{line_data}
use Rattle.json_lines.proofs.Laws.{known_words}
use Rattle.json_lines.proofs.law.names_law.Goals as goal

pub returns-clause-object : goal.returns-clause-object
unfolding line_data forms
returns-clause-object c =
    λ name version bag utf8 v b.
    rw (known_words name version bag v b, text_of-escaped name utf8) refl

pub returns-clause-version : goal.returns-clause-version
unfolding line_data forms
returns-clause-version c =
    λ name version bag v b. rw (known_words name version bag v b) refl

pub returns-clause-bag : goal.returns-clause-bag
unfolding line_data forms
returns-clause-bag c =
    λ name version bag utf8 v b. rw (known_words name version bag v b, utf8) refl
