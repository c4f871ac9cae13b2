-- Parts of a table of codes.
use Rattle.std.proofs.Common.{◌≡◌, ℕ, List, map, ap, ◌∙◌}
use Rattle.code_words.specs.declared.meaning.Meaning.{Meaning}
use Rattle.code_words.specs.Rows.{code_of}
use Rattle.code_words.specs.Tables.{AppendsPart}

-- the part of these rows is that of their codes
pub of_codes : (heading : List ℕ) (rows table : List Meaning) (kind : List (List ℕ))
    (old new : List ℕ) → rows ≡ table → map code_of table ≡ kind
    → AppendsPart (heading, map code_of rows) old new → AppendsPart (heading, kind) old new
of_codes heading rows table kind old new is codes (all, same, appended) =
    (all, same ∙ (ap (map code_of) is ∙ codes), appended)
