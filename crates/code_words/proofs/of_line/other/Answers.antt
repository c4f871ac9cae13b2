use Rattle.std.proofs.Common.{◌∙◌, ap, map, option_map}
use Rattle.std.specs.List.{find}
use Rattle.code_words.specs.Lines.{has_code}
use Rattle.code_words.specs.Rows.{code_of}
use Rattle.code_words.proofs.FirstOf.{first_of_map}
use Rattle.code_words.proofs.of_line.other.Goals as goal

pub returns : goal.returns
returns c =
    ap (option_map code_of) c.first_of.ensures
    ∙ first_of_map (has_code c.args.line.now) code_of c.as_slice.result.now
    ∙ ap (λ table. find (has_code c.args.line.now) (map code_of table)) c.as_slice.ensures
