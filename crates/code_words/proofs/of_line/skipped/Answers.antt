use Rattle.std.proofs.Common.{◌∙◌, ap, map, option_map}
use Rattle.std.specs.List.{find}
use Rattle.code_words.specs.Lines.{ends}
use Rattle.code_words.specs.Rows.{code_of}
use Rattle.code_words.proofs.FirstOf.{first_of_map}
use Rattle.code_words.proofs.of_line.skipped.Goals as goal

pub returns : goal.returns
returns c =
    ap (option_map code_of) c.first_ending.ensures
    ∙ first_of_map (λ code. ends code c.args.reason.now) code_of c.as_slice.result.now
    ∙ ap (λ table. find (λ code. ends code c.args.reason.now) (map code_of table))
    c.as_slice.ensures
