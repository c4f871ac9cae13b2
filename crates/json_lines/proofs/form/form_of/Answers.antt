use Rattle.std.proofs.Common.{map}
use Rattle.json_lines.specs.Forms.{forms}
use Rattle.json_lines.proofs.FormLemmas.{found_shown}
use Rattle.json_lines.proofs.form.form_of.Goals as goal

pub returns : goal.returns
returns c =
    found_shown c.table.result.now (map (λ word. word.now) c.args.words.now) c.first_fit.result
    forms c.table.ensures c.first_fit.ensures
