use Rattle.std.proofs.Common.{◌∙◌, sym}
use Rattle.code_words.proofs.OtherWords.{other_of_few, other_of_many}
use Rattle.code_words.proofs.of_line.of_words.Goals as goal

pub returns-in-empty : goal.returns-in-empty
returns-in-empty c = c.other.ensures ∙ sym (other_of_few _ _ c.in-empty.len_below)

pub returns-in-len5-up : goal.returns-in-len5-up
returns-in-len5-up c =
    c.other-in-len5-up.ensures ∙ sym (other_of_many _ _ c.in-len5-up.len_at_least)
