use Rattle.std.specs.Prelude.{codes}
use Rattle.std.proofs.lemmas.Result.{on_ok_weaker}
use Rattle.code_words.proofs.Pushed.{two}
use Rattle.code_words.proofs.federation_line.push_other_words.Goals as goal

pub returns : goal.returns
returns c =
    on_ok_weaker c.push_mark_words.result
    (λ is. two _ _ _ (codes "the first command has to be federation F N; found ") _
    c.in_ok-push_str.ensures.bytes (two _ _ _ _ _ c.in_ok-push_found.ensures is))
    c.push_mark_words.ensures
