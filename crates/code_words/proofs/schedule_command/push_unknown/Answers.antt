use Rattle.std.specs.Prelude.{codes}
use Rattle.std.proofs.lemmas.Result.{on_ok_weaker}
use Rattle.code_words.specs.ScheduleWords.{unknown_text}
use Rattle.code_words.proofs.Pushed.{two}
use Rattle.code_words.proofs.schedule_command.push_unknown.Goals as goal

pub returns : goal.returns
unfolding unknown_text
returns c =
    on_ok_weaker c.push_alike.result
    (λ is. two _ _ _ (codes "there is no command ") _ c.in_ok-push_str.ensures.bytes
    (two _ _ _ _ _ c.in_ok-push_found.ensures is))
    c.push_alike.ensures
