use Rattle.std.specs.Prelude.{codes}
use Rattle.std.proofs.lemmas.Result.{on_ok_weaker}
use Rattle.code_words.specs.ScheduleWords.{federation_text}
use Rattle.code_words.proofs.Pushed.{two}
use Rattle.code_words.proofs.federation_line.push_federation_words.Goals as goal

pub returns : goal.returns
unfolding federation_text
returns c =
    on_ok_weaker c.push_federation_fault.result
    (λ is. two _ _ _
    (codes "federation takes its number, how many sites it has, and their weights if ") _
    c.in_ok-push_str.ensures.bytes
    (two _ _ _ (codes "they differ; found ") _ c.in_ok-push_str-2.ensures.bytes
    (two _ _ _ _ _ c.in_ok-push_found.ensures
    (two _ _ _ (codes ": ") _ c.in_ok-push_str-3.ensures.bytes is))))
    c.push_federation_fault.ensures
