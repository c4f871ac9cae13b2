use Rattle.std.proofs.Common.{◌++◌, ◌∙◌, sym, ap, length, string_bytes}
use Rattle.std.proofs.lemmas.Result.{on_ok_weaker}
use Rattle.code_words.specs.ScheduleWords.{command_of, surplus_text}
use Rattle.code_words.proofs.Pushed.{of_no_fault, words_left}
use Rattle.code_words.proofs.schedule_command.push_fault.Goals as goal

pub returns : goal.returns
returns c =
    on_ok_weaker c.push_surplus.result
    (λ is. of_no_fault _ _ _ _ _ (sym c.in_ok-push_first_fault.ensures.found ∙ c.if-branch.false)
    c.in_ok-push_first_fault.ensures.appended
    (is
    ∙ ap
    (λ left. string_bytes c.push_first_fault.new.text
    ++ surplus_text (command_of c.args.form.now) left)
    (words_left (length c.args.form.now.kinds.now) c.args.arguments.now _ c.words_from.ensures)))
    c.push_surplus.ensures
