use Rattle.std.proofs.Common.{string_bytes}
use Rattle.std.proofs.lemmas.Result.{on_ok_weaker}
use Rattle.schedule.proofs.SpacedWords.{call_line-is}
use Rattle.schedule.proofs.print_command.push_call_and_fate.Goals as goal

pub returns : goal.returns
returns c =
    on_ok_weaker c.push_end.result
    (call_line-is c.args.call.now c.args.fate (string_bytes c.args.text.now)
    (string_bytes c.push_call.new.text) (string_bytes c.push_fate.new.text)
    (string_bytes c.push_end.new.text) c.in_ok-push_call.ensures c.in_ok-push_fate.ensures)
    c.push_end.ensures
