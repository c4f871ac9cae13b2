use Rattle.std.proofs.Common.{◌∙◌, ap, map, option_map}
use Rattle.std.specs.List.{find}
use Rattle.std.specs.Str.{bytes_eq}
use Rattle.code_words.specs.ScheduleWords.{Command, command_of, commands}
use Rattle.code_words.proofs.FirstOf.{first_of_map}
use Rattle.code_words.proofs.schedule_command.form_of.Goals as goal

pub returns : goal.returns
unfolding commands
returns c =
    ap (option_map command_of) c.first_named.ensures
    ∙ (first_of_map (λ (command : Command). bytes_eq command.name c.args.name.now) command_of
    c.as_slice.result.now
    ∙ ap
    (λ forms. find (λ (command : Command). bytes_eq command.name c.args.name.now)
    (map command_of forms))
    c.as_slice.ensures)
