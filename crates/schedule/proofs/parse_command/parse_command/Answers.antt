use Rattle.std.proofs.Common.{◌<◌, List, ℕ, length, Bor}
use Rattle.std.proofs.lemmas.List.Elements.{All-rest}
use Rattle.schedule.proofs.parse_command.parse_command.Goals as goal

pub parse_file-requires : goal.parse_file-requires
parse_file-requires c =
    All-rest (λ (word : Bor (List ℕ)). 0 < length word.now) c.in-Some.name.now
    c.in-Some.arguments.now c.args.words.now c.in-Some.ensures.cases.0 c.requires
