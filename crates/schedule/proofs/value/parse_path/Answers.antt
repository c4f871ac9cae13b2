use Rattle.std.proofs.Common.{sym, ◌∙◌, ap, string_bytes}
use Rattle.std.specs.Option.{option_map}
use Rattle.tokens.proofs.TextLemmas.{text_of-some, some_from_value}
use Rattle.schedule.proofs.value.parse_path.Goals as goal

pub returns : goal.returns
returns c =
    let spelled = ap (option_map string_bytes) (sym c.in-Some.is) ∙ c.in_ok-path.ensures in
    let some = text_of-some c.args.word.now (string_bytes c.in-Some.path) c.requires spelled in
    some_from_value c.new.result (string_bytes c.in-Some.path) (c.new.ensures.some.1 some)
    c.new.ensures.value ∙ spelled
