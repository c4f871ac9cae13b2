use Rattle.std.proofs.Common.{sym, ◌∙◌}
use Rattle.bag_text.proofs.FieldLaws.{is_version-at}
use Rattle.bag_text.proofs.parse_declaration.is_version.Goals as goal

pub returns-then-is_number : goal.returns-then-is_number
returns-then-is_number c =
    c.is_number-then-is_number.ensures
    ∙ is_version-at c.args.value.now c.split_at.result.0.now c.split_at.result.1.now c.in-Some.place
    (sym c.in-Some.ensures) c.split_at.ensures.front c.split_at.ensures.back c.if-is_number.ensures
