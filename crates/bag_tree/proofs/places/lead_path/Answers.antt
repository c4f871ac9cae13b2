use Rattle.std.specs.String.{string_bytes}
use Rattle.bag_tree.specs.inner.Places.{is_at}
use Rattle.bag_tree.proofs.PlaceLaws.{one_more}
use Rattle.bag_tree.proofs.places.lead_path.Goals as goal

pub returns-clause-each : goal.returns-clause-each
returns-clause-each c =
    one_more is_at c.args.files.now c.args.by_path.now c.requires.each
    (string_bytes c.in_ok-from_str.field-0) c.insert.new.self c.in_ok-insert.ensures.updates
    (rw c.in_ok-from_str.ensures.ok c.requires.new)
