use Rattle.std.proofs.Common.{◌∙◌, length, sym, inl}
use Rattle.std.specs.String.{string_bytes}
use Rattle.bag_tree.specs.Path.{is_below}
use Rattle.bag_tree.proofs.PlaceLaws.{one_more, others_stay}
use Rattle.bag_tree.proofs.places.lead_folder.Goals as goal

pub returns-in_ok-insert-clause-each : goal.returns-in_ok-insert-clause-each
returns-in_ok-insert-clause-each c =
    one_more is_below c.args.files.now c.args.by_folder.now c.requires
    (string_bytes c.in_ok-from_str.field-0) c.insert.new.self c.in_ok-insert.ensures.updates
    (rw c.in_ok-from_str.ensures.ok
    (sym c.has_file_below.ensures ∙ c.if-not-has_file_below.true))

pub returns-in_ok-insert-clause-others : goal.returns-in_ok-insert-clause-others
returns-in_ok-insert-clause-others c =
    others_stay (string_bytes c.in_ok-from_str.field-0) c.args.by_folder.now c.insert.new.self
    (length c.args.files.now) c.in_ok-insert.ensures.updates

pub returns-in_ok-insert-clause-added : goal.returns-in_ok-insert-clause-added
returns-in_ok-insert-clause-added c =
    inl (rw (← c.in_ok-from_str.ensures.ok) c.in_ok-insert.ensures.updates.1)
