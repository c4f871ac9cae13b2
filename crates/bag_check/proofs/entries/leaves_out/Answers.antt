use Rattle.std.proofs.Common.{not, ◌&&◌, ap, sym, ◌∙◌}
use Rattle.bag_tree.specs.Path.{is_payload}
use Rattle.bag_tree.specs.Facts.{FileFact}
use Rattle.bag_check.specs.Check.{is_unlisted}
use Rattle.bag_check.proofs.Counted.{none_unlisted}
use Rattle.bag_check.proofs.Keyed.{has_text}
use Rattle.bag_check.proofs.Repeats.{same_any}
use Rattle.bag_check.proofs.entries.leaves_out.Goals as goal

pub returns : goal.returns
returns c =
    let each = c.in_ok-listed.ensures in
    c.some_outside.ensures ∙ same_any
    (λ (f : FileFact). is_payload f.path && not (has_text f.path c.in_ok-listed.listed))
    (is_unlisted c.args.entries.now)
    (λ f. ap (λ t. is_payload f.path && not t) (each f.path)) c.args.files.now

pub returns-then-payload_count-entries : goal.returns-then-payload_count-entries
returns-then-payload_count-entries c =
    sym
    (none_unlisted c.args.entries.now c.args.files.now c.requires.placed c.requires.once
    c.requires.there (rw c.payload_count.ensures at c.if-payload_count-entries.true))
