use Rattle.std.proofs.lemmas.Result.{on_ok_weaker}
use Rattle.bag_explain.proofs.NumberedLines.{kind_read}
use Rattle.bag_explain.proofs.read_manifests.read_kind.Goals as goal

pub returns : goal.returns
returns c =
    on_ok_weaker c.read-4.result
    (kind_read c.args.kind c.args.files.now _ _ _ _ _ c.in_ok-read.ensures c.in_ok-read-2.ensures
    c.in_ok-read-3.ensures)
    c.read-4.ensures
