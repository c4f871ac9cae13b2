use Rattle.bag_explain.proofs.NumberedLines.{kinds_read}
use Rattle.bag_explain.proofs.read_manifests.listings.Goals as goal

pub returns : goal.returns
returns c =
    kinds_read c.args.files.now _ _ _ c.new-found.ensures.items c.in_ok-read_kind.ensures
    c.in_ok-read_kind-2.ensures
