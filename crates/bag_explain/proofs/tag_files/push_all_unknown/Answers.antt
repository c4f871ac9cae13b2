use Rattle.bag_check.specs.declared.fault.BagFault.TheVariants.{UnknownAlgorithm}
use Rattle.bag_explain.specs.Places.{places_of}
use Rattle.bag_explain.proofs.FaultLines.{one_more, all_done}
use Rattle.bag_explain.proofs.tag_files.push_all_unknown.Goals as goal

pub loop-file-preserved : goal.loop-file-preserved
loop-file-preserved c =
    one_more UnknownAlgorithm _ _ _ _ c.files-file-items.ensures _ _ c.loop-file.invariant
    c.file-item.result _ c.loop-file-test.true c.file-item.is
    (rw (c.is_unknown.ensures, c.path.ensures) at c.in_ok-push_if_file.ensures)

pub returns : goal.returns
unfolding places_of
returns c =
    all_done UnknownAlgorithm _ _ _ _ c.files-file-items.ensures _ _ c.loop-file.invariant
    c.loop-file-test.false
