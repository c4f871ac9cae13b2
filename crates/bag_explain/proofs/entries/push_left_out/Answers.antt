use Rattle.std.proofs.Common.{refl, ap, ◌∙◌, string_bytes}
use Rattle.bag_check.specs.declared.fault.BagFault.TheVariants.{UnlistedFile}
use Rattle.bag_check.specs.Manifests.{is_listed}
use Rattle.bag_explain.specs.Places.{files_in}
use Rattle.bag_explain.proofs.FaultLines.{one_more, all_done}
use Rattle.bag_explain.proofs.entries.push_left_out.Goals as goal

pub loop-file-preserved : goal.loop-file-preserved
loop-file-preserved c =
    let file = c.file-item.result in
    let before = string_bytes c.loop-file.text in
    let listed = c.in_ok-listed.ensures file.path
    ∙ ap (λ es. is_listed file.path (files_in es)) c.entries.ensures in
    one_more UnlistedFile _ _ _ _ refl _ _ c.loop-file.invariant file _ c.loop-file-test.true
    c.file-item.is
    (rw (listed, c.name.ensures) at c.in_ok-push_if_outside.ensures)

pub returns : goal.returns
returns c =
    all_done UnlistedFile _ _ _ _ refl _ _ c.loop-file.invariant c.loop-file-test.false
