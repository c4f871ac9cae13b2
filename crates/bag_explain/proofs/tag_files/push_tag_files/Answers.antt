use Rattle.std.proofs.Common.{take, string_bytes}
use Rattle.std.proofs.lemmas.Result.{on_ok_weaker}
use Rattle.bag_check.specs.declared.fault.BagFault.TheVariants as faults
use Rattle.bag_explain.specs.inner.Stages.{tree_of, first_faults}
use Rattle.bag_explain.proofs.Explained.{fault_more, no_faults}
use Rattle.bag_explain.proofs.tag_files.push_tag_files.Goals as goal

pub returns : goal.returns
returns c =
    let facts = tree_of c.args.files.now c.args.payload in
    let start = string_bytes c.args.text.now in
    let e1 = fault_more facts (take 0 first_faults) faults.NoDeclaration start (no_faults start)
    c.in_ok-push_no_declaration.ensures in
    let e2 = fault_more facts (take 1 first_faults) faults.BadDeclaration start e1
    c.in_ok-push_bad_declaration.ensures in
    let e3 = fault_more facts (take 2 first_faults) faults.UnsupportedVersion start e2
    c.in_ok-push_other_version.ensures in
    let e4 = fault_more facts (take 3 first_faults) faults.UnsupportedEncoding start e3
    c.in_ok-push_other_encoding.ensures in
    let e5 = fault_more facts (take 4 first_faults) faults.HasFetch start e4
    c.in_ok-push_fetch.ensures in
    let e6 = fault_more facts (take 5 first_faults) faults.NoPayloadFolder start e5
    c.in_ok-push_no_payload.ensures in
    let e7 = fault_more facts (take 6 first_faults) faults.NoSha512Manifest start e6
    c.in_ok-push_no_manifest.ensures in
    on_ok_weaker c.push_all_unknown.result
    (fault_more facts (take 7 first_faults) faults.UnknownAlgorithm start e7)
    c.push_all_unknown.ensures
