use Rattle.std.proofs.Common.{◌≡◌, Some, sym}
use Rattle.bag_check.specs.Manifests.{text_at, manifest_name}
use Rattle.bag_explain.proofs.NumberedLines.{no_manifest, one_manifest}
use Rattle.bag_explain.proofs.read_manifests.read.Goals as goal

pub returns-in_default : goal.returns-in_default
returns-in_default c =
    no_manifest c.args.kind c.args.algorithm c.args.files.now c.args.found.now.items
    (rw (← c.manifest_name.ensures) (sym c.in_default.ensures))

pub returns : goal.returns
returns c =
    let t : text_at (manifest_name c.args.kind c.args.algorithm) c.args.files.now
    ≡ Some c.in-Some.text.now =
    rw (← c.manifest_name.ensures) (sym c.in-Some.ensures) in
    one_manifest c.args.kind c.args.algorithm c.args.files.now c.args.found.now.items
    c.in-Some.text.now c.in_ok-listing.listing c.push.new.self.items t c.in_ok-listing.ensures
    c.in_ok-push.ensures.items
