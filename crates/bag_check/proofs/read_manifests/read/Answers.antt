use Rattle.std.proofs.Common.{◌≡◌, Some, sym}
use Rattle.bag_check.specs.Manifests.{text_at, manifest_name}
use Rattle.bag_check.proofs.Readings.{no_manifest, one_read, one_malformed}
use Rattle.bag_check.proofs.read_manifests.read.Goals as goal

pub returns-in_default-clause-ok : goal.returns-in_default-clause-ok
returns-in_default-clause-ok c =
    no_manifest c.args.kind c.args.algorithm c.args.files.now c.args.found.now.items
    (rw (← c.manifest_name.ensures) (sym c.in_default.ensures))

pub returns-in-Err-Malformed-clause-err : goal.returns-in-Err-Malformed-clause-err
returns-in-Err-Malformed-clause-err c =
    let t : text_at (manifest_name c.args.kind c.args.algorithm) c.args.files.now
    ≡ Some c.in-Some.text.now = rw (← c.manifest_name.ensures) (sym c.in-Some.ensures) in
    one_malformed c.args.kind c.args.algorithm c.args.files.now c.in-Some.text.now t
    c.in-Err-Malformed.field-0-0
    (rw c.in-Err-Malformed.field-0-is at c.in-Err-Malformed.ensures.exact)

pub returns-clause-ok : goal.returns-clause-ok
returns-clause-ok c =
    let t : text_at (manifest_name c.args.kind c.args.algorithm) c.args.files.now
    ≡ Some c.in-Some.text.now = rw (← c.manifest_name.ensures) (sym c.in-Some.ensures) in
    let one =
    one_read c.args.kind c.args.algorithm c.args.files.now c.in-Some.text.now t
    c.in-Ok.entries.items c.args.found.now.items c.in-Ok.ensures.exact in
    (one.0, rw (c.in_ok-push.ensures.items, c.new.ensures) one.1)
