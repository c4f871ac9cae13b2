use Rattle.bag_check.specs.Manifests.{manifests_of, manifests_of_kind}
use Rattle.bag_check.specs.inner.Order.{FailsToRead}
use Rattle.bag_check.specs.declared.manifests.Kind.TheVariants.{Payload, Tag}
use Rattle.bag_check.proofs.Readings.{of_both, fails_first, fails_second, reads_both, handed_on}
use Rattle.std.proofs.Common.{[]}
use Rattle.bag_check.proofs.read_manifests.listings.Goals as goal

pub returns-in_err-read_kind-clause-err : goal.returns-in_err-read_kind-clause-err
returns-in_err-read_kind-clause-err c =
    handed_on c.from_residual.result c.in_err-read_kind.field-0.0
    (FailsToRead (manifests_of c.args.files.now)) c.from_residual.ensures.1
    (rw of_both
    (fails_first (manifests_of_kind Payload c.args.files.now)
    (manifests_of_kind Tag c.args.files.now) c.in_err-read_kind.field-0.0
    c.in_err-read_kind.ensures.err))

pub returns-in_err-read_kind-2-clause-err : goal.returns-in_err-read_kind-2-clause-err
returns-in_err-read_kind-2-clause-err c =
    handed_on c.from_residual-in_err-read_kind-2.result c.in_err-read_kind-2.field-0.0
    (FailsToRead (manifests_of c.args.files.now)) c.from_residual-in_err-read_kind-2.ensures.1
    (rw of_both
    (fails_second (manifests_of_kind Payload c.args.files.now)
    (manifests_of_kind Tag c.args.files.now) c.in_err-read_kind-2.field-0.0
    c.in_err-read_kind-2.ensures.err))

pub returns-clause-ok : goal.returns-clause-ok
returns-clause-ok c =
    rw of_both
    (reads_both (manifests_of_kind Payload c.args.files.now)
    (manifests_of_kind Tag c.args.files.now) [] c.read_kind.new.found.items
    c.read_kind-2.new.found.items (rw c.new-found.ensures.items at c.in_ok-read_kind.ensures.ok)
    c.in_ok-read_kind-2.ensures.ok)
