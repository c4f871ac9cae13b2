use Rattle.std.proofs.lemmas.List.{take_all}
use Rattle.bag_check.specs.Manifests.{algorithms, manifests_of_kind}
use Rattle.bag_check.specs.inner.Order.{FailsToRead}
use Rattle.bag_check.proofs.Readings.{reads_none, read_next, fails_here, handed_on}
use Rattle.bag_check.proofs.read_manifests.read_kind.Goals as goal

pub loop-algorithm-init : goal.loop-algorithm-init
loop-algorithm-init c = reads_none c.args.found.now.items

pub returns-in_err-read-clause-err : goal.returns-in_err-read-clause-err
unfolding manifests_of_kind
returns-in_err-read-clause-err c =
    handed_on c.from_residual.result c.in_err-read.field-0.0
    (FailsToRead (manifests_of_kind c.args.kind c.args.files.now)) c.from_residual.ensures.1
    (fails_here c.args.kind c.args.files.now algorithms c.loop-algorithm.algorithm-index _
    c.loop-algorithm-test.true c.in_err-read.field-0.0 c.in_err-read.ensures.err)

pub loop-algorithm-preserved : goal.loop-algorithm-preserved
loop-algorithm-preserved c =
    read_next c.args.kind c.args.files.now algorithms c.loop-algorithm.algorithm-index _
    c.loop-algorithm-test.true c.args.found.now.items c.loop-algorithm.found.items
    c.read.new.found.items c.loop-algorithm.invariant c.in_ok-read.ensures.ok

pub returns-clause-ok : goal.returns-clause-ok
unfolding manifests_of_kind
returns-clause-ok c =
    rw (take_all c.loop-algorithm.algorithm-index algorithms c.loop-algorithm-test.false) at
    c.loop-algorithm.invariant
