use Rattle.std.proofs.Common.{take}
use Rattle.bag_check.specs.Manifests.{algorithms}
use Rattle.bag_check.specs.inner.Order.{Reads}
use Rattle.bag_check.proofs.Readings.{manifests_by}
use Rattle.bag_check.proofs.read_manifests.read_kind.Given as goal

-- the manifests of the algorithms so far were read
abbrev pub invariant-loop-algorithm : goal.invariant-loop-algorithm
invariant-loop-algorithm l =
    Reads (manifests_by l.kind l.files (take l.algorithm-index algorithms)) l.initial.found.items
    l.found.items
