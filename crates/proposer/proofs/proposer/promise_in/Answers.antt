use Rattle.std.specs.Prelude.{None}
use Rattle.std.proofs.Common.{refl}
use Rattle.proposer.proofs.Tables.{rooms_put, rooms_same, row_stays, row_changed}
use Rattle.proposer.specs.inner.Rows.{HeardPromise}
use Rattle.proposer.proofs.proposer.promise_in.Goals as goal

pub returns-in-Some : goal.returns-in-Some
returns-in-Some g c =
    let put = (c.get_mut.follows.holds c.promise.new.self).0 in
    record {
      heard = row_changed (λ r r'. HeardPromise (g.Q.Quorums.quorum_system c.args.members.now)
          c.args.own c.args.ballot c.args.promise.now r r' c.promise.result) _ _ _ _ _
          c.in-Some.ensures.value put c.promise.ensures;
      rooms = rooms_put _ _ _ _ _ c.in-Some.ensures.value put;
    }

pub returns-in-None : goal.returns-in-None
returns-in-None g c = record {
  heard = row_stays (λ r r'. HeardPromise (g.Q.Quorums.quorum_system c.args.members.now)
      c.args.own c.args.ballot c.args.promise.now r r' None) _ _ _ c.in-None.ensures.value
      c.get_mut.follows.holds-at-none
      (record { used = refl; floor = refl; begun = refl; current = refl; bag = refl });
  rooms = rooms_same _ _ c.get_mut.follows.holds-at-none;
}
