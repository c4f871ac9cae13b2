use Rattle.proposer.proofs.Stands.{promise_ready, promise_stands}
use Rattle.fed_types.specs.Quorums.{AreQuorums}
use Rattle.proposer.proofs.proposer.Proposer.promise.Goals as goal

pub returns-clause-ready : goal.returns-clause-ready
returns-clause-ready g c records volatile under stands =
    let members = c.self.inside.members in
    let laws : AreQuorums (g.Q.Quorums.quorum_system members) = record {
      meet = g.met.Q.Quorums.quorums_meet members;
      grow = g.met.Q.Quorums.quorum_grows members;
    } in
    rw (← c.self.view_is)
    (promise_ready (g.Q.Quorums.quorum_system members) laws c.args.slot.now c.args.from
    c.args.ballot c.args.prior c.args.own c.self.inside.table c.promise_in.new.table
    c.promise_in.result records volatile under c.promise_in.ensures.heard
    (rw (← c.self.view_is) at stands))

pub returns-clause-heard : goal.returns-clause-heard
returns-clause-heard g c records volatile under stands =
    let members = c.self.inside.members in
    let laws : AreQuorums (g.Q.Quorums.quorum_system members) = record {
      meet = g.met.Q.Quorums.quorums_meet members;
      grow = g.met.Q.Quorums.quorum_grows members;
    } in
    promise_stands (g.Q.Quorums.quorum_system members) laws c.args.slot.now c.args.from
    c.args.ballot c.args.prior c.args.own c.self.inside.table c.promise_in.new.table
    c.promise_in.result records volatile under c.promise_in.ensures.heard
    (rw (← c.self.view_is) at stands)
