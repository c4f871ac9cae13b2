use Rattle.std.proofs.Common.{rules, ◌∙◌}
use Rattle.dgram.specs.Decoded.{message_of}
use Rattle.udp_site.specs.Traffic.{From}
use Rattle.udp_site.specs.Turns.{members, turn_of}
use Rattle.udp_site.specs.inner.Outcomes.{at}
use Rattle.udp_site.proofs.Requested.{same_round}
use Rattle.udp_site.proofs.Said.{comes_too}
use Rattle.udp_site.proofs.server.Server.handle_turn.Goals as goal

pub returns-in-Idle-clause-turn : goal.returns-in-Idle-clause-turn
returns-in-Idle-clause-turn g c = record {
  count = search rules;
  settled = search rules;
  comes = λ old stands. rw c.in-Idle.is (c.idle.ensures.turn.comes old stands);
}

pub returns-in-Got-clause-turn : goal.returns-in-Got-clause-turn
returns-in-Got-clause-turn g c = record {
  count = search rules;
  settled = rw c.handle_datagram.ensures.stays.progress (λ are. are);
  comes = λ old stands.
      let was = c.args.self.now in
      let rule = turn_of g.C.Cell.device was.addresses.now (g.F.Folders.gives was.folders.now) old
      (From c.in-Got.from c.in-Got.bytes.items) in
      rw (c.handle_datagram.ensures.stays.progress, c.in-Got.is)
      (comes_too rule (at was.progress.idle was.progress.tried rule)
      (λ done next is.
      let same = same_round g.C.Cell.device was.addresses.now
      (g.F.Folders.gives was.folders.now) old c.in-Got.from
      (message_of (members old).federation c.in-Got.bytes.items) done next is in
      (is, same.0 ∙ stands.idle, same.1 ∙ stands.tried)) _ _ _ _ _ _
      (rw c.deref.ensures.value at
      (c.handle_datagram.ensures.comes old stands.there stands.serves)));
}
