use Rattle.std.proofs.Common.{arith, ap, length, le_trans, ◌∷◌, [], length-append}
use Rattle.udp_site.proofs.Intake.{one_joined}
use Rattle.udp_site.proofs.batch_intake.take_more.Goals as goal

pub datagrams-preserved : goal.datagrams-preserved
datagrams-preserved g c =
    let turn = c.in_ok-turn.turn in
    let came = c.in_ok-turn.ensures.taken in
    record {
      joined =
          one_joined (g.P.Port.traffic c.args.port.now) (g.P.Port.traffic c.datagrams.port)
          (g.P.Port.traffic c.try_receive.new.self) c.args.batch.now.items
          c.datagrams.batch.items c.push_reserved.new.self.items turn
          c.datagrams.invariant.joined came c.push_reserved.ensures.items;
      count =
          omega (
            arith,
            ap length c.push_reserved.ensures.items,
            length-append c.datagrams.batch.items (turn ∷ []),
            c.datagrams.invariant.count,
          );
      room = omega (arith, c.push_reserved.ensures.capacity, c.datagrams.invariant.room);
      later = le_trans c.datagrams.invariant.later c.in_ok-turn.ensures.later;
    }
