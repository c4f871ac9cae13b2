use Rattle.std.proofs.Common.{le_refl, le_trans}
use Rattle.udp_site.specs.inner.Batched.{refused_turn}
use Rattle.udp_site.proofs.Handed.{grows_by_no_posts, grows_by_next, part_within, is_err}
use Rattle.udp_site.proofs.batch_loop.Server+Waiting+HeldPort+F.refuse_deposits.Goals as goal

pub loop-turn-init : goal.loop-turn-init
loop-turn-init g c = record {
  grows = grows_by_no_posts (g.P.Port.traffic c.args.port.now);
  later = le_refl _;
}

pub loop-turn-preserved : goal.loop-turn-preserved
loop-turn-preserved g c = record {
  grows =
      grows_by_next (refused_turn c.args.self.now.site.now c.args.fault) _ _ _
      c.loop-turn-test.true c.turn-item.is _ _ _ c.loop-turn.invariant.grows
      c.in_ok-refuse_deposit_by.ensures.handed;
  later = le_trans c.loop-turn.invariant.later c.in_ok-refuse_deposit_by.ensures.later;
}

pub returns-in_err-refuse_deposit_by-clause-handed :
    goal.returns-in_err-refuse_deposit_by-clause-handed
returns-in_err-refuse_deposit_by-clause-handed g c =
    rw (is_err _ _ c.from_residual.ensures.1)
    (part_within (refused_turn c.args.self.now.site.now c.args.fault) _ _ _ c.loop-turn-test.true
    c.turn-item.is _ _ _ c.loop-turn.invariant.grows c.in_err-refuse_deposit_by.ensures.handed)
