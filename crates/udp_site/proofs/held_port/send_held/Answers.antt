use Rattle.std.proofs.Common.{le_refl, le_trans}
use Rattle.udp_site.proofs.Handed.{grows_by_no_posts, grows_by_next, part_within, is_err}
use Rattle.udp_site.proofs.HeldMore.{one}
use Rattle.udp_site.proofs.held_port.send_held.Goals as goal

pub loop-post-init : goal.loop-post-init
loop-post-init g c = record {
  grows = grows_by_no_posts (g.P.Port.traffic c.args.port.now);
  later = le_refl _;
}

pub loop-post-preserved : goal.loop-post-preserved
loop-post-preserved g c = record {
  grows =
      grows_by_next one _ _ _ c.loop-post-test.true c.post-item.is _ _ _ c.loop-post.invariant.grows
      (rw c.deref.ensures.value at c.in_ok-send.ensures.hands);
  later = le_trans c.loop-post.invariant.later c.in_ok-send.ensures.later;
}

pub returns-in_err-send-clause-hands : goal.returns-in_err-send-clause-hands
returns-in_err-send-clause-hands g c =
    rw (is_err _ _ c.from_residual.ensures.1)
    (part_within one _ _ _ c.loop-post-test.true c.post-item.is _ _ _ c.loop-post.invariant.grows
    (rw c.deref.ensures.value at c.in_err-send.ensures.hands))
