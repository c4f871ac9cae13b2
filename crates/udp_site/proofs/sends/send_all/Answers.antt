use Rattle.std.proofs.Common.{le_refl, le_trans}
use Rattle.udp_site.specs.Turns.{outgoing_posts}
use Rattle.udp_site.proofs.Handed.{grows_by_no_posts, grows_by_next, part_within, is_err}
use Rattle.udp_site.proofs.sends.send_all.Goals as goal

pub loop-sealed-init : goal.loop-sealed-init
loop-sealed-init g c = record {
  grows = grows_by_no_posts (g.P.Port.traffic c.args.port.now);
  later = le_refl _;
}

pub loop-sealed-preserved : goal.loop-sealed-preserved
loop-sealed-preserved g c = record {
  grows =
      grows_by_next (outgoing_posts c.args.addresses.now) _ _ _ c.loop-sealed-test.true
      c.sealed-item.is _ _ _ c.loop-sealed.invariant.grows
      (rw c.deref.ensures.value at c.in_ok-send_to_site.ensures.hands);
  later = le_trans c.loop-sealed.invariant.later c.in_ok-send_to_site.ensures.later;
}

pub returns-in_err-send_to_site-clause-hands : goal.returns-in_err-send_to_site-clause-hands
returns-in_err-send_to_site-clause-hands g c =
    rw (is_err _ _ c.from_residual.ensures.1)
    (part_within (outgoing_posts c.args.addresses.now) _ _ _ c.loop-sealed-test.true
    c.sealed-item.is _ _ _ c.loop-sealed.invariant.grows
    (rw c.deref.ensures.value at c.in_err-send_to_site.ensures.hands))
