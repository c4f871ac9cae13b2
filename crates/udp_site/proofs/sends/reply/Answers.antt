use Rattle.std.proofs.Common.{◌≡◌, [], ◌∷◌}
use Rattle.udp_site.specs.Turns.{replies_to}
use Rattle.udp_site.proofs.Handed.{is_err}
use Rattle.udp_site.proofs.sends.reply.Given.{Over}
use Rattle.udp_site.proofs.sends.reply.Goals.{After-send}
use Rattle.udp_site.proofs.sends.reply.Goals as goal

-- what is handed is the message's datagram
datagram : (g : Over) (c : After-send g) → (c.args.to, c.deref.result.now) ∷ []
    ≡ replies_to c.args.federation c.args.to c.args.slot c.args.body
datagram g c =
    rw (
      c.deref.ensures.value,
      c.in_ok-encode.ensures.puts.puts.appended,
      c.in_ok-bytes.ensures.items,
    )

pub returns-clause-hands : goal.returns-clause-hands
returns-clause-hands g c =
    rw (datagram g (goal.at.returns-clause-hands g c).After-send) at c.in_ok-send.ensures.hands

pub returns-in_err-send-clause-hands : goal.returns-in_err-send-clause-hands
returns-in_err-send-clause-hands g c =
    rw (is_err _ _ c.from_residual-in_err-send.ensures.1)
    (rw (datagram g (goal.at.returns-in_err-send-clause-hands g c).After-send) at
    c.in_err-send.ensures.hands)
