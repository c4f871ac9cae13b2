use Rattle.std.proofs.Common.{List, ℕ, ap, ◌∙◌}
use Rattle.fed_types.specs.Sites.{members_of}
use Rattle.dgram.specs.Encoding.{datagram_of}
use Rattle.site.proofs.Sent.{sent, next_sent, all_sent}
use Rattle.site.proofs.datagrams.to_all.Goals as goal

pub loop-to-init : goal.loop-to-init
loop-to-init c = (
  tt,
  tt,
  rw c.in_ok-sends.ensures.items (ap (sent c.args.members.federation c.args.message.now)
      (c.into_iter-to-iterator.ensures.into_iter_gives ∙ c.sites-to-items.ensures)),
)

pub loop-to-preserved : goal.loop-to-preserved
loop-to-preserved c =
    let federation = c.args.members.federation in
    let m = c.args.message.now in (
      tt,
      tt,
      rw c.in_ok-push.ensures.items
          (next_sent federation m c.loop-to.sends.items c.loop-to.to-iterator
          (sent federation m (members_of c.args.members)) c.loop-to.invariant.2 c.in-Some.to
          c.next.new.self c.in_ok-addressed.field-0 c.in-Some.ensures.steps
          (c.in_ok-addressed.ensures
          ∙ ap (λ (bytes : List ℕ). (c.in-Some.to, bytes))
          (c.deref.ensures.value
          ∙ (c.in_ok-bytes.ensures ∙ ap (λ (f : ℕ). datagram_of f m) c.federation.ensures)))),
    )

pub returns : goal.returns
returns c = all_sent c.args.members.federation c.args.message.now c.loop-to.sends.items
    c.loop-to.to-iterator (sent c.args.members.federation c.args.message.now
    (members_of c.args.members)) c.loop-to.invariant.2 c.in-None.ensures.steps.0
