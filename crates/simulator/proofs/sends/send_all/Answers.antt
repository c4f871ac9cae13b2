use Rattle.std.proofs.Common.{sym, append-nil}
use Rattle.simulator.specs.Sent.{lines_sent, places_from}
use Rattle.simulator.proofs.Sent.{line_more, place_more}
use Rattle.simulator.proofs.sends.send_all.Goals as goal

pub loop-sealed-init : goal.loop-sealed-init
unfolding lines_sent places_from
loop-sealed-init c =
    (sym (append-nil c.args.lines.now.items), sym (append-nil c.args.sent.now.sent), λ named is. is)

pub loop-sealed-preserved : goal.loop-sealed-preserved
loop-sealed-preserved c = (
  line_more c.args.lines.now.items c.loop-sealed.lines.items c.send.new.lines.items
      c.args.sent.now.sent c.loop-sealed.sent.sent c.send.new.sent.sent c.loop-sealed.yielded
      c.in-Some.sealed c.loop-sealed.invariant.0 c.loop-sealed.invariant.1
      c.in_ok-send.ensures.lines,
  place_more c.args.lines.now.items c.loop-sealed.lines.items c.send.new.lines.items
      c.args.sent.now.sent c.loop-sealed.sent.sent c.send.new.sent.sent c.loop-sealed.yielded
      c.in-Some.sealed c.loop-sealed.invariant.0 c.loop-sealed.invariant.1
      c.in_ok-send.ensures.sent,
  λ named is. c.in_ok-send.ensures.named named (c.loop-sealed.invariant.2 named is),
)
