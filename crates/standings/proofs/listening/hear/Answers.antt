use Rattle.std.proofs.Common.{arith}
use Rattle.standings.specs.Rounds.{hears}
use Rattle.standings.proofs.Rounds.{one_more}
use Rattle.standings.proofs.listening.hear.Goals as goal

pub loop-polled-preserved : goal.loop-polled-preserved
loop-polled-preserved c =
    one_more c.args.sites.now c.loop-polled.sites c.loop-polled.polled-index c.polled-item.result
    c.loop-polled.invariant.1
    (hears c.args.federation c.args.from c.args.bytes.now c.args.millis) c.hear_one.new.polled
    (omega arith) (omega arith) c.in_ok-hear_one.ensures c.loop-polled.invariant.0
