use Rattle.std.proofs.Common.{◌≡◌, ◌+◌, ◌++◌, length, map}
use Rattle.site.specs.Datagrams.{handed_out}
use Rattle.sim_stations.specs.DatagramNumbers.{RepresentsSame}
use Rattle.simulator.specs.Sent.{lines_sent, places_from}
use Rattle.simulator.proofs.sends.send_all.Given as goal

-- those that were yielded were sent
abbrev pub invariant-loop-sealed : goal.invariant-loop-sealed
invariant-loop-sealed l =
    (l.lines.items ≡ l.fn.lines.items
    ++ lines_sent (length l.fn.sent.sent + 1) (map handed_out l.yielded))
    × (l.sent.sent ≡ l.fn.sent.sent ++ places_from (length l.fn.lines.items) (length l.yielded))
    × RepresentsSame l.fn.sent l.sent
