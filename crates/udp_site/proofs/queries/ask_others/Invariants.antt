use Rattle.std.proofs.Common.{◌≡◌, ◌≤◌}
use Rattle.udp_site.specs.Turns.{Serving, IsServing}
use Rattle.udp_site.proofs.Questions.{AskedBut}
use Rattle.udp_site.proofs.queries.ask_others.Given as goal

-- the others of the members so far were asked
abbrev pub invariant-loop-member : goal.invariant-loop-member
invariant-loop-member g l =
    (goal.iterator-loop-member g).can_next l.member-iterator
    × (goal.iterator-loop-member g).is_finite l.member-iterator
    × ((old : Serving g.row.C.Denot) → old.site ≡ l.site → IsServing old
    → AskedBut l.addresses old l.slot l.member-iterator (g.P.Port.traffic l.fn.port)
    (g.P.Port.traffic l.port) l.fn.lines.items l.lines.items)
    × (g.P.Port.failures l.fn.port ≤ g.P.Port.failures l.port)
