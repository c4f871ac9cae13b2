use Rattle.std.proofs.Common.{sym}
use Rattle.udp_site.proofs.Search.{found_first, found_again}
use Rattle.udp_site.proofs.idle_turns.next_waiting.Goals as goal

pub returns-in-Some-clause-next : goal.returns-in-Some-clause-next
returns-in-Some-clause-next g c are =
    sym (found_first c.args.site.now.book.records c.args.from c.args.settled c.max.result are
    c.max.ensures c.in-Some.place c.in-Some.ensures.first)

pub returns-in-None-clause-next : goal.returns-in-None-clause-next
returns-in-None-clause-next g c are =
    sym (found_again c.args.site.now.book.records c.args.from c.args.settled c.max.result are
    c.max.ensures c.first_waiting-in-None.result c.in-None.ensures.first
    c.first_waiting-in-None.ensures.first)
