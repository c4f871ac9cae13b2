use Rattle.std.proofs.Common.{[], sym, ◌∙◌}
use Rattle.udp_site.specs.Requests.{request_of}
use Rattle.udp_site.specs.Turns.{turn_of, members}
use Rattle.udp_site.proofs.KeptRecords.{settled_after}
use Rattle.udp_site.proofs.TurnEnds.{not_begun, broken_off, went_on, by_the_cell, on_ok}
use Rattle.udp_site.proofs.Handed.{is_err}
use Rattle.udp_site.proofs.Stopped.{last_needs_opening}
use Rattle.udp_site.proofs.server.Server.one_turn.Goals as goal

pub returns-in_err-turn-clause-turn : goal.returns-in_err-turn-clause-turn
returns-in_err-turn-clause-turn g c old stands =
    let was = c.args.self.now in
    rw (is_err _ _ c.from_residual.ensures.1)
    (not_begun (turn_of g.C.Cell.device was.addresses.now (g.F.Folders.gives was.folders.now)) _ _
    old _ was.progress.idle was.progress.tried _ c.in_err-turn.ensures.received stands.there)

pub returns-in_err-handle_turn-clause-turn : goal.returns-in_err-handle_turn-clause-turn
returns-in_err-handle_turn-clause-turn g c old stands =
    let was = c.args.self.now in
    rw (is_err _ _ c.from_residual-in_err-handle_turn.ensures.1)
    (broken_off (turn_of g.C.Cell.device was.addresses.now (g.F.Folders.gives was.folders.now)) _ _
    old _ _ _ _ _ [] [] c.in_ok-turn.ensures.received _
    (c.in_err-handle_turn.ensures.turn.comes old stands))

pub returns-then-is_refused-clause-turn : goal.returns-then-is_refused-clause-turn
returns-then-is_refused-clause-turn g c old stands =
    let was = c.args.self.now in
    let gives = g.F.Folders.gives was.folders.now in
    let last = by_the_cell (turn_of g.C.Cell.device was.addresses.now gives) _ _ old _ _ _ _ _ _ _
    c.in_ok-turn.ensures.received c.clear.ensures.items
    (c.in_ok-handle_turn.ensures.turn.comes old stands) c.write_lines-written.result
    (sym c.if-is_refused.true ∙ rw c.deref-2.ensures.value at c.is_refused.ensures)
    (rw c.deref.ensures.value at c.write_lines-written.ensures.whole)
    (rw c.deref.ensures.value at c.write_lines-written.ensures.part) in (
      last,
      rw (← last.3)
          (last_needs_opening g.C.Cell.device was.addresses.now last.1 last.0.done last.4 gives old
          (request_of (members old).federation last.0.took) last.2),
    )

pub returns-clause-turn : goal.returns-clause-turn
returns-clause-turn g c old stands =
    let was = c.args.self.now in
    went_on (turn_of g.C.Cell.device was.addresses.now (g.F.Folders.gives was.folders.now)) _ _ old
    _ _ _ _ _ _ _ c.in_ok-turn.ensures.received c.clear.ensures.items
    (c.in_ok-handle_turn.ensures.turn.comes old stands) _
    (sym c.if-is_refused.false ∙ rw c.deref-2.ensures.value at c.is_refused.ensures)
    (rw c.deref.ensures.value at c.write_lines-written.ensures.whole)
    (rw c.deref.ensures.value at c.write_lines-written.ensures.part)
    c.write_lines-written.ensures.none c.write_lines-written.ensures.fault

pub returns-clause-settled : goal.returns-clause-settled
returns-clause-settled g c =
    let was = c.args.self.now in
    on_ok c.write_lines-written.result
    (λ old stands.
    let came = c.in_ok-handle_turn.ensures.turn.comes old stands in
    settled_after g.C.Cell.device was.addresses.now (g.F.Folders.gives was.folders.now) old
    _ _ _ _ _ came.2.0 came.3
    (rw stands.there (c.in_ok-handle_turn.ensures.turn.settled stands.settled)))
