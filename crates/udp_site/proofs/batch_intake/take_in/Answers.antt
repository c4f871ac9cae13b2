use Rattle.std.proofs.Common.{arith, ap, List, ◌∙◌, ◌++◌, ◌∷◌, []}
use Rattle.udp_site.specs.declared.turn.Turn.{Turn}
use Rattle.udp_site.proofs.Intake.{all_taken_in}
use Rattle.udp_site.proofs.batch_intake.take_in.Goals as goal

pub returns-clause-taken : goal.returns-clause-taken
returns-clause-taken g c =
    let turn = c.in_ok-first.first in
    all_taken_in (g.P.Port.traffic c.args.port.now) (g.P.Port.traffic c.take_first.new.port)
    (g.P.Port.traffic c.take_more.new.port) c.args.carried.now c.take_more.result turn
    c.push_reserved.new.self.items c.take_more.new.batch.items
    (c.push_reserved.ensures.items
    ∙ ap (λ (l : List Turn). l ++ turn ∷ []) c.in_ok-batch.ensures.items)
    c.in_ok-first.ensures.first c.take_more.ensures.joined
    (omega (arith, c.take_more.ensures.count, c.min-most.ensures))
