use Rattle.std.proofs.Common.{None, refl}
use Rattle.records.specs.SlotStates.{known_of}
use Rattle.site.proofs.Seen.{as_seen}
use Rattle.site.proofs.HeardMessages.{hears_ask, tells}
use Rattle.site.proofs.member_site.Site.answer_ask.Goals as goal

pub returns-in_ok-sends-in-Some : goal.returns-in_ok-sends-in-Some
returns-in_ok-sends-in-Some g c =
    tells g.C.Cell.device c.args.self.now c.args.self.now c.args.slot c.args.asker
    (record { line = None; sends = c.in_ok-sends-in-Some.sends }) c.in-Some.bag refl
    (rw c.number-from.ensures at c.in_ok-sends-in-Some.ensures) refl
    (as_seen (known_of c.args.slot) c.self.view_is (c.in-Some.ensures _ _ c.self.invariant.of))

pub returns-in-None : goal.returns-in-None
returns-in-None g c =
    hears_ask g.C.Cell.device c.args.self.now c.args.self.now c.args.slot c.args.asker
    c.quiet.result c.quiet.ensures refl
    (as_seen (known_of c.args.slot) c.self.view_is (c.in-None.ensures _ _ c.self.invariant.of))
