use Rattle.acceptor.specs.Decisions.{prepare_decision}
use Rattle.site.proofs.Seen.{as_seen}
use Rattle.site.proofs.HeardMessages.{hears_prepare}
use Rattle.site.proofs.member_site.Site.on_prepare.Goals as goal

pub returns : goal.returns
returns g c =
    hears_prepare g.C.Cell.device c.args.self.now c.decide.new.self c.args.slot c.decide.result
    c.args.ballot c.site.result c.prepare-decision.result c.site.ensures
    (as_seen (λ records. prepare_decision c.args.slot records c.args.ballot) c.self.view_is
    (c.prepare-decision.ensures _ _ c.self.invariant.of))
    c.decide.ensures
