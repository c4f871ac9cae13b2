use Rattle.acceptor.specs.Decisions.{accept_decision}
use Rattle.site.proofs.Seen.{as_seen}
use Rattle.site.proofs.HeardMessages.{hears_accept}
use Rattle.site.proofs.member_site.Site.on_accept.Goals as goal

pub returns : goal.returns
returns g c =
    hears_accept g.C.Cell.device c.args.self.now c.decide.new.self c.args.slot c.decide.result
    c.args.vote c.site-asker.result c.accept-decision.result c.site-asker.ensures
    (as_seen (λ records. accept_decision c.args.slot records c.args.vote) c.self.view_is
    (c.accept-decision.ensures _ _ c.self.invariant.of))
    c.decide.ensures
