use Rattle.std.proofs.Common.{refl}
use Rattle.learner.specs.LearnedBags.{learned_of_known}
use Rattle.site.proofs.Seen.{as_seen}
use Rattle.site.proofs.HeardMessages.{hears_told, hears_told_nothing}
use Rattle.site.proofs.member_site.Site.on_known.Goals as goal

pub returns-in-Some : goal.returns-in-Some
returns-in-Some g c =
    λ from. hears_told g.C.Cell.device c.args.self.now c.learn.new.self c.args.slot from c.args.bag
    c.in-Some.bag c.learn.result
    (as_seen (λ records. learned_of_known c.args.slot records c.args.bag) c.self.view_is
    (c.in-Some.ensures _ _ c.self.invariant.of))
    c.learn.ensures

pub returns-in-None : goal.returns-in-None
returns-in-None g c =
    λ from. hears_told_nothing g.C.Cell.device c.args.self.now c.args.self.now c.args.slot from
    c.args.bag c.quiet.result c.quiet.ensures refl
    (as_seen (λ records. learned_of_known c.args.slot records c.args.bag) c.self.view_is
    (c.in-None.ensures _ _ c.self.invariant.of))
