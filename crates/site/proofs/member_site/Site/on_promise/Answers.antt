use Rattle.std.proofs.Common.{refl}
use Rattle.site.proofs.HeardMessages.{hears_promise, hears_last_promise, stays_in_order}
use Rattle.site.proofs.member_site.Site.on_promise.Goals as goal

pub invariant_of-self : goal.invariant_of-self
invariant_of-self g c =
    stays_in_order c.self.inside.book c.self.inside.tables c.promise.new.self
    c.in-Some.ensures.of
    (λ volatile under stands. (_, (_, c.in-Some.ensures.heard _ volatile under stands)))
    c.self.invariant

pub invariant_of-self-in-None-1 : goal.invariant_of-self-in-None-1
invariant_of-self-in-None-1 g c =
    stays_in_order c.self.inside.book c.self.inside.tables c.promise.new.self
    c.in-None.ensures.of
    (λ volatile under stands. (_, (_, c.in-None.ensures.heard _ volatile under stands)))
    c.self.invariant

pub returns-in-Some : goal.returns-in-Some
returns-in-Some g c =
    rw (← c.self.view_is) (
    hears_last_promise g.C.Cell.device _ _ c.args.slot c.args.from c.args.ballot c.args.prior
    (record { book = c.self.inside.book; tables = c.promise.new.self }) c.in-Some.bag
    c.ask_for_votes.result refl
    (λ volatile under stands. c.in-Some.ensures.ready _ _ volatile under c.self.invariant.of stands)
    (c.in-Some.ensures.heard c.self.inside.book.records) c.ask_for_votes.ensures)

pub returns-in-None : goal.returns-in-None
returns-in-None g c =
    rw (← c.self.view_is) (
    hears_promise g.C.Cell.device _ _ c.args.slot c.args.from c.args.ballot c.args.prior
    c.quiet.result c.quiet.ensures refl
    (λ volatile under stands. c.in-None.ensures.ready _ _ volatile under c.self.invariant.of stands)
    (c.in-None.ensures.heard c.self.inside.book.records))
