use Rattle.std.proofs.Common.{Ok, sym, ◌∙◌}
use Rattle.bag_check.specs.Check.{check_of}
use Rattle.site.specs.Calls.{on_deposit}
use Rattle.site.specs.Faults.{check_fault}
use Rattle.site.proofs.Seen.{error_of}
use Rattle.site.proofs.Refused.{check_refused, never_needs}
use Rattle.site.proofs.member_site.Site.deposit.Goals as goal

pub returns-in_err-bag-clause-answer : goal.returns-in_err-bag-clause-answer
returns-in_err-bag-clause-answer g c opened volatile stands =
    rw (error_of c.from_residual.result (check_fault c.in_err-bag.field-0.0)
    c.from_residual.ensures.1)
    (check_refused g.C.Cell.device c.args.self.now volatile c.args.slot.now
    (check_of c.args.facts.now) c.in_err-bag.field-0.0 c.in_err-bag.ensures.exact stands)

pub returns-clause-needs_open : goal.returns-clause-needs_open
returns-clause-needs_open g c =
    never_needs g.C.Cell.device c.self.view_is c.self.invariant.volatile
    (sym c.needs_opening.ensures ∙ c.if-needs_opening.false) c.register.new.self
    (λ volatile. on_deposit c.args.self.now.book.records volatile c.args.slot.now
    (Ok c.in_ok-bag.bag)) c.register.result c.register.ensures
