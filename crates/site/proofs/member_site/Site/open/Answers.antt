use Rattle.site.proofs.Seen.{error_of}
use Rattle.site.proofs.Reopened.{closed_again}
use Rattle.site.proofs.member_site.Site.open.Goals as goal

pub returns-in_err-book-clause-opened : goal.returns-in_err-book-clause-opened
returns-in_err-book-clause-opened g c =
    rw (error_of c.from_residual.result c.in_err-book.field-0.0 c.from_residual.ensures.1)
    c.in_err-book.ensures

pub returns-in-Err-clause-opened : goal.returns-in-Err-clause-opened
returns-in-Err-clause-opened g c =
    closed_again g.C.Cell.device c.args.owner c.args.cell c.close.result c.in_ok-book.book
    c.close.ensures.cell c.in_ok-book.ensures
