use Rattle.site.proofs.Conclusions.{concludes_err}
use Rattle.site.proofs.Seen.{error_of}
use Rattle.site.proofs.member_site.Site.commit_and_answer.Goals as goal

pub returns-in_err-commit_and_note : goal.returns-in_err-commit_and_note
returns-in_err-commit_and_note g c =
    rw (
      ← c.self.view_is,
      error_of c.from_residual.result c.in_err-commit_and_note.field-0.0 c.from_residual.ensures.1,
    ) (concludes_err g.C.Cell.device _ _ _ _ _ _ c.in_err-commit_and_note.ensures)
