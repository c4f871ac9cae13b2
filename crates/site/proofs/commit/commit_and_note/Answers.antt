use Rattle.std.proofs.Common.{refl}
use Rattle.site.specs.Faults.{commit_fault}
use Rattle.site.specs.declared.fault.SiteFault.TheVariants as faults
use Rattle.site.proofs.Seen.{error_of}
use Rattle.site.proofs.Committed.{not_tried, refused, done}
use Rattle.site.proofs.commit.commit_and_note.Goals as goal

pub returns-in_err-reserve : goal.returns-in_err-reserve
returns-in_err-reserve g c =
    not_tried g.C.Cell.device _ _ c.args.new _
    (error_of c.from_residual.result faults.Memory c.from_residual.ensures.1) refl
    c.reserve.ensures.same

pub returns-in_err-noted : goal.returns-in_err-noted
returns-in_err-noted g c =
    not_tried g.C.Cell.device _ _ c.args.new _
    (error_of c.from_residual-in_err-noted.result faults.Memory
    c.from_residual-in_err-noted.ensures.1)
    refl c.reserve.ensures.same

pub returns-in_err-commit : goal.returns-in_err-commit
returns-in_err-commit g c =
    refused g.C.Cell.device _ _ c.args.new _ c.in_err-commit.field-0.0
    (error_of c.from_residual-in_err-commit.result (commit_fault c.in_err-commit.field-0.0)
    c.from_residual-in_err-commit.ensures.1)
    (λ e. absurd (cc (c.in_err-commit.ensures.needs_open.0 (cc), c.requires)))
    (c.in_err-commit.ensures.commits c.requires) c.reserve.ensures.same

pub returns : goal.returns
returns g c =
    done g.C.Cell.device _ _ c.args.new c.reserve.new.self
    (c.in_ok-commit.ensures.commits c.requires) c.reserve.ensures.same
    (λ of. rw c.in_ok-noted.ensures at (c.note.ensures.of _ _ of))
    (λ volatile under stands.
    rw c.in_ok-noted.ensures at (c.note.ensures.stands _ volatile under stands))
