use Rattle.std.proofs.Common.{map, string_bytes, ap, ◌∙◌}
use Rattle.registered_checks.proofs.Agreed.{agreed}
use Rattle.registered_checks.proofs.Compared.{compared_on, stopped_on}
use Rattle.registered_checks.proofs.known_checks.check_known_on.Goals as goal

pub returns-in_err-answer-clause-output : goal.returns-in_err-answer-clause-output
returns-in_err-answer-clause-output g c =
    λ is. stopped_on c.args.detail (g.F.Folders.fails_at c.args.folders)
    (map (λ path. path.now) c.args.paths.now) (g.W.CountedWrite.contents c.args.output.now)
    (g.W.CountedWrite.contents c.check_all_on.new.output)
    (g.W.CountedWrite.contents c.answer_or_memory.new.output) c.in_ok-status.status
    (g.F.Folders.gives c.args.folders) c.in_err-answer.ensures.err.0
    c.in_err-answer.ensures.err.1 (rw c.new-folders.ensures at c.in_ok-status.ensures.ok)

pub returns-clause-ok : goal.returns-clause-ok
returns-clause-ok g c =
    compared_on c.args.detail (g.F.Folders.fails_at c.args.folders)
    (map (λ path. path.now) c.args.paths.now) (g.W.CountedWrite.contents c.args.output.now)
    (g.W.CountedWrite.contents c.check_all_on.new.output)
    (g.W.CountedWrite.contents c.answer_or_memory.new.output) c.in_ok-status.status c.args.known.now
    (g.F.Folders.gives c.args.folders) (g.F.Folders.gives c.check_all_on.new.folders.folders)
    c.comparison_of-comparison.result c.in_ok-answer.answer
    (c.in_ok-status.ensures.kept ∙ ap g.F.Folders.gives c.new-folders.ensures)
    (rw c.new-folders.ensures at c.in_ok-status.ensures.ok) c.comparison_of-comparison.ensures
    c.in_ok-answer.ensures.ok

pub returns-clause-zero : goal.returns-clause-zero
returns-clause-zero g c =
    λ zero. agreed c.args.detail (g.F.Folders.fails_at c.args.folders)
    (map (λ path. path.now) c.args.paths.now) c.args.known.now
    (g.W.CountedWrite.contents c.args.output.now)
    (g.W.CountedWrite.contents c.answer_or_memory.new.output)
    c.in_ok-answer.answer.status (string_bytes c.in_ok-answer.answer.text)
    (g.F.Folders.gives c.args.folders) (returns-clause-ok g c) zero
