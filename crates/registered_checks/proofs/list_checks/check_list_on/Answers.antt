use Rattle.std.proofs.Common.{map, string_bytes, ap, ◌∙◌, ◌++◌}
use Rattle.registered_checks.specs.Checks.{Ends}
use Rattle.registered_checks.proofs.Listed.{agreed_to, answers_to, refused, refused_at}
use Rattle.registered_checks.proofs.list_checks.check_list_on.Goals as goal

pub returns-in-Ok-clause-ok : goal.returns-in-Ok-clause-ok
returns-in-Ok-clause-ok g c =
    let found = c.in-Ok.ensures.known in
    answers_to c.check_known_on.result
    (λ checked. Ends (g.W.CountedWrite.contents c.args.output.now)
    (g.W.CountedWrite.contents c.check_known_on.new.output) checked.answer.status
    (string_bytes checked.answer.text)) c.args.source.now c.args.detail
    (g.F.Folders.gives c.args.folders) (g.F.Folders.fails_at c.args.folders)
    (map (λ path. path.now) c.args.paths.now) c.as_slice.result.now (
      found.0,
      found.1,
      c.as_slice.ensures.value ∙ found.2 ∙ ap (λ l. l ++ found.0) c.new-known.ensures.items,
    )
    c.check_known_on.ensures.ok

pub returns-in-Ok-clause-zero : goal.returns-in-Ok-clause-zero
returns-in-Ok-clause-zero g c =
    let found = c.in-Ok.ensures.known in
    agreed_to c.check_known_on.result (λ checked. checked.answer.status) c.args.source.now
    (g.F.Folders.gives c.args.folders) (map (λ path. path.now) c.args.paths.now)
    c.as_slice.result.now (
      found.0,
      found.1,
      c.as_slice.ensures.value ∙ found.2 ∙ ap (λ l. l ++ found.0) c.new-known.ensures.items,
    )
    c.check_known_on.ensures.zero

pub returns-in_err-status-in-Err-clause-output : goal.returns-in_err-status-in-Err-clause-output
returns-in_err-status-in-Err-clause-output g c =
    λ is. refused_at c.args.source.now c.args.detail (g.F.Folders.gives c.args.folders)
    (g.F.Folders.fails_at c.args.folders) (map (λ path. path.now) c.args.paths.now)
    c.in-Err.fault c.in-Err.ensures.known (g.W.CountedWrite.contents c.args.output.now)
    (g.W.CountedWrite.contents c.write_fault.new.output) c.in_err-status-in-Err.ensures.output

pub returns-clause-ok : goal.returns-clause-ok
returns-clause-ok g c =
    refused c.args.source.now c.args.detail (g.F.Folders.gives c.args.folders)
    (g.F.Folders.fails_at c.args.folders) (map (λ path. path.now) c.args.paths.now)
    c.in-Err.fault c.in-Err.ensures.known (g.W.CountedWrite.contents c.args.output.now)
    (g.W.CountedWrite.contents c.write_fault.new.output) c.in_ok-status-in-Err.status
    (string_bytes c.new-text.result) c.in_ok-status-in-Err.ensures.ok c.new-text.ensures.bytes
