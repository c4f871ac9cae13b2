use Rattle.std.proofs.Common.{Vec, Global, map, string_bytes, ℕ, Err, ap}
use Rattle.registered_checks.specs.Checks.{Ends}
use Rattle.registered_checks.specs.Files.{EndsOn}
use Rattle.registered_checks.proofs.Said.{ends_on, zero_on}
use Rattle.registered_checks.proofs.Opened.{answers_file, read_of}
use Rattle.registered_checks.proofs.file_checks.check_registered_on.Goals as goal

pub returns-clause-ok : goal.returns-clause-ok
returns-clause-ok g c =
    let contents = g.W.CountedWrite.contents in
    let failures = g.W.CountedWrite.failures in
    let task = c.args.task.now in
    let answer = c.in_ok-answer.answer in
    let read = c.source_bytes-source.ensures in
    answers_file {V = Vec ℕ Global} (λ bytes. bytes.items) c.source_bytes-source.result
    (g.S.SourceFiles.bytes_at c.args.files.now c.args.list.now) c.args.folders
    g.F.Folders.gives g.F.Folders.fails_at task.detail
    (map (λ path. path.now) task.paths.items)
    (Ends (contents c.args.output.now) (contents c.check_source_on.new.output) answer.status
    (string_bytes answer.text))
    (EndsOn task.versions (contents c.args.output.now) (contents c.say_as_asked.new.output)
    (failures c.args.output.now) (failures c.say_as_asked.new.output)
    (g.E.CountedWrite.contents c.args.errors.now)
    (g.E.CountedWrite.contents c.say_as_asked.new.errors)
    (g.E.CountedWrite.failures c.args.errors.now)
    (g.E.CountedWrite.failures c.say_as_asked.new.errors) c.say_as_asked.result)
    read.bytes read.fault read.unread
    (ends_on task.versions (contents c.args.output.now) (contents c.check_source_on.new.output)
    (contents c.say_as_asked.new.output) (failures c.args.output.now)
    (failures c.check_source_on.new.output) (failures c.say_as_asked.new.output)
    (g.E.CountedWrite.contents c.args.errors.now)
    (g.E.CountedWrite.contents c.say_as_asked.new.errors)
    (g.E.CountedWrite.failures c.args.errors.now)
    (g.E.CountedWrite.failures c.say_as_asked.new.errors) answer.status c.say_as_asked.result
    (string_bytes answer.text) (c.in_ok-answer.ensures.cause.same (λ is. cc is))
    c.say_as_asked.ensures)
    (rw c.as_slice-paths.ensures.value at c.in_ok-answer.ensures.ok)

pub returns-clause-zero : goal.returns-clause-zero
returns-clause-zero g c =
    let read = c.source_bytes-source.ensures in
    λ zero. read_of {V = Vec ℕ Global} (λ bytes. bytes.items) c.source_bytes-source.result
    (g.S.SourceFiles.bytes_at c.args.files.now c.args.list.now) c.args.folders _ _
    read.bytes read.fault read.unread
    (rw c.as_slice-paths.ensures.value at (c.in_ok-answer.ensures.zero
    (zero_on c.args.task.now.versions _ _ _ _ _ _ _ _ c.in_ok-answer.answer.status
    c.say_as_asked.result _ c.say_as_asked.ensures zero)))

pub returns-in_err-answer-clause-output : goal.returns-in_err-answer-clause-output
returns-in_err-answer-clause-output g c =
    let read = c.source_bytes-source.ensures in
    let stopped = c.in_err-answer.ensures in
    λ is. read_of {V = Vec ℕ Global} (λ bytes. bytes.items) c.source_bytes-source.result
    (g.S.SourceFiles.bytes_at c.args.files.now c.args.list.now) c.args.folders _ _
    read.bytes read.fault read.unread
    (rw c.as_slice-paths.ensures.value at (stopped.output (ap Err stopped.fault)))
