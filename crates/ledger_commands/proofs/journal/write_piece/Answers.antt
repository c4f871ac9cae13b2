use Rattle.std.proofs.Common.{◌++◌, Err, Result, sym, subst, take, ℕ, ◌≡◌}
use Rattle.std.specs.Prelude.{string_bytes}
use Rattle.std.specs.Io.KnownBytes.{Appends}
use Rattle.std.proofs.KnownBytes.{Appends-trans}
use Rattle.outcomes.specs.declared.fault.ProgramFault.{ProgramFault}
use Rattle.outcomes.specs.declared.fault.ProgramFault.TheVariants.{Output}
use Rattle.ledger.specs.Pieces.{IsTaken}
use Rattle.ledger_commands.specs.inner.Journals.{IsAfterPiece}
use Rattle.ledger_commands.proofs.Listings.{wrote_last, wrote_memory, wrote_part, after_piece}
use Rattle.ledger_commands.proofs.Listings.{lines_before}
use Rattle.ledger_commands.proofs.journal.write_piece.Goals as goal

pub returns-in-Ok : goal.returns-in-Ok
returns-in-Ok g c = λ taken text first given had.
    let contents = g.W.Write.contents in
    let old = contents c.args.output.now in
    let new = contents c.write_output.new.output in
    let more = string_bytes c.in-Ok-More.text in (
      text ++ more,
      subst (IsTaken c.take.new.self (taken ++ c.args.piece.now) text) c.in-Ok-More.field-0-is
          (c.in-Ok-More.ensures taken text given),
      Appends-trans first old new text more had
          (subst (Appends old new) c.as_str.ensures.value c.in-Ok.ensures.ok.1),
    )

pub returns-in-Ok-More : goal.returns-in-Ok-More
returns-in-Ok-More g c = λ taken text first given had.
    let contents = g.W.Write.contents in
    let old = contents c.args.output.now in
    let new = contents c.write_output.new.output in
    let all = taken ++ c.args.piece.now in
    let more = string_bytes c.in-Ok-More.text in
    let fault = c.in-Err-write_output.fault in
    wrote_part first old new text had all c.take.new.self more
    (subst (IsTaken c.take.new.self all text) c.in-Ok-More.field-0-is
    (c.in-Ok-More.ensures taken text given)) fault
    (subst (λ t. (◌≡◌ {A = Result ℕ ProgramFault} (Err fault) (Err Output))
    × ((n : ℕ) × Appends old new (take n t)))
    c.as_str.ensures.value c.in-Err-write_output.ensures.err)

pub returns-in-Ok-Last : goal.returns-in-Ok-Last
returns-in-Ok-Last g c = λ taken text first given had.
    let contents = g.W.Write.contents in
    let old = contents c.args.output.now in
    let new = contents c.write_last.new.output in
    let all = taken ++ c.args.piece.now in
    let last = c.in-Ok-Last.last in
    subst (IsAfterPiece all c.take.new.self first new) (sym c.some_status.ensures)
    (after_piece all c.take.new.self first new c.write_last.result
    (λ more. wrote_last first old new text had (all ++ more) last.ending (string_bytes last.text)
    (subst (IsTaken c.take.new.self all text) c.in-Ok-Last.field-0-is
    (c.in-Ok-Last.ensures taken text given) more)
    c.write_last.result c.write_last.ensures.ok c.write_last.ensures.err))

pub returns : goal.returns
returns g c = λ taken text first given had.
    let contents = g.W.Write.contents in
    let old = contents c.args.output.now in
    let new = contents c.write_output-in-Err.new.output in
    let all = taken ++ c.args.piece.now in
    subst (IsAfterPiece all c.take.new.self first new) (sym c.some_status-in-Err.ensures)
    (after_piece all c.take.new.self first new c.write_output-in-Err.result
    (λ more. wrote_memory first old new text had (all ++ more)
    (lines_before c.args.lines.now taken text c.args.piece.now more given)
    c.write_output-in-Err.result c.write_output-in-Err.ensures.ok
    c.write_output-in-Err.ensures.err))
