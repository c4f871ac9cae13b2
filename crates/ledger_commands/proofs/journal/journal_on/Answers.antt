use Rattle.std.proofs.Common.{◌++◌, arith, sym, subst, take, Ok, Err, IfSome}
use Rattle.std.specs.Io.KnownBytes.{Appends}
use Rattle.ledger.specs.Pieces.{HasGiven}
use Rattle.std.proofs.KnownBytes.{Consumes-trans, Consumes-kept}
use Rattle.ledger_commands.specs.inner.Journals.{IsAfterPiece}
use Rattle.ledger_commands.specs.Journals.{HasFirstLines}
use Rattle.ledger_commands.proofs.Listings.{answer_at_end, answer_before_end, answer_input}
use Rattle.ledger_commands.proofs.journal.journal_on.Goals as goal
use Rattle.ledger_commands.proofs.journal.journal_on.Goals.{At-reads, in-Ok+in-Ok-None}
use Rattle.ledger_commands.proofs.journal.journal_on.Goals.{in-Err+else-ne}
use Rattle.ledger_commands.proofs.journal.journal_on.Given.{Over}

pub returns-in-Ok-eq0 : goal.returns-in-Ok-eq0
returns-in-Ok-eq0 g c =
    let remaining = g.R.Read.remaining in
    let contents = g.W.Write.contents in
    let i = c.reads.invariant in
    let first = contents c.args.output.now in
    let its = answer_at_end (remaining c.args.cell.now) (remaining c.reads.cell) i.0 i.2 first
    (contents c.write_end.new.output) (remaining c.read.new.self) c.read.new.buf
    c.in-Ok-eq0.field-0 c.in-Ok-eq0.ensures.bytes c.in-Ok-eq0.field-0-test (omega arith)
    c.write_end.result (c.write_end.ensures i.0 i.1 first i.3 i.4) in
    record { ok = its.ok; input = its.input; output = its.output }

pub returns-in-Ok-Some : goal.returns-in-Ok-Some
returns-in-Ok-Some g c =
    let i = c.reads.invariant in
    let piece = take c.in-Ok.count c.read.new.buf in
    let lines = c.write_piece.new.lines in
    let first = g.W.Write.contents c.args.output.now in
    let new = g.W.Write.contents c.write_piece.new.output in
    let its = answer_before_end (g.R.Read.remaining c.args.cell.now)
    (g.R.Read.remaining c.reads.cell) i.0 i.2 first new (g.R.Read.remaining c.read.new.self)
    piece c.in-Ok.ensures.bytes.0 lines (Ok c.in-Ok-Some.status)
    (subst (λ o. IsAfterPiece (i.0 ++ piece) lines first new (Ok o)) c.in-Ok-Some.field-0-is
    (c.in-Ok-Some.ensures i.0 i.1 first i.3 i.4)) in
    record { ok = its.ok; input = its.input; output = its.output }

pub returns-in-Err-write_piece : goal.returns-in-Err-write_piece
returns-in-Err-write_piece g c =
    let remaining = g.R.Read.remaining in
    let contents = g.W.Write.contents in
    let i = c.reads.invariant in
    let its = answer_before_end (remaining c.args.cell.now) (remaining c.reads.cell) i.0 i.2
    (contents c.args.output.now) (contents c.write_piece.new.output)
    (remaining c.read.new.self) (take c.in-Ok.count c.read.new.buf) c.in-Ok.ensures.bytes.0
    c.write_piece.new.lines (Err c.in-Err-write_piece.fault)
    (c.in-Err-write_piece.ensures i.0 i.1 (contents c.args.output.now) i.3 i.4) in
    record { ok = its.ok; input = its.input; output = its.output }

-- a reader fails, or hasn't ended
unread : (g : Over) (c : At-reads g) → IfSome (g.R.Read.remaining c.args.cell.now)
    (HasFirstLines (g.W.Write.contents c.args.output.now) (g.W.Write.contents c.reads.output))
unread g c =
    let i = c.reads.invariant in
    answer_input (g.R.Read.remaining c.args.cell.now) (g.R.Read.remaining c.reads.cell) i.0 i.2
    (g.W.Write.contents c.args.output.now) (g.W.Write.contents c.reads.output) c.reads.lines
    i.1 i.3 i.4

pub returns-then-ne-clause-input : goal.returns-then-ne-clause-input
returns-then-ne-clause-input g c =
    λ err. unread g (goal.at.returns-then-ne-clause-input g c).At-reads

pub returns-clause-input : goal.returns-clause-input
returns-clause-input g c = λ err. unread g (goal.at.returns-clause-input g c).At-reads

pub reads-preserved : goal.reads-preserved
reads-preserved g c =
    let remaining = g.R.Read.remaining in
    let contents = g.W.Write.contents in
    let i = c.reads.invariant in
    let first = contents c.args.output.now in
    let a = remaining c.args.cell.now in
    let b = remaining c.reads.cell in
    let after = remaining c.read.new.self in
    elim c.match-read.branch [
      | in-Ok+in-Ok-None w ↦
          let piece = take w.in-Ok.count c.read.new.buf in
          let lines = w.write_piece.new.lines in
          let new = contents w.write_piece.new.output in
          let more = subst (λ o. IsAfterPiece (i.0 ++ piece) lines first new (Ok o))
          w.in-Ok-None.field-0-is (w.in-Ok-None.ensures i.0 i.1 first i.3 i.4) in (
            i.0 ++ piece,
            more.0,
            Consumes-trans a b after i.0 piece i.2 w.in-Ok.ensures.bytes.0,
            subst (λ l. HasGiven l (i.0 ++ piece) more.0) (sym w.lines-is) more.1,
            subst (λ o. Appends first (contents o) more.0) (sym w.output-is) more.2,
          )
      | in-Err+else-ne w ↦ (
        i.0,
        i.1,
        Consumes-kept a b after i.0 i.2 w.in-Err.ensures.bytes,
        subst (λ l. HasGiven l i.0 i.1) (sym w.lines-is) i.3,
        subst (λ o. Appends first (contents o) i.1) (sym w.output-is) i.4,
      )
    ]
