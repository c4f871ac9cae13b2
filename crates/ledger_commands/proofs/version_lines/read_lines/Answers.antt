use Rattle.std.proofs.Common.{◌++◌, arith, sym, subst, take}
use Rattle.std.specs.Prelude.{string_bytes}
use Rattle.std.proofs.KnownBytes.{Consumes-trans, Consumes-kept}
use Rattle.ledger.specs.LedgerPieces.{HasNoted, IsLedgerText, IsNoted}
use Rattle.ledger_commands.proofs.Listings.{read_end, at_end, of_all}
use Rattle.ledger_commands.proofs.version_lines.read_lines.Goals as goal
use Rattle.ledger_commands.proofs.version_lines.read_lines.Goals.{in-Ok+in_ok-last-in-Ok+in-None}
use Rattle.ledger_commands.proofs.version_lines.read_lines.Goals.{in-Err+else-ne}

pub returns-in-Ok-eq0 : goal.returns-in-Ok-eq0
returns-in-Ok-eq0 g c =
    let remaining = g.R.Read.remaining in
    let i = c.reads.invariant in
    let last = c.in_ok-end-in-Ok-eq0.field-0 in
    let end = read_end (remaining c.args.cell.now) (remaining c.reads.cell)
    (remaining c.read.new.self) i.0 c.read.new.buf c.in-Ok-eq0.field-0 i.1
    c.in-Ok-eq0.ensures.bytes c.in-Ok-eq0.field-0-test (omega arith) in
    at_end (remaining c.args.cell.now) (remaining c.read.new.self) i.0
    (λ bytes. IsLedgerText c.args.wanted bytes last.ending (string_bytes last.text)) end.0 end.1
    (c.in_ok-end-in-Ok-eq0.ensures i.0 i.2)

pub returns-in-Some : goal.returns-in-Some
returns-in-Some g c =
    let remaining = g.R.Read.remaining in
    let i = c.reads.invariant in
    let piece = take c.in-Ok.count c.read.new.buf in
    let last = c.in-Some.last in
    of_all (remaining c.args.cell.now) (remaining c.read.new.self) (i.0 ++ piece)
    (λ bytes. IsLedgerText c.args.wanted bytes last.ending (string_bytes last.text))
    (Consumes-trans (remaining c.args.cell.now) (remaining c.reads.cell)
    (remaining c.read.new.self) i.0 piece i.1 c.in-Ok.ensures.bytes.0)
    (subst (IsNoted c.args.wanted c.take.new.self (i.0 ++ piece)) c.in-Some.is
    (c.in_ok-last-in-Ok.ensures i.0 i.2))

pub reads-preserved : goal.reads-preserved
reads-preserved g c =
    let remaining = g.R.Read.remaining in
    let i = c.reads.invariant in
    let a = remaining c.args.cell.now in
    let b = remaining c.reads.cell in
    let after = remaining c.read.new.self in
    elim c.match-read.branch [
      | in-Ok+in_ok-last-in-Ok+in-None w ↦
          let piece = take w.in-Ok.count c.read.new.buf in
          let lines = w.take.new.self in (
            i.0 ++ piece,
            Consumes-trans a b after i.0 piece i.1 w.in-Ok.ensures.bytes.0,
            subst (λ l. HasNoted l (i.0 ++ piece)) (sym w.lines-is)
                (subst (IsNoted c.args.wanted lines (i.0 ++ piece)) w.in-None.is
                (w.in_ok-last-in-Ok.ensures i.0 i.2)),
          )
      | in-Err+else-ne w ↦ (
        i.0,
        Consumes-kept a b after i.0 i.1 w.in-Err.ensures.bytes,
        subst (λ l. HasNoted l i.0) (sym w.lines-is) i.2,
      )
    ]
