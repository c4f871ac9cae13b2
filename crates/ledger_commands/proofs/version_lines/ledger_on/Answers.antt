use Rattle.std.proofs.Common.{◌≡◌, ℕ, take, subst, Err, rules}
use Rattle.std.specs.String.{string_bytes}
use Rattle.std.specs.Result.{IfOk, OnErr}
use Rattle.std.specs.Io.KnownBytes.{Appends}
use Rattle.outcomes.specs.Outcomes.{Outcome}
use Rattle.outcomes.specs.declared.fault.ProgramFault.TheVariants as ProgramFaults
use Rattle.ledger_commands.specs.Ledgers.{IsLedger}
use Rattle.ledger_commands.proofs.WrittenAnswers.{answered, stopped, is_ledger}
use Rattle.ledger_commands.proofs.version_lines.ledger_on.Goals as goal

pub returns-in-Ok : goal.returns-in-Ok
returns-in-Ok g c =
    let last = c.in-Ok.last in
    let status = c.status_of.result in
    let outcome : Outcome = record { status = status; text = string_bytes last.text } in
    let result = c.write_output.result in
    let left = g.R.Read.remaining c.args.cell.now in
    let old = g.W.Write.contents c.args.output.now in
    let new = g.W.Write.contents c.write_output.new.output in
    let is = is_ledger c.args.wanted left last.ending status (string_bytes last.text)
    c.status_of.ensures c.in-Ok.ensures in
    record {
      ok = answered (IsLedger c.args.wanted) left outcome result old new is
          (subst (λ t. IfOk result (λ given. (given ≡ status) × Appends old new t))
          c.as_str.ensures.value c.write_output.ensures.ok);
      input = search rules;
      output = stopped (IsLedger c.args.wanted) left outcome result old new is
          (subst (λ t. OnErr result ((result ≡ Err ProgramFaults.Output)
          × ((n : ℕ) × Appends old new (take n t))))
          c.as_str.ensures.value c.write_output.ensures.err);
    }
