use Rattle.std.proofs.Common.{◌∷◌, ◌++◌, [], sym, subst}
use Rattle.registered_checks.specs.Deposits.{Divides}
use Rattle.registered_checks.proofs.Divided.{ends}
use Rattle.registered_checks.proofs.deposit_lines.DepositLines.take.Goals as goal

pub returns-then-byte-eq10 : goal.returns-then-byte-eq10
returns-then-byte-eq10 g c = λ before bytes divides.
    subst (λ byte. Divides before (bytes ++ byte ∷ []) (record {
      list = g.W.Write.contents c.end_line.new.self.list;
      errors = g.E.Write.contents c.end_line.new.self.errors;
      begun = c.end_line.new.self.begun.items;
    }))
    (sym c.if-byte-eq10.true)
    (ends before _ (record {
      list = g.W.Write.contents c.end_line.new.self.list;
      errors = g.E.Write.contents c.end_line.new.self.errors;
      begun = c.end_line.new.self.begun.items;
    }) bytes divides c.in_ok-end_line.ensures.begun
    c.in_ok-end_line.ensures.list c.in_ok-end_line.ensures.errors)
