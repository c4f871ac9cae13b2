use Rattle.std.proofs.Common.{take}
use Rattle.registered_checks.specs.Deposits.{IsWithinLine, Divides}
use Rattle.registered_checks.proofs.deposit_lines.DepositLinesWrite.write.Given as goal

-- the bytes that were taken so far are divided
abbrev pub invariant-bytes : goal.invariant-bytes
invariant-bytes g l =
    IsWithinLine l.initial.self.begun.items
    → Divides
    (record {
      list = g.W.Write.contents l.initial.self.list;
      errors = g.E.Write.contents l.initial.self.errors;
      begun = l.initial.self.begun.items;
    })
    (take l.byte-index l.buf)
    (record {
      list = g.W.Write.contents l.self.list;
      errors = g.E.Write.contents l.self.errors;
      begun = l.self.begun.items;
    })
