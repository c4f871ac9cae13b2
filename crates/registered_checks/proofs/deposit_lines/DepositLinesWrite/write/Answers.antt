use Rattle.std.proofs.Common.{sym, subst}
use Rattle.std.proofs.lemmas.List.{take_more, take_all}
use Rattle.registered_checks.specs.Deposits.{Divides}
use Rattle.registered_checks.proofs.Divided.{none_divided}
use Rattle.registered_checks.proofs.deposit_lines.DepositLinesWrite.write.Goals as goal

pub bytes-init : goal.bytes-init
bytes-init g c = λ within. none_divided _ within

pub bytes-preserved : goal.bytes-preserved
bytes-preserved g c = λ within.
    subst (λ taken. Divides (record {
      list = g.W.Write.contents c.args.self.now.list;
      errors = g.E.Write.contents c.args.self.now.errors;
      begun = c.args.self.now.begun.items;
    }) taken (record {
      list = g.W.Write.contents c.take.new.self.list;
      errors = g.E.Write.contents c.take.new.self.errors;
      begun = c.take.new.self.begun.items;
    }))
    (sym (take_more c.args.buf.now c.bytes.byte-index 0 c.bytes-test.true))
    (c.in_ok-take.ensures _ _ (c.bytes.invariant within))

pub returns-clause-divides : goal.returns-clause-divides
returns-clause-divides g c = λ within.
    subst (λ taken. Divides (record {
      list = g.W.Write.contents c.args.self.now.list;
      errors = g.E.Write.contents c.args.self.now.errors;
      begun = c.args.self.now.begun.items;
    }) taken (record {
      list = g.W.Write.contents c.bytes.self.list;
      errors = g.E.Write.contents c.bytes.self.errors;
      begun = c.bytes.self.begun.items;
    }))
    (take_all c.bytes.byte-index c.args.buf.now c.bytes-test.false)
    (c.bytes.invariant within)
