use Rattle.std.proofs.Common.{◌∙◌, sym}
use Rattle.ledger.proofs.ToldParts.{begun, damaged_first}
use Rattle.ledger.proofs.steps.begin.Goals as goal

pub returns-in_ok-begin_with-in-Some-text_end
    : goal.returns-in_ok-begin_with-in-Some-text_end
returns-in_ok-begin_with-in-Some-text_end c =
    let bytes = c.args.bytes.now in
    let contents = c.in-Some.contents in
    let is = rw c.in-Some.is at c.in_ok-contents.ensures in
    begun bytes contents is c.if-not-contents.false c.in-Some-text_end.end
    (sym c.text_end.ensures ∙ c.in-Some-text_end.is) c.in_ok-begin_with-in-Some-text_end.field-0
    c.in_ok-begin_with-in-Some-text_end.ensures

pub returns-in-None : goal.returns-in-None
returns-in-None c =
    let bytes = c.args.bytes.now in
    let contents = c.in-Some.contents in
    let is = rw c.in-Some.is at c.in_ok-contents.ensures in
    damaged_first bytes contents is c.if-not-contents.false
    (sym c.text_end.ensures ∙ c.in-None.is) c.last_of.result c.last_of.ensures
