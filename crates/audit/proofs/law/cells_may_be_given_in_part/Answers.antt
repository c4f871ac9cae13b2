use Rattle.audit.proofs.Copies.{whole, together}
use Rattle.audit.proofs.law.cells_may_be_given_in_part.Goals as goal

pub returns-clause-whole : goal.returns-clause-whole
returns-clause-whole c = whole

pub returns-clause-part : goal.returns-clause-part
returns-clause-part c = λ w given part are is s h. are s (is s h)

pub returns-clause-together : goal.returns-clause-together
returns-clause-together c = together
