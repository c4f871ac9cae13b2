use Rattle.bag_text.specs.Lines.{lines_of}
use Rattle.bag_text.proofs.DeclarationLaws.{declares-read, read-declares, fault-read, read-fault}
use Rattle.bag_text.proofs.law.declaration_law.Goals as goal

pub returns-clause-declared : goal.returns-clause-declared
returns-clause-declared c = λ text version encoding. (
  read-declares (lines_of text) (version, encoding),
  declares-read (lines_of text) (version, encoding),
)

pub returns-clause-malformed : goal.returns-clause-malformed
returns-clause-malformed c =
    λ text line. (read-fault (lines_of text) line, fault-read (lines_of text) line)
