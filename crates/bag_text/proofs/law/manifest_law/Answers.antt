use Rattle.bag_text.specs.Lines.{lines_of}
use Rattle.bag_text.proofs.ManifestLaws.{files_from-listed, listed-files_from, malformed-files_from}
use Rattle.bag_text.proofs.ManifestLaws.{files_from-malformed}
use Rattle.bag_text.proofs.law.manifest_law.Goals as goal

pub returns-clause-listed : goal.returns-clause-listed
returns-clause-listed c = λ algorithm text files. (
  files_from-listed algorithm 1 (lines_of text) files,
  listed-files_from algorithm 1 (lines_of text) files,
)

pub returns-clause-malformed : goal.returns-clause-malformed
returns-clause-malformed c = λ algorithm text line. (
  files_from-malformed algorithm (lines_of text) line,
  malformed-files_from algorithm 1 (lines_of text) line,
)

pub returns-clause-one : goal.returns-clause-one
returns-clause-one c = λ algorithm text files others one other.
    let first = files_from-listed algorithm 1 (lines_of text) files one in
    cc (first, files_from-listed algorithm 1 (lines_of text) others other)
