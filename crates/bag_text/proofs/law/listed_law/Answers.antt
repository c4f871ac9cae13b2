use Rattle.bag_text.proofs.ManifestLaws.{listed_digests, listed_paths}
use Rattle.bag_text.proofs.law.listed_law.Goals as goal

pub returns-clause-digests : goal.returns-clause-digests
returns-clause-digests c = λ algorithm text files. listed_digests

pub returns-clause-paths : goal.returns-clause-paths
returns-clause-paths c = λ algorithm text files. listed_paths
