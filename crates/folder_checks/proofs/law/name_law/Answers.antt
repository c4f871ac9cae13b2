use Rattle.std.proofs.Common.{refl}
use Rattle.folder_checks.specs.Json.{folder_data}
use Rattle.folder_checks.proofs.law.name_law.Goals as goal

pub returns-clause-folder : goal.returns-clause-folder
unfolding folder_data
returns-clause-folder c = λ name verdict files measure lines words utf8. rw utf8 refl

pub returns-clause-escaped : goal.returns-clause-escaped
unfolding folder_data
returns-clause-escaped c = λ name verdict files measure lines words. refl
