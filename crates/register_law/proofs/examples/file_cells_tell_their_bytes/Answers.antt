use Rattle.std.proofs.Common.{refl}
use Rattle.register_law.proofs.examples.file_cells_tell_their_bytes.Goals as goal

pub returns : goal.returns
returns c cell = refl
