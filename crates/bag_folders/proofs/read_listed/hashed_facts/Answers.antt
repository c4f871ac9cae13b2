use Rattle.std.proofs.Common.{arith}
use Rattle.std.proofs.lemmas.Grind.{common_steps}
use Rattle.bag_folders.proofs.NamedDigests.{fact_more}
use Rattle.bag_folders.proofs.read_listed.hashed_facts.Goals as goal

pub loop-file-preserved : goal.loop-file-preserved
loop-file-preserved g c = grind (arith, common_steps, fact_more)
