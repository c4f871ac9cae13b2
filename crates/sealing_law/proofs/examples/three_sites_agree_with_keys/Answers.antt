use Rattle.sealing_law.proofs.Forged.{three_sites_agree_with_keys}
use Rattle.sealing_law.proofs.examples.three_sites_agree_with_keys.Goals as goal

pub returns : goal.returns
returns c = three_sites_agree_with_keys
