use Rattle.fed_types.proofs.After.{all_sites}
use Rattle.fed_types.proofs.sites.Sites.to.Goals as goal

pub returns : goal.returns
returns c = all_sites c.args.last
