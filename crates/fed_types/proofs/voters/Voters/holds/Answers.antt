use Rattle.std.proofs.Common.{sym}
use Rattle.fed_types.proofs.SetBits.{is_in-bit}
use Rattle.fed_types.proofs.voters.Voters.holds.Goals as goal

pub returns : goal.returns
returns c = rw (← c.self.view_is) (sym (is_in-bit c.self.inside.word c.args.number c.requires))
