use Rattle.fed_types.proofs.members.Members.total_weight.Goals as goal

pub returns : goal.returns
returns c = rw (← c.self.view_is) c.self.invariant.3
