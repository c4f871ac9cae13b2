use Rattle.std.proofs.Common.{refl, sym}
use Rattle.std.proofs.lemmas.Result.{on_ok_weaker}
use Rattle.bag_check.specs.Check.{check_of}
use Rattle.simulator.proofs.Called.{deposited}
use Rattle.simulator.proofs.federation.Federation.deposit_facts.Goals as goal

pub returns : goal.returns
returns c =
    on_ok_weaker c.undergo.result (λ called w is. deposited c.args.self.now _ _ w c.args.number
    c.args.place c.args.tree c.args.slot.now c.args.fate (check_of c.args.facts.now) is refl
    (sym (c.if-is_down.ensures w is)) c.slots_are_well_formed.ensures
    (c.in_ok-see.ensures.well_formed (check_of c.args.facts.now) c.check.ensures.exact)
    (c.in_ok-see.ensures.seen (check_of c.args.facts.now) c.check.ensures.exact w.seen is.seen)
    called) c.undergo.ensures
