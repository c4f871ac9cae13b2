use Rattle.world_law.specs.Networks.{Propose, Recover, Ask}
use Rattle.world_law.specs.Trees.{tree_at}
use Rattle.world_law.specs.Worlds.{on_call, on_deposit, event_at, at_member}
use Rattle.simulator.proofs.Named.{to_member, to_nobody}
use Rattle.simulator.proofs.federation.Federation.run_call.Goals as goal

pub returns-in-Some : goal.returns-in-Some
unfolding on_call
returns-in-Some c =
    rw c.in-Deposit.is (to_member c.deposit.result _ _ _ _
    (λ w n. on_deposit w c.args.number n c.in-Deposit.tree c.in-Deposit.slot c.args.fate
    (tree_at c.in-Deposit.tree w.trees)) _ c.in-Some.ensures c.deposit.ensures)

pub returns-in-None : goal.returns-in-None
unfolding on_call
returns-in-None c =
    rw c.in-Deposit.is (to_nobody c.skip.result _ _ _ _ _ c.in-None.ensures c.skip.ensures)

pub returns-in-Some-place_of : goal.returns-in-Some-place_of
unfolding on_call
returns-in-Some-place_of c =
    rw c.in-Propose.is (to_member c.propose.result _ _ _ _
    (λ w n. event_at w c.args.number n (Propose n c.in-Propose.slot c.args.fate)) _
    c.in-Some-place_of.ensures c.propose.ensures)

pub returns-in-None-place_of : goal.returns-in-None-place_of
unfolding on_call
returns-in-None-place_of c =
    rw c.in-Propose.is (to_nobody c.skip-in-None-place_of.result _ _ _ _ _
    c.in-None-place_of.ensures c.skip-in-None-place_of.ensures)

pub returns-in-Some-place_of-2 : goal.returns-in-Some-place_of-2
unfolding on_call
returns-in-Some-place_of-2 c =
    rw c.in-Recover.is (to_member c.recover.result _ _ _ _
    (λ w n. event_at w c.args.number n (Recover n c.in-Recover.slot c.args.fate)) _
    c.in-Some-place_of-2.ensures c.recover.ensures)

pub returns-in-None-place_of-2 : goal.returns-in-None-place_of-2
unfolding on_call
returns-in-None-place_of-2 c =
    rw c.in-Recover.is (to_nobody c.skip-in-None-place_of-2.result _ _ _ _ _
    c.in-None-place_of-2.ensures c.skip-in-None-place_of-2.ensures)

pub returns-in-Deliver : goal.returns-in-Deliver
unfolding on_call
returns-in-Deliver c = rw c.in-Deliver.is c.deliver.ensures

pub returns-in-Some-place_of-3 : goal.returns-in-Some-place_of-3
unfolding on_call
returns-in-Some-place_of-3 c =
    rw c.in-Ask.is (to_member c.ask_site.result _ _ _ _
    (λ w n. at_member w c.args.number c.in-Ask.to (event_at w c.args.number n
    (Ask n c.in-Ask.to c.in-Ask.slot c.args.fate))) _ c.in-Some-place_of-3.ensures
    c.ask_site.ensures)

pub returns-in-None-place_of-3 : goal.returns-in-None-place_of-3
unfolding on_call
returns-in-None-place_of-3 c =
    rw c.in-Ask.is (to_nobody c.skip-in-None-place_of-3.result _ _ _ _ _
    c.in-None-place_of-3.ensures c.skip-in-None-place_of-3.ensures)
