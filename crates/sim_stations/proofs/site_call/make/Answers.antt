use Rattle.sim_stations.proofs.site_call.make.Goals as goal

pub returns-in-Deposit-clause-answer : goal.returns-in-Deposit-clause-answer
returns-in-Deposit-clause-answer c opened volatile stands =
    rw c.in-Deposit.is (c.deposit.ensures.answer opened volatile stands)

pub returns-in-Propose-clause-answer : goal.returns-in-Propose-clause-answer
returns-in-Propose-clause-answer c opened volatile stands =
    rw c.in-Propose.is (c.propose.ensures.answer opened volatile stands)

pub returns-in-Recover-clause-answer : goal.returns-in-Recover-clause-answer
returns-in-Recover-clause-answer c opened volatile stands =
    rw c.in-Recover.is (c.recover.ensures.answer opened volatile stands)

pub returns-in-Ask-clause-answer : goal.returns-in-Ask-clause-answer
returns-in-Ask-clause-answer c opened volatile stands =
    rw c.in-Ask.is (c.ask.ensures.answer opened volatile stands)

pub returns-in-Arrive-clause-answer : goal.returns-in-Arrive-clause-answer
returns-in-Arrive-clause-answer c opened volatile stands =
    rw c.in-Arrive.is (c.arrive.ensures.answer opened volatile stands)
