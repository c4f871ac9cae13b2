use Rattle.audit_command.proofs.evidence.version_of.Goals as goal

pub returns-clause-found : goal.returns-clause-found
returns-clause-found c = λ members given is.
    rw (← is.members_are, c.in_ok-copy.ensures) (c.finding-finding.ensures given is.stands)
