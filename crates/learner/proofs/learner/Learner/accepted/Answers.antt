use Rattle.std.proofs.Common.{◌≡◌, true, false, sym, ap, subst, ◌∙◌}
use Rattle.fed_types.specs.Voters.{with_voter}
use Rattle.slot_table.specs.Rows.{row_at}
use Rattle.learner.specs.LearnerStates.{LearnerState, Represents, known_in, counted_in}
use Rattle.learner.specs.inner.Counts.{is_learned}
use Rattle.learner.proofs.HeardVotes.{heard_as, learned_by}
use Rattle.learner.proofs.Rows.{err_of}
use Rattle.learner.proofs.learner.Learner.accepted.Goals as goal

pub returns-in_err-learned-clause-no_memory : goal.returns-in_err-learned-clause-no_memory
returns-in_err-learned-clause-no_memory g c =
    err_of c.from_residual.result (λ records heard stands. (
      sym (stands.known c.args.slot.now)
          ∙ sym (ap (λ (l : LearnerState g.row.Q.Denot). known_in (row_at l.rows c.args.slot.now))
          c.self.view_is)
          ∙ c.in_err-learned.ensures.unknown,
      sym (learned_by g.Q.Quorums.quorum_system (λ m. record {
        meet = g.met.Q.Quorums.quorums_meet m;
        grow = g.met.Q.Quorums.quorum_grows m;
      }) c.self.view_is c.args.slot.now c.args.from
          (record { ballot = c.args.ballot; bag = c.args.bag }) records heard stands false
          c.in_err-learned.ensures.memory),
    ))

pub returns-then-learned-clause-learned : goal.returns-then-learned-clause-learned
returns-then-learned-clause-learned g c records heard stands =
    learned_by g.Q.Quorums.quorum_system (λ m. record {
      meet = g.met.Q.Quorums.quorums_meet m;
      grow = g.met.Q.Quorums.quorum_grows m;
    }) c.self.view_is c.args.slot.now c.args.from
    (record { ballot = c.args.ballot; bag = c.args.bag }) records heard stands true
    (sym c.if-learned.true ∙ c.in_ok-learned.ensures.learned)

pub returns-clause-learned : goal.returns-clause-learned
returns-clause-learned g c records heard stands =
    learned_by g.Q.Quorums.quorum_system (λ m. record {
      meet = g.met.Q.Quorums.quorums_meet m;
      grow = g.met.Q.Quorums.quorum_grows m;
    }) c.self.view_is c.args.slot.now c.args.from
    (record { ballot = c.args.ballot; bag = c.args.bag }) records heard stands false
    (sym c.if-learned.false ∙ c.in_ok-learned.ensures.learned)

pub returns-clause-heard : goal.returns-clause-heard
returns-clause-heard g c none records heard stands =
    heard_as c.self.inside.table records heard c.args.slot.now c.args.from
    (record { ballot = c.args.ballot; bag = c.args.bag })
    (subst (λ (l : LearnerState g.row.Q.Denot). Represents l.rows records heard)
    (sym c.self.view_is)
    stands)
    c.add_vote.new.table c.add_vote.ensures.known
    (c.in_ok-learned.ensures.counted c.if-learned.false)
