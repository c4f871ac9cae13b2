-- Those that run are asked to vote: they do, and the site that asked hears it, and knows the bag.
use Rattle.std.proofs.Common.{ℕ, ◌≡◌, ◌≤◌, ◌+◌, ◌⊎◌, Bool, true, false, cond, ◌||◌, inl, inr, refl}
use Rattle.std.proofs.Common.{sym, ap, subst, ◌∙◌, List, [], ◌∷◌, ◌++◌, length, Option, None, Some}
use Rattle.std.specs.Option.{option_to_list}
use Rattle.std.proofs.lemmas.Bool.{false≢true, false_from_ne_true}
use Rattle.fed_types.specs.declared.bag_id.BagId.{BagId}
use Rattle.fed_types.specs.declared.vote.Vote.{Vote}
use Rattle.fed_types.specs.Ballots.{BallotNumber, below, Below, same_ballot}
use Rattle.fed_types.specs.Lists.{Has, here}
use Rattle.fed_types.specs.Quorums.{QuorumSystem, IsQuorum, AreQuorums}
use Rattle.fed_types.specs.Slots.{SlotName}
use Rattle.fed_types.specs.Laws.Bags.{same_bag_decides}
use Rattle.fed_types.specs.Laws.Ballots.{same_ballot_decides, below_decides, Below-irreflexive}
use Rattle.fed_types.specs.Laws.Lists.{has_left, has_right, filter_map_has}
use Rattle.records.specs.declared.entry.Entry.{Entry}
use Rattle.records.specs.declared.entry.Entry.TheVariants as entry
use Rattle.records.specs.declared.record.Record.{Record}
use Rattle.records.specs.SlotStates.{ballot_in, vote_in, promised_of, vote_of, known_of}
use Rattle.dgram.specs.declared.body.Body.TheVariants.{Accept, Accepted}
use Rattle.dgram.specs.declared.message.Message.{Message}
use Rattle.dgram.specs.Heard.{body_in, bodies_of, voters_for, voter_in}
use Rattle.dgram.proofs.Heard.{bodies_of-append, voters_for-append}
use Rattle.acceptor.specs.declared.decision.Decision.{Decision}
use Rattle.acceptor.specs.Decisions.{votes, votes_again, refuses, is_vote, is_in_ballot}
use Rattle.acceptor.specs.Decisions.{on_new_accept, accept_decision}
use Rattle.learner.specs.LearnedBags.{unless_known, chosen_by}
use Rattle.proposer.specs.VolatileStates.{VolatileState, hears}
use Rattle.site.specs.Arrivals.{decided, learning, on_body}
use Rattle.site.specs.declared.answer.Line.TheVariants as site_lines
use Rattle.site.specs.Effects.{Effect, Send, record_of, to_each, commits_and_says}
use Rattle.world_law.specs.Networks.{Network}
use Rattle.reach_law.proofs.Words.{of_slot, said_self, Silent, promised_silent, vote_silent}
use Rattle.reach_law.proofs.Words.{known_stays, known_now, vote_now, about, body_self, hears_more}
use Rattle.reach_law.proofs.Words.{to_site}
use Rattle.reach_law.proofs.Leads.{IsUp, Fresh, Took, took_stay, took_volatile, took_up, took_later}
use Rattle.reach_law.proofs.Leads.{took_fresh, spent, Leads, each, answered_leads}
use Rattle.reach_law.proofs.Discovering.{sending}
use Rattle.reach_law.specs.Running.{AreMembers, records_at, volatile_at}

-- ---- an acceptor that is asked for a vote

-- it has cast it; or it has promised its ballot, and cast none up to it
abbrev pub CanVote : SlotName → Vote → List Record → Type 0
CanVote slot vote rs =
    (is_vote vote (vote_of slot rs) ≡ true)
    ⊎ ((promised_of slot rs ≡ Some vote.ballot)
    × ((u : Vote) → vote_of slot rs ≡ Some u → Below u.ballot vote.ballot))

-- it votes, again or anew, or a promised ballot stands in the way
abbrev pub VotesOrRefuses : SlotName → List Record → Vote → Decision → Type 0
VotesOrRefuses slot rs vote d =
    ((d ≡ votes_again vote) ⊎ (d ≡ votes vote))
    ⊎ ((a : BallotNumber) × (promised_of slot rs ≡ Some a) × (d ≡ refuses vote.ballot a))

pub accept_cases : (slot : SlotName) (rs : List Record) (vote : Vote)
    → VotesOrRefuses slot rs vote (accept_decision slot rs vote)
unfolding accept_decision
accept_cases slot rs vote = again (is_vote vote (vote_of slot rs))
  where
    stands : (a : BallotNumber) → promised_of slot rs ≡ Some a → (t : Bool)
        → VotesOrRefuses slot rs vote (cond t (refuses vote.ballot a) (votes vote))
    stands a is true = inr (a, is, refl)
    stands a is false = inl (inr refl)

    new : (o : Option BallotNumber) → promised_of slot rs ≡ o
        → VotesOrRefuses slot rs vote (on_new_accept o (vote_of slot rs) vote)
    new None is = inl (inr refl)
    new (Some a) is =
        stands a is (below vote.ballot a || is_in_ballot vote.ballot (vote_of slot rs))

    again : (t : Bool) → VotesOrRefuses slot rs vote
        (cond t (votes_again vote) (on_new_accept (promised_of slot rs) (vote_of slot rs) vote))
    again true = inl (inl refl)
    again false = new (promised_of slot rs) refl

module _ (slot : SlotName) (vote : Vote) (rs : List Record) where
  pub is_vote_itself : is_vote vote (Some vote) ≡ true
  is_vote_itself = rw (
    (same_ballot_decides vote.ballot vote.ballot).1 refl,
    (same_bag_decides vote.bag vote.bag).1 refl,
  ) refl

  not_below : below vote.ballot vote.ballot ≡ false
  not_below =
      false_from_ne_true (below vote.ballot vote.ballot)
      (λ e. Below-irreflexive vote.ballot ((below_decides vote.ballot vote.ballot).0 e))

  not_in : (o : Option Vote) → ((u : Vote) → o ≡ Some u → Below u.ballot vote.ballot)
      → is_in_ballot vote.ballot o ≡ false
  not_in None l = refl
  not_in (Some u) l =
      false_from_ne_true (same_ballot u.ballot vote.ballot)
      (λ e.
      Below-irreflexive vote.ballot
      (rw ((same_ballot_decides u.ballot vote.ballot).0 e) at (l u refl)))

  -- voting again
  pub decides_again : is_vote vote (vote_of slot rs) ≡ true
      → accept_decision slot rs vote ≡ votes_again vote
  unfolding accept_decision
  decides_again e = rw e refl

  pub decides_new : is_vote vote (vote_of slot rs) ≡ false → promised_of slot rs ≡ Some vote.ballot
      → ((u : Vote) → vote_of slot rs ≡ Some u → Below u.ballot vote.ballot)
      → accept_decision slot rs vote ≡ votes vote
  unfolding accept_decision
  decides_new other promised l = rw (other, promised, not_below, not_in (vote_of slot rs) l) refl

  pub can_stays : (o : Option Record) → Silent vote_in slot o → Silent ballot_in slot o
      → CanVote slot vote rs → CanVote slot vote (rs ++ option_to_list o)
  can_stays o v b (inl e) = inl (ap (is_vote vote) (vote_silent slot rs o v) ∙ e)
  can_stays o v b (inr c) =
      inr (
        promised_silent slot rs o b ∙ c.0,
        λ u e. c.1 u (sym (vote_silent slot rs o v) ∙ e),
      )

  pub can_now : ((u : Vote) → vote_of slot rs ≡ Some u → Below u.ballot vote.ballot)
      → CanVote slot vote (rs ++ of_slot slot (entry.Vote vote) ∷ [])
  can_now l = inl (ap (is_vote vote) (vote_now slot rs vote l) ∙ is_vote_itself)

pub voter_self : (slot : SlotName) (vote : Vote) (heard : List Message) (n : ℕ)
    → Has n (voters_for vote (bodies_of slot (hears_more heard slot (Accepted n vote))))
unfolding voters_for bodies_of
voter_self slot vote heard n =
    filter_map_has (voter_in vote) (Accepted n vote) n
    (bodies_of slot (hears_more heard slot (Accepted n vote)))
    (filter_map_has (body_in slot) (about slot (Accepted n vote)) (Accepted n vote)
    (hears_more heard slot (Accepted n vote)) (has_right heard (here refl))
    (body_self slot (Accepted n vote)))
    (rw (
      (same_ballot_decides vote.ballot vote.ballot).1 refl,
      (same_bag_decides vote.bag vote.bag).1 refl,
    ) refl)

pub voters_stay : (slot : SlotName) (vote : Vote) (heard : List Message) (m : Message) (n : ℕ)
    → Has n (voters_for vote (bodies_of slot heard))
    → Has n (voters_for vote (bodies_of slot (heard ++ m ∷ [])))
voters_stay slot vote heard m n h =
    rw (bodies_of-append slot heard (m ∷ []))
    (rw (voters_for-append vote (bodies_of slot heard) (bodies_of slot (m ∷ [])))
    (has_left (voters_for vote (bodies_of slot (m ∷ []))) h))

module _ (q : QuorumSystem) (running : List ℕ) (slot : SlotName) (before : ℕ)
    (members : AreMembers q running) (p : ℕ) (runs : Has p running) (vote : Vote)
    (mine : vote.ballot.site ≡ p) where
  abbrev pub voters_at : Network → List ℕ
  voters_at w = voters_for vote (bodies_of slot (volatile_at w p).heard)

  abbrev pub Knows : Network → Type 0
  Knows w = (bag : BagId) × (known_of slot (records_at w p) ≡ Some bag)

  -- the site has heard of the member's vote; and where it has heard of those of a quorum, it knows
  pub record HasVoted (n : ℕ) (w : Network) : Type 0 where
    pub heard : Has n (voters_at w)
    pub known : IsQuorum q (voters_at w) → Knows w

  pub record Voting (w : Network) : Type 0 where
    pub up : (n : ℕ) → Has n running → IsUp w n
    pub later : before ≤ length w.sent
    pub asked : (n : ℕ) → Has n running → Fresh before w.sent (to_site n slot (Accept vote))
    pub can : (n : ℕ) → Has n running → CanVote slot vote (records_at w n)

  -- ---- a vote more

  module _ {w x y : Network} {n : ℕ} {commits learned : Option Record}
      {sends sends' : List Send} (g : Voting w)
      (t : Took w n commits (hears (volatile_at w n) (about slot (Accept vote))) sends x)
      (u : Took x p learned (hears (volatile_at x p) (about slot (Accepted n vote))) sends' y)
      (can_first : CanVote slot vote (records_at w n ++ option_to_list commits))
      (no_vote : Silent vote_in slot learned) (no_ballot : Silent ballot_in slot learned)
      (knows : IsQuorum q (voters_at y) → Knows y) where
    heard_now : Has n (voters_at y)
    heard_now = rw u.volatile_is (voter_self slot vote (volatile_at x p).heard n)

    heard_stays : (m : ℕ) → Has m (voters_at w) → Has m (voters_at y)
    heard_stays m has =
        took_volatile
        (λ (s : VolatileState). Has m (voters_for vote (bodies_of slot s.heard))) u
        (λ k. voters_stay slot vote (volatile_at x p).heard _ m k) p
        (took_volatile
        (λ (s : VolatileState). Has m (voters_for vote (bodies_of slot s.heard))) t
        (λ k. voters_stay slot vote (volatile_at w n).heard _ m k) p has)

    voting_stays : Voting y
    voting_stays = record {
      up = λ m h'. took_up u m (took_up t m (g.up m h'));
      later = took_later u before (took_later t before g.later);
      asked = λ m h'. took_fresh u before _ (took_fresh t before _ (g.asked m h'));
      can = λ m h'.
          took_stay (CanVote slot vote) u
          (λ c. can_stays slot vote (records_at x p) learned no_vote no_ballot c) m
          (took_stay (CanVote slot vote) t (λ c. can_first) m (g.can m h'));
    }

    goes_on : {k : ℕ}
        → ((y : Network) → Voting y → HasVoted n y
        → ((m : ℕ) → Has m running → HasVoted m w → HasVoted m y) → Leads q running slot before y k)
        → Leads q running slot before y k
    goes_on next =
        next y voting_stays (record { heard = heard_now; known = knows })
        (λ m h' d. record { heard = heard_stays m d.heard; known = knows })

  module _ (n : ℕ) (h : Has n running) (w : Network) (g : Voting w) (k : ℕ)
      (next : (y : Network) → Voting y → HasVoted n y
      → ((m : ℕ) → Has m running → HasVoted m w → HasVoted m y)
      → Leads q running slot before y k) where
    abbrev now : VolatileState
    now = hears (volatile_at w n) (about slot (Accept vote))

    module _ (kept : Option Entry)
        (can : CanVote slot vote (records_at w n ++ option_to_list (record_of slot kept))) where
      abbrev heard_at : Network → VolatileState
      heard_at x = hears (volatile_at x p) (about slot (Accepted n vote))

      abbrev Continues : Network → Type 0
      Continues x =
          (e : Effect)
          × (on_body q p (records_at x p) (volatile_at x p) (heard_at x) slot
          (Accepted n vote) ≡ e)
          × ((y : Network) → Took x p e.commits e.volatile e.sends y
          → Leads q running slot before y k)

      abbrev First : Network → Type 0
      First x =
          Took w n (record_of slot kept) (hears (volatile_at w n) (about slot (Accept vote)))
          (to_each slot (Accepted n vote) q.members) x

      learned_is : (x : Network) (o : Option BagId) → known_of slot (records_at x p) ≡ o
          → (t : Bool)
          → q.is_quorum (voters_for vote (bodies_of slot
          (hears_more (volatile_at x p).heard slot (Accepted n vote)))) ≡ t
          → on_body q p (records_at x p) (volatile_at x p) (heard_at x) slot
          (Accepted n vote)
          ≡ learning slot (unless_known o (cond t (Some vote.bag) None)) (heard_at x)
      unfolding on_body chosen_by
      learned_is x o e t f = rw (e, f) refl

      hears_it : (x : Network) → First x → (o : Option BagId)
          → known_of slot (records_at x p) ≡ o → (t : Bool)
          → q.is_quorum (voters_for vote (bodies_of slot
          (hears_more (volatile_at x p).heard slot (Accepted n vote)))) ≡ t
          → Continues x
      unfolding on_body
      hears_it x t (Some bag) e c f = (
        sending [] (heard_at x),
        learned_is x (Some bag) e c f,
        λ y u.
            let knows : IsQuorum q (voters_at y) → Knows y = λ quorum. (
              bag,
              took_stay (λ (rs : List Record). known_of slot rs ≡ Some bag) u
                  (λ e. known_stays slot (records_at x p) bag e None) p e,
            ) in
            goes_on g t u can tt tt knows next,
      )
      hears_it x t None e true f = (
        commits_and_says slot (Some (entry.Known vote.bag)) (site_lines.Known slot vote.bag)
            (heard_at x),
        learned_is x None e true f,
        λ y u.
            let knows : IsQuorum q (voters_at y) → Knows y = λ quorum. (
              vote.bag,
              ap (known_of slot) u.records ∙ known_now slot (records_at x p) vote.bag e,
            ) in
            let v = said_self vote_in slot (entry.Known vote.bag) in
            let b = said_self ballot_in slot (entry.Known vote.bag) in
            goes_on g t u can v b knows next,
      )
      hears_it x t None e false f = (
        sending [] (heard_at x),
        learned_is x None e false f,
        λ y u.
            let knows : IsQuorum q (voters_at y) → Knows y = λ quorum.
            absurd (false≢true (sym f
            ∙ subst (λ (s : VolatileState).
            IsQuorum q (voters_for vote (bodies_of slot s.heard))) u.volatile_is quorum)) in
            goes_on g t u can tt tt knows next,
      )

      asks : decided q n slot vote.ballot.site
          (accept_decision slot (records_at w n) vote) now
          ≡ decided q n slot vote.ballot.site
          (record { entry = kept; answer = (votes vote).answer }) now
          → Leads q running slot before w (2 + k)
      unfolding on_body
      asks is =
          answered_leads q running slot before members w n p (Accept vote) (Accepted n vote)
          kept q.members k h runs (g.up n h) (g.up p runs) g.later (g.asked n h)
          (ap Some mine) refl (members p runs) is
          (λ x t. hears_it x t (known_of slot (records_at x p))
          refl (q.is_quorum (voters_for vote (bodies_of slot
          (hears_more (volatile_at x p).heard slot (Accepted n vote))))) refl)

    go : (t : Bool) → is_vote vote (vote_of slot (records_at w n)) ≡ t
        → CanVote slot vote (records_at w n) → Leads q running slot before w (2 + k)
    go true e c =
        asks None (can_stays slot vote (records_at w n) None tt tt c)
        (ap (λ (d : Decision). decided q n slot vote.ballot.site d now)
        (decides_again slot vote (records_at w n) e))
    go false e (inl same) = absurd (false≢true (sym e ∙ same))
    go false e (inr c) =
        asks (Some (entry.Vote vote)) (can_now slot vote (records_at w n) c.1)
        (ap (λ (d : Decision). decided q n slot vote.ballot.site d now)
        (decides_new slot vote (records_at w n) e c.0 c.1))

  visit : (n : ℕ) → Has n running → (w : Network) → Voting w → (k : ℕ)
      → ((y : Network) → Voting y → HasVoted n y
      → ((m : ℕ) → Has m running → HasVoted m w → HasVoted m y)
      → Leads q running slot before y k)
      → Leads q running slot before w (2 + k)
  visit n h w g k next =
      go n h w g k next (is_vote vote (vote_of slot (records_at w n))) refl (g.can n h)

  -- all that run vote: then the site knows a bag
  pub votes_all : (w : Network) (k : ℕ) → Voting w → AreQuorums q → IsQuorum q running
      → ((y : Network) → ((n : ℕ) → Has n running → IsUp y n) → before ≤ length y.sent → Knows y
      → Leads q running slot before y k)
      → Leads q running slot before w (spent 2 running k)
  votes_all w k g laws quorum next =
      each q running slot before Voting HasVoted 2 visit running (λ n h. h) w g k
      (λ y g' voted stays.
      let some = laws.meet running running quorum quorum in
      next y g'.up g'.later
      ((voted some.0 some.2).known
      (laws.grow running (voters_at y) quorum (λ n member h. (voted n h).heard))))
