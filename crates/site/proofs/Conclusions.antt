-- From what a site's last step does to the answer of the definitions.
use Rattle.std.proofs.Common.{◌≡◌, ◌⊎◌, inl, inr, ◌||◌, ℕ, Bool, true, false, cond, List, map}
use Rattle.std.proofs.Common.{Option, Some, None, IsSome, Result, Ok, Err, refl, ◌∙◌}
use Rattle.std.proofs.lemmas.Bool.{cond_both}
use Rattle.fed_types.specs.declared.vote.Vote.{Vote}
use Rattle.fed_types.specs.Ballots.{BallotNumber, below}
use Rattle.fed_types.specs.Slots.{SlotName}
use Rattle.cell_device.specs.Devices.{Device}
use Rattle.records.specs.declared.entry.Entry.{Entry}
use Rattle.records.specs.declared.record.Record.{Record}
use Rattle.records.specs.SlotStates.{promised_of, vote_of}
use Rattle.acceptor.specs.declared.decision.Decision.{Decision}
use Rattle.acceptor.specs.Decisions.{prepare_decision, accept_decision, promises, votes}
use Rattle.acceptor.specs.Decisions.{votes_again}
use Rattle.acceptor.specs.Decisions.{refuses, on_prepare, is_vote, is_in_ballot, on_new_accept}
use Rattle.proposer.specs.VolatileStates.{VolatileState}
use Rattle.proposer.specs.UnderWay.{UnderWay, current_by}
use Rattle.site.specs.declared.answer.Answer.{Answer}
use Rattle.site.specs.declared.answer.Line.{Line}
use Rattle.site.specs.declared.fault.SiteFault.{SiteFault}
use Rattle.site.specs.declared.fault.SiteFault.TheVariants as faults
use Rattle.book.specs.Committed.{Commits}
use Rattle.site.specs.Answered.{Keeps, Gives, IsAnswered}
use Rattle.site.specs.Datagrams.{datagram}
use Rattle.site.specs.Effects.{Effect, record_of}
use Rattle.site.specs.Sites.{OpenSite, Represents}
use Rattle.site.specs.inner.Concluded.{Stands, volatile_after, under_after, Concludes, IsCommitted}
use Rattle.site.specs.inner.Concluded.{committed}

-- ---- a commit as the last step
module _ {C : Type 0} (device : C → Device) (old new : OpenSite C) (r : Record) where
  -- the commit is refused, and the refusal handed on
  pub concludes_err : (line : Option Line) (datagrams : List (ℕ × List ℕ)) (fault : SiteFault)
      → IsCommitted device old new r (Err fault)
      → Concludes device old new (Some r) line datagrams (Err fault)
  concludes_err line datagrams fault c = record {
    keeps = keeps c.faults c.book;
    stands = tt;
    same = c.same;
    faults = only c.faults;
    says = λ a e. absurd (cc e);
  }
    where
      only : (fault ≡ faults.Memory) ⊎ (fault ≡ faults.Device)
          → (fault ≡ faults.Memory) ⊎ ((fault ≡ faults.Device) × IsSome (Some r))
      only (inl e) = inl e
      only (inr e) = inr (e, refl)

      keeps : (fault ≡ faults.Memory) ⊎ (fault ≡ faults.Device)
          → (◌≡◌ {A = Result (Unit {0}) SiteFault} (Err fault) (Err faults.Memory) ×
          (new.book ≡ old.book))
          ⊎ Commits device old.book r (committed (Err fault)) new.book
          → Keeps device (Some r) (Err fault) old.book new.book
      keeps f (inl (e, same)) = inl (cc e, same)
      keeps (inl e) (inr c) = inr (rw e (rw e at c))
      keeps (inr e) (inr c) = inr (rw e (rw e at c))

-- ---- a conclusion as an answer
module _ {C : Type 0} (device : C → Device) (old mid new : OpenSite C)
    (volatile : VolatileState) (under : UnderWay) (e : Effect)
    (line : Option Line) (datagrams : List (ℕ × List ℕ)) where
  -- the federation's number of the old site
  abbrev federation : ℕ
  federation = old.book.owner.members.federation

  gives : (result : Result Answer SiteFault)
      → Concludes device mid new e.commits line datagrams result
      → Stands mid volatile under
      → e.says ≡ Ok line → datagrams ≡ map (datagram federation) e.sends
      → (Stands new (volatile_after volatile under e.commits) (under_after under e.commits)
      → Represents new e.volatile)
      → Gives old new volatile e result
  gives (Ok answer) c stands says sends after = (
    cc ((c.says answer refl).0),
    (c.says answer refl).1 ∙ sends,
    after (c.stands volatile under stands),
  )
  gives (Err fault) c stands says sends after = go c.faults
    where
      go : (fault ≡ faults.Memory) ⊎ ((fault ≡ faults.Device) × IsSome e.commits)
          → Gives old new volatile e (Err fault)
      go (inl is) = rw is (under, c.same volatile under stands)
      go (inr (is, some)) = rw is some

  -- a conclusion is the answer, where the effect is what was concluded
  pub concluded : (result : Result Answer SiteFault)
      → Concludes device mid new e.commits line datagrams result
      → mid.book ≡ old.book → Stands mid volatile under
      → e.says ≡ Ok line → datagrams ≡ map (datagram federation) e.sends
      → (Stands new (volatile_after volatile under e.commits) (under_after under e.commits)
      → Represents new e.volatile)
      → IsAnswered device old new volatile e result
  concluded result c book stands says sends after = record {
    keeps = rw (← book) c.keeps;
    gives = gives result c stands says sends after;
  }

-- ---- the volatile state

-- an entry that begins no ballot
abbrev pub IsNoRound : Option Entry → Type 0
IsNoRound None = Unit {0}
IsNoRound (Some e) = (begun : Option BallotNumber) → current_by begun e ≡ None

-- its record changes neither the volatile state nor what is under way
pub noted_same : (slot : SlotName) (e : Option Entry) → IsNoRound e
    → (volatile : VolatileState) (under : UnderWay)
    → (volatile_after volatile under (record_of slot e) ≡ volatile)
    × (under_after under (record_of slot e) ≡ under)
noted_same slot None none volatile under = (refl, refl)
noted_same slot (Some e) none volatile under =
    rw (none (under.begun slot)) (refl, refl)

-- what an acceptor decides begins none
pub prepare_starts_none : (slot : SlotName) (records : List Record) (ballot : BallotNumber)
    → IsNoRound (prepare_decision slot records ballot).entry
unfolding prepare_decision
prepare_starts_none slot records ballot = go (promised_of slot records)
  where
    go : (p : Option BallotNumber) → IsNoRound (on_prepare p (vote_of slot records) ballot).entry
    go None = λ begun. refl
    go (Some promised) =
        cond_both (below promised ballot) (promises ballot (vote_of slot records))
        (refuses ballot promised) (λ (d : Decision). IsNoRound d.entry) (λ e begun. refl) (λ e. tt)

pub accept_starts_none : (slot : SlotName) (records : List Record) (vote : Vote)
    → IsNoRound (accept_decision slot records vote).entry
unfolding accept_decision
accept_starts_none slot records vote =
    go (promised_of slot records) (is_vote vote (vote_of slot records))
  where
    anew : (p : Option BallotNumber)
        → IsNoRound (on_new_accept p (vote_of slot records) vote).entry
    anew None = λ begun. refl
    anew (Some promised) =
        cond_both (below vote.ballot promised || is_in_ballot vote.ballot (vote_of slot records))
        (refuses vote.ballot promised) (votes vote) (λ (d : Decision). IsNoRound d.entry) (λ e. tt)
        (λ e begun. refl)

    go : (p : Option BallotNumber) (t : Bool)
        → IsNoRound (cond t (votes_again vote) (on_new_accept p (vote_of slot records) vote)).entry
    go p true = tt
    go p false = anew p
