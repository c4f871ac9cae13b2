-- A site of three that serves, between two turns of an agreement, and what it has of its slot then.
use Rattle.std.proofs.Common.{ℕ, ◌≡◌, refl, sym, ap, Bool, true, false, cond, List, [], ◌∷◌, Option}
use Rattle.std.proofs.Common.{None, Some, arith}
use Rattle.fed_types.specs.declared.bag_id.BagId.{BagId}
use Rattle.fed_types.specs.declared.vote.Vote.{Vote}
use Rattle.fed_types.specs.Lists.{is_in}
use Rattle.fed_types.specs.Slots.{SlotName, same_slot}
use Rattle.records.specs.declared.entry.Entry.{Entry}
use Rattle.records.specs.SlotStates.{known_of, used_of}
use Rattle.dgram.specs.declared.body.Body.{Body}
use Rattle.dgram.specs.Heard.{same_vote, bodies_of, floor_of, voters_for, promisers}
use Rattle.learner.specs.LearnerStates as ledgers
use Rattle.learner.specs.declared.row.Row.{Row as heard_row}
use Rattle.learner.specs.declared.row.Row.TheVariants as rows
use Rattle.learner.proofs.HeardVotes.{same_vote_decides}
use Rattle.proposer.specs.declared.row.Row.{Row as own_row}
use Rattle.proposer.specs.Proposals.{Current, gathered, highest_prior}
use Rattle.proposer.specs.VolatileStates.{VolatileState, at_slot}
use Rattle.proposer.specs.UnderWay.{nothing}
use Rattle.site.specs.Contents.{Represents}
use Rattle.serving_law.specs.ExamplesAgreed.{three, a, ballot, vote}
use Rattle.serving_law.proofs.Tables.{records_of, heard_of, tables, stands}

-- ---- what it has heard, and which ballot is current

abbrev pub current_of : Option Current → SlotName → Option Current
current_of None = λ s. None
current_of (Some c) = at_slot a (Some c) (λ s. None)

abbrev pub volatile_of : List Body → Option Current → VolatileState
volatile_of bs c = record { heard = heard_of a bs; current = current_of c }

-- its first ballot, which was issued before anything was heard
abbrev pub issued : Current
issued = record { ballot = ballot; heard_before = 0 }

elsewhere : (c : Option Current) (s : SlotName) → same_slot a s ≡ false → current_of c s ≡ None
elsewhere None s f = refl
elsewhere (Some c) s f = rw f refl

-- ---- its own row

abbrev pub no_ballot : own_row
no_ballot = record { used = 0; floor = 0; begun = None; current = None }

-- these have promised its ballot, and named no vote
abbrev pub promised_row : List ℕ → own_row
promised_row voters = record {
  used = 1;
  floor = 0;
  begun = None;
  current = Some (record { ballot = ballot; promised_by = voters; best = None; waiting = None });
}

-- a test of two votes, the other way round
turned : (u v : Vote) → same_vote u v ≡ same_vote v u
turned u v = go (same_vote u v) (same_vote v u) refl refl
  where
    go : (s t : Bool) → same_vote u v ≡ s → same_vote v u ≡ t → s ≡ t
    go true true e f = refl
    go true false e f =
        absurd (cc (f, (same_vote_decides v u).1 (sym ((same_vote_decides u v).0 e))))
    go false true e f =
        absurd (cc (e, (same_vote_decides u v).1 (sym ((same_vote_decides v u).0 f))))
    go false false e f = refl

-- a row of the one vote of which was heard
abbrev pub voted_by : BagId → List ℕ → heard_row
voted_by bag voters = rows.Heard ((vote bag, voters) ∷ [])

pub counted : (bag : BagId) (voters : List ℕ) (v : Vote)
    → ledgers.counted_in (Some (voted_by bag voters)) v
    ≡ ledgers.voters_or_none (cond (same_vote (vote bag) v) (Some voters) None)
counted bag voters v = rw (turned v (vote bag)) refl

-- ---- the tables represent it

module _ (n : ℕ) (es : List Entry) (bs : List Body) (heard : heard_row)
    (known : ledgers.known_in (Some heard) ≡ known_of a (records_of a es))
    (votes : known_of a (records_of a es) ≡ None → (v : Vote) (k : ℕ)
    → is_in (ledgers.counted_in (Some heard) v) k
    ≡ is_in (voters_for v (bodies_of a (heard_of a bs))) k)
    (floor : 0 ≡ floor_of (bodies_of a (heard_of a bs))) where
  -- where it has no ballot
  pub stands_idle : 0 ≡ used_of a (records_of a es)
      → Represents (tables a three n (record { own = no_ballot; heard = heard }))
      (records_of a es) (volatile_of bs None) nothing
  stands_idle used =
      stands a three n es bs (volatile_of bs None) refl (elsewhere None)
      (record { own = no_ballot; heard = heard })
      (record { used = used; floor = floor; begun = refl; current = tt; waiting = refl })
      known votes

  -- where it has issued its first
  pub stands_issued : (voters : List ℕ) → 1 ≡ used_of a (records_of a es)
      → voters ≡ promisers (gathered a issued (heard_of a bs))
      → None ≡ highest_prior (gathered a issued (heard_of a bs))
      → Represents (tables a three n (record { own = promised_row voters; heard = heard }))
      (records_of a es) (volatile_of bs (Some issued)) nothing
  unfolding same_slot
  stands_issued voters used promised best =
      stands a three n es bs (volatile_of bs (Some issued)) refl (elsewhere (Some issued))
      (record { own = promised_row voters; heard = heard })
      (record {
        used = used;
        floor = floor;
        begun = refl;
        current = record {
          ballot = refl;
          promised_by = λ k. ap (λ (xs : List ℕ). is_in xs k) promised;
          best = best;
          within = omega arith;
        };
        waiting = refl;
      })
      known votes
