-- Tables that represent any records, and what was heard: a row for each slot of one of them.
use Rattle.std.proofs.Common.{ℕ, ◌≡◌, ◌≤◌, ◌⊎◌, inl, inr, refl, sym, ap, ◌∙◌, Bool, true, false}
use Rattle.std.proofs.Common.{cond, List, [], ◌∷◌, ◌++◌, length, map, filter_map, Option, None}
use Rattle.std.proofs.Common.{Some}
use Rattle.std.specs.Map.{lookup}
use Rattle.std.proofs.lemmas.Bool.{false≢true, false_from_ne_true}
use Rattle.std.specs.Prelude.{Decides}
use Rattle.fed_types.specs.declared.bag_id.BagId.{BagId}
use Rattle.fed_types.specs.declared.vote.Vote.{Vote}
use Rattle.fed_types.specs.Lists.{Has, here, there, is_in}
use Rattle.fed_types.specs.Sites.{Membership}
use Rattle.fed_types.specs.Slots.{SlotName, same_slot}
use Rattle.fed_types.specs.Laws.Lists.{has_none, has_left, has_right}
use Rattle.fed_types.specs.Laws.Slots.{same_slot_decides}
use Rattle.records.specs.declared.record.Record.{Record}
use Rattle.records.specs.SlotStates.{entries, known_of, used_of}
use Rattle.learner.specs.declared.row.Row.{Row as heard_row}
use Rattle.proposer.specs.declared.row.Row.{Row as own_row}
use Rattle.dgram.specs.declared.body.Body.{Body}
use Rattle.dgram.specs.declared.body.Body.TheVariants.{Accepted}
use Rattle.dgram.specs.declared.message.Message.{Message}
use Rattle.dgram.specs.Heard.{body_in, bodies_of, floor_of, promisers, same_vote, voter_in}
use Rattle.dgram.specs.Heard.{voters_for}
use Rattle.learner.specs.LearnerStates as learners
use Rattle.learner.specs.declared.row.Row.TheVariants as rows
use Rattle.learner.proofs.HeardVotes.{same_vote_decides}
use Rattle.proposer.specs.BallotStates.{BallotState}
use Rattle.proposer.specs.Proposals.{Current, gathered, highest_prior}
use Rattle.proposer.specs.Rows.{CountsFor, Knows, empty_row, waiting_in}
use Rattle.proposer.specs.UnderWay.{nothing}
use Rattle.proposer.specs.VolatileStates.{VolatileState}
use Rattle.slot_table.specs.Rows.{row_at, row_or}
use Rattle.site.specs.Contents.{Contents, Represents}

-- ---- a list of keys, each with what belongs to it

module _ {K V : Type 0} (test : K → K → Bool) (decides : (a b : K) → Decides (test a b) (a ≡ b))
    (g : K → V) where
  abbrev pub with_each : List K → List (K × V)
  with_each keys = map (λ (k : K). (k, g k)) keys

  pub found : (k : K) (keys : List K) → Has k keys → lookup (test k) (with_each keys) ≡ Some (g k)
  found k [] h = absurd (has_none h)
  found k (i ∷ keys) h = go (test k i) refl (λ later. found k keys later) h
    where
      go : (t : Bool) → test k i ≡ t
          → (Has k keys → lookup (test k) (with_each keys) ≡ Some (g k)) → Has k (i ∷ keys)
          → cond t (Some (g i)) (lookup (test k) (with_each keys)) ≡ Some (g k)
      go true e rest h = rw ((decides k i).0 e) refl
      go false e rest (here same) = absurd (false≢true (sym e ∙ (decides k i).1 (sym same)))
      go false e rest (there later) = rest later

  pub not_found : (k : K) (keys : List K) → (Has k keys → ⊥)
      → lookup (test k) (with_each keys) ≡ None
  not_found k [] none = refl
  not_found k (i ∷ keys) none =
      rw (false_from_ne_true (test k i) (λ e. none (here (sym ((decides k i).0 e)))))
      (not_found k keys (λ h. none (there h)))

module _ {K : Type 0} (test : K → K → Bool) (decides : (a b : K) → Decides (test a b) (a ≡ b))
  where
    pub is_among : (k : K) (keys : List K) → Has k keys ⊎ (Has k keys → ⊥)
    is_among k [] = inr (λ h. has_none h)
    is_among k (i ∷ keys) = go (test k i) refl (is_among k keys)
      where
        not_either : test k i ≡ false → (Has k keys → ⊥) → Has k (i ∷ keys) → ⊥
        not_either e none (here same) = false≢true (sym e ∙ (decides k i).1 (sym same))
        not_either e none (there h) = none h

        go : (t : Bool) → test k i ≡ t → Has k keys ⊎ (Has k keys → ⊥)
            → Has k (i ∷ keys) ⊎ (Has k (i ∷ keys) → ⊥)
        go true e rest = inl (here (sym ((decides k i).0 e)))
        go false e (inl h) = inl (there h)
        go false e (inr none) = inr (λ h. not_either e none h)

-- ---- of a slot of which nothing is on record, or was heard

other_slot : (a b : SlotName) → (a ≡ b → ⊥) → same_slot a b ≡ false
other_slot a b differ =
    false_from_ne_true (same_slot a b) (λ e. differ ((same_slot_decides a b).0 e))

abbrev slots_on : List Record → List SlotName
slots_on records = map (λ (r : Record). r.slot) records

abbrev slots_heard : List Message → List SlotName
slots_heard heard = map (λ (m : Message). m.slot) heard

no_entries : (s : SlotName) (records : List Record) → (Has s (slots_on records) → ⊥)
    → entries s records ≡ []
no_entries s [] none = refl
no_entries s (r ∷ records) none =
    rw (other_slot r.slot s (λ e. none (here e))) (no_entries s records (λ h. none (there h)))

no_bodies : (s : SlotName) (heard : List Message) → (Has s (slots_heard heard) → ⊥)
    → filter_map (body_in s) heard ≡ []
no_bodies s [] none = refl
no_bodies s (m ∷ heard) none =
    rw (other_slot m.slot s (λ e. none (here e))) (no_bodies s heard (λ h. none (there h)))

none_used : (s : SlotName) (records : List Record) → entries s records ≡ [] → used_of s records ≡ 0
unfolding used_of
none_used s records none = rw none refl

none_known : (s : SlotName) (records : List Record) → entries s records ≡ []
    → known_of s records ≡ None
unfolding known_of
none_known s records none = rw none refl

no_floor : (s : SlotName) (heard : List Message) → filter_map (body_in s) heard ≡ []
    → floor_of (bodies_of s heard) ≡ 0
unfolding floor_of bodies_of
no_floor s heard none = rw none refl

none_votes : (s : SlotName) (heard : List Message) (vote : Vote)
    → filter_map (body_in s) heard ≡ [] → voters_for vote (bodies_of s heard) ≡ []
unfolding voters_for bodies_of
none_votes s heard vote none = rw none refl

-- ---- the votes of which was heard

abbrev vote_in : Body → Option Vote
vote_in (Accepted from vote) = Some vote
vote_in _ = None

no_voters : (vote : Vote) (bodies : List Body) → (Has vote (filter_map vote_in bodies) → ⊥)
    → filter_map (voter_in vote) bodies ≡ []
no_voters vote [] none = refl
no_voters vote (Accepted from u ∷ bodies) none =
    rw (false_from_ne_true (same_vote u vote) (λ e. none (here ((same_vote_decides u vote).0 e))))
    (no_voters vote bodies (λ h. none (there h)))
no_voters vote (b ∷ bodies) none = no_voters vote bodies none

abbrev votes_of : List Body → learners.Votes
votes_of bodies =
    with_each same_vote same_vote_decides (λ (v : Vote). voters_for v bodies)
    (filter_map vote_in bodies)

counted : (vote : Vote) (bodies : List Body)
    → learners.voters_for_vote (votes_of bodies) vote ≡ voters_for vote bodies
unfolding voters_for
counted vote bodies =
    elim (is_among same_vote same_vote_decides vote (filter_map vote_in bodies)) [
      | inl h ↦
          rw (found same_vote same_vote_decides (λ (v : Vote). voters_for v bodies) vote
          (filter_map vote_in bodies) h) refl
      | inr none ↦
          rw (not_found same_vote same_vote_decides (λ (v : Vote). voters_for v bodies) vote
          (filter_map vote_in bodies) none) (sym (no_voters vote bodies none))
    ]

-- ---- the tables

-- a slot that has a current ballot has a record, and the ballot was begun among what was heard
pub record IsSupported (records : List Record) (volatile : VolatileState) : Type 0 where
  pub on_record : (s : SlotName) (c : Current) → volatile.current s ≡ Some c
      → Has s (slots_on records)
  pub within : (s : SlotName) (c : Current) → volatile.current s ≡ Some c
      → c.heard_before ≤ length volatile.heard

module _ (members : Membership) (site : ℕ) (records : List Record) (volatile : VolatileState)
    (is : IsSupported records volatile) where
  abbrev keys : List SlotName
  keys = slots_on records ++ slots_heard volatile.heard

  abbrev state_for : SlotName → Option Current → Option BallotState
  state_for s None = None
  state_for s (Some c) = Some (record {
    ballot = c.ballot;
    promised_by = promisers (gathered s c volatile.heard);
    best = highest_prior (gathered s c volatile.heard);
    waiting = None;
  })

  abbrev own_at : SlotName → own_row
  own_at s = record {
    used = used_of s records;
    floor = floor_of (bodies_of s volatile.heard);
    begun = None;
    current = state_for s (volatile.current s);
  }

  abbrev heard_by : SlotName → Option BagId → heard_row
  heard_by s None = rows.Heard (votes_of (bodies_of s volatile.heard))
  heard_by s (Some bag) = rows.Known bag

  abbrev heard_at : SlotName → heard_row
  heard_at s = heard_by s (known_of s records)

  abbrev pub tables : Contents
  tables = record {
    deposits = [];
    spare = 0;
    depositing = [];
    acceptor = [];
    proposer = record {
      members = members;
      site = site;
      rows = with_each same_slot same_slot_decides own_at keys;
    };
    learner = record {
      members = members;
      rows = with_each same_slot same_slot_decides heard_at keys;
    };
  }

  abbrev KnowsOf : SlotName → own_row → Type 0
  KnowsOf s row = Knows s records volatile.heard (volatile.current s) None None row

  knows_there : (s : SlotName) → KnowsOf s (own_at s)
  knows_there s = record {
    used = refl;
    floor = refl;
    begun = refl;
    current = counts (volatile.current s) refl;
    waiting = waits (volatile.current s);
  }
    where
      counts : (o : Option Current) → volatile.current s ≡ o
          → CountsFor s volatile.heard o (state_for s o)
      counts None e = tt
      counts (Some c) e =
          record { ballot = refl; promised_by = λ n. refl; best = refl; within = is.within s c e }

      waits : (o : Option Current) → waiting_in s (state_for s o) ≡ None
      waits None = refl
      waits (Some c) = refl

  module _ (s : SlotName) (none : Has s keys → ⊥) where
    no_records : entries s records ≡ []
    no_records = no_entries s records (λ h. none (has_left (slots_heard volatile.heard) h))

    none_heard : filter_map (body_in s) volatile.heard ≡ []
    none_heard = no_bodies s volatile.heard (λ h. none (has_right (slots_on records) h))

    knows_elsewhere : KnowsOf s empty_row
    knows_elsewhere = record {
      used = sym (none_used s records no_records);
      floor = sym (no_floor s volatile.heard none_heard);
      begun = refl;
      current = counts (volatile.current s) refl;
      waiting = refl;
    }
      where
        counts : (o : Option Current) → volatile.current s ≡ o → CountsFor s volatile.heard o None
        counts None e = tt
        counts (Some c) e =
            absurd (none (has_left (slots_heard volatile.heard) (is.on_record s c e)))

  proposer_at : (s : SlotName) → KnowsOf s (row_or empty_row (row_at tables.proposer.rows s))
  proposer_at s =
      elim (is_among same_slot same_slot_decides s keys) [
        | inl h ↦ rw (found same_slot same_slot_decides own_at s keys h) (knows_there s)
        | inr none ↦
            rw (not_found same_slot same_slot_decides own_at s keys none) (knows_elsewhere s none)
      ]

  known_at : (s : SlotName) → learners.known_in (row_at tables.learner.rows s) ≡ known_of s records
  known_at s =
      elim (is_among same_slot same_slot_decides s keys) [
        | inl h ↦
            rw (found same_slot same_slot_decides heard_at s keys h) (by_known (known_of s records))
        | inr none ↦
            rw (not_found same_slot same_slot_decides heard_at s keys none)
            (sym (none_known s records (no_records s none)))
      ]
    where
      by_known : (o : Option BagId) → learners.known_in (Some (heard_by s o)) ≡ o
      by_known None = refl
      by_known (Some bag) = refl

  votes_at : (s : SlotName) → known_of s records ≡ None → (vote : Vote)
      → learners.counted_in (row_at tables.learner.rows s) vote
      ≡ voters_for vote (bodies_of s volatile.heard)
  votes_at s unknown vote =
      elim (is_among same_slot same_slot_decides s keys) [
        | inl h ↦
            rw (found same_slot same_slot_decides heard_at s keys h, unknown)
            (counted vote (bodies_of s volatile.heard))
        | inr none ↦
            rw (not_found same_slot same_slot_decides heard_at s keys none)
            (sym (none_votes s volatile.heard vote (none_heard s none)))
      ]

  pub represents : Represents tables records volatile nothing
  represents = record {
    proposer = proposer_at;
    learner = record {
      known = known_at;
      votes = λ s unknown vote n. ap (λ (xs : List ℕ). is_in xs n) (votes_at s unknown vote);
    };
  }
