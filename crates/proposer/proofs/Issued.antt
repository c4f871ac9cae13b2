-- What waits is counted, and what a record makes of a volatile state.
use Rattle.std.proofs.Common.{◌≡◌, ℕ, max, false, refl, List, [], ◌∷◌, ◌++◌, Option, None, Some}
use Rattle.std.proofs.Common.{inr, inl}
use Rattle.std.specs.Prelude.{option_map, ◌==◌}
use Rattle.std.proofs.lemmas.Bool.{cases_Bool}
use Rattle.fed_types.specs.Ballots.{BallotNumber}
use Rattle.fed_types.specs.Slots.{SlotName, same_slot}
use Rattle.fed_types.specs.Laws.Ballots.{same_ballot_decides}
use Rattle.records.specs.declared.entry.Entry.{Entry}
use Rattle.records.specs.declared.entry.Entry.TheVariants as entry
use Rattle.records.specs.declared.record.Record.{Record}
use Rattle.records.specs.SlotStates.{with_one, round_in}
use Rattle.dgram.specs.declared.message.Message.{Message}
use Rattle.dgram.specs.Heard.{bodies_of, floor_of}
use Rattle.slot_table.specs.Rows.{Rows, IsWith}
use Rattle.proposer.specs.declared.ballot_state.Promise.{Promise}
use Rattle.proposer.specs.BallotStates.{BallotState}
use Rattle.proposer.specs.declared.row.Row.{Row}
use Rattle.proposer.specs.Proposals.{Current}
use Rattle.proposer.specs.VolatileStates.{VolatileState, with_current, promise_message}
use Rattle.proposer.specs.UnderWay.{UnderWay, waits, heard_if, of_round, current_by, current_if}
use Rattle.proposer.specs.UnderWay.{under_way_if}
use Rattle.proposer.specs.Rows.{Counts, CountsFor, Knows, Represents, row_of, current_in}
use Rattle.proposer.specs.Rows.{waiting_as, waiting_in, KnowsSame}
use Rattle.proposer.specs.inner.BallotStates.{issued, issued_with}
use Rattle.proposer.specs.inner.Rows.{IssuesAt, noted_row}
use Rattle.proposer.proofs.Gathered.{floor-push}
use Rattle.proposer.proofs.Known.{other_knows, kept_knows}
use Rattle.proposer.proofs.Promised.{counts_more}
use Rattle.proposer.proofs.Noted.{raised_knows, issued_knows}
use Rattle.proposer.proofs.Tables.{PutsAt, puts_at, stands_at, KnowsAt, here}

-- ---- what waits is counted
module _ (slot : SlotName) (heard : List Message) where
  -- the messages with what waits
  abbrev heard_with : Option Message → List Message
  heard_with None = heard
  heard_with (Some m) = heard ++ m ∷ []

  issued_counts : (c : Current) (state : BallotState) (w : Option Promise)
      → Counts slot heard c state
      → Counts slot (heard_with (waiting_as slot state.ballot w)) c (issued_with state w)
  issued_counts c state None h = h
  issued_counts c state (Some p) h =
      let more = counts_more slot p.site state.ballot p.prior heard c state h
      ((same_ballot_decides state.ballot state.ballot).1 refl) in
      record {
        ballot = more.ballot;
        promised_by = more.promised_by;
        best = more.best;
        within = more.within;
      }

  issued_waits : (state : BallotState) (w : Option Promise) → state.waiting ≡ w
      → waiting_as slot (issued_with state w).ballot (issued_with state w).waiting ≡ None
  issued_waits state None e = rw e
  issued_waits state (Some p) e = refl

  pub issued_current : (c : Option Current) (o : Option BallotState) → CountsFor slot heard c o
      → CountsFor slot (heard_with (waiting_in slot o)) c (option_map issued o)
  issued_current (Some c) (Some state) h = issued_counts c state state.waiting h
  issued_current None (Some state) h = h
  issued_current _ None h = h

  pub issued_none : (o : Option BallotState) → waiting_in slot (option_map issued o) ≡ None
  issued_none None = refl
  issued_none (Some state) = issued_waits state state.waiting refl

pub issued_stands : (old new : Rows Row) (slot : SlotName)
    (records : List Record) (volatile : VolatileState) (under : UnderWay) → IssuesAt old new slot
    → Represents old records volatile under
    → Represents new records (heard_if volatile (under.waiting slot)) (waits under slot None)
issued_stands old new slot records volatile under at stands =
    rw (← (stands slot).waiting)
    (by_state (current_in (row_of old slot))
    (rw at.1.current
    (issued_current slot volatile.heard (volatile.current slot) (current_in (row_of old slot))
    (stands slot).current)))
  where
    -- these messages were heard
    with_heard : (heard : List Message)
        → floor_of (bodies_of slot heard) ≡ floor_of (bodies_of slot volatile.heard)
        → CountsFor slot heard (volatile.current slot) (current_in (row_of new slot))
        → ((s : SlotName) → same_slot slot s ≡ false → Knows s records heard (volatile.current s)
        (under.begun s) (under.waiting s) (row_of old s))
        → Represents new records (record { heard = heard; current = volatile.current })
        (waits under slot None)
    with_heard heard floor counts others =
        stands_at old new slot (row_of new slot) records
        (record { heard = heard; current = volatile.current }) (waits under slot None) at.0
        (rw (here slot)
        (kept_knows (stands slot) at.1.used at.1.floor at.1.begun floor counts
        (rw at.1.current (issued_none slot heard (current_in (row_of old slot))))))
        (λ s e. rw e (others s e))

    by_waiting : (b : BallotNumber) (w : Option Promise)
        → CountsFor slot (heard_with slot volatile.heard (waiting_as slot b w))
        (volatile.current slot) (current_in (row_of new slot))
        → Represents new records (heard_if volatile (waiting_as slot b w)) (waits under slot None)
    by_waiting b None counts = with_heard volatile.heard refl counts (λ s e. stands s)
    by_waiting b (Some p) counts =
        let m = promise_message slot p.site b p.prior in
        with_heard (volatile.heard ++ m ∷ []) (rw (floor-push slot volatile.heard m, here slot))
        counts (λ s e. other_knows m (rw e) (stands s))

    by_state : (o : Option BallotState)
        → CountsFor slot (heard_with slot volatile.heard (waiting_in slot o))
        (volatile.current slot) (current_in (row_of new slot))
        → Represents new records (heard_if volatile (waiting_in slot o)) (waits under slot None)
    by_state None counts = with_heard volatile.heard refl counts (λ s e. stands s)
    by_state (Some state) counts = by_waiting state.ballot state.waiting counts

-- ---- a record noted
module _ (old new : Rows Row) (r : Record) (records : List Record) (volatile : VolatileState)
    (under : UnderWay) (stands : Represents old records volatile under) where
  -- of another slot the record says nothing
  others_stay : (s : SlotName) → same_slot r.slot s ≡ false
      → KnowsAt (records ++ r ∷ []) volatile under s (row_of old s)
  others_stay s e = raised_knows r (stands s) (rw e) refl refl refl

  raised : (row : Row) (n : Option ℕ) → round_in r.body ≡ n → PutsAt old new r.slot row
      → row.used ≡ with_one max (row_of old r.slot).used n → row.floor ≡ (row_of old r.slot).floor
      → row.begun ≡ (row_of old r.slot).begun → row.current ≡ (row_of old r.slot).current
      → Represents new (records ++ r ∷ []) volatile under
  raised row n is puts used floor begun current =
      stands_at old new r.slot row (records ++ r ∷ []) volatile under puts
      (raised_knows r (stands r.slot) (rw (here r.slot, is) used) floor begun current)
      others_stay

  -- by the kind of its entry; a Round, by whether it is of the ballot that was begun
  pub entry_stands : (body : Entry) → r.body ≡ body
      → PutsAt old new r.slot (noted_row (row_of old r.slot) (Some body))
      → Represents new (records ++ r ∷ [])
      (current_if volatile r.slot (current_by (under.begun r.slot) body))
      (under_way_if under r.slot (current_by (under.begun r.slot) body))
  entry_stands (entry.Round n) e puts = go (under.begun r.slot) refl
    where
      go : (b : Option BallotNumber) → under.begun r.slot ≡ b
          → Represents new (records ++ r ∷ []) (current_if volatile r.slot (of_round b n))
          (under_way_if under r.slot (of_round b n))
      go None is =
          let begun = rw is at (stands r.slot).begun in
          raised _ (Some n) (rw e) (rw begun at puts) refl refl refl refl
      go (Some b) is =
          let begun = rw is at (stands r.slot).begun in
          elim (cases_Bool (b.round == n)) [
            | inl t ↦
                rw t
                (stands_at old new r.slot _ (records ++ r ∷ []) (with_current volatile r.slot b)
                (under_way_if under r.slot (Some b)) (rw (begun, t) at puts)
                (rw (here r.slot)
                (issued_knows r b (stands r.slot) (rw (here r.slot, e)) refl refl refl))
                (λ s f. rw f (others_stay s f)))
            | inr t ↦ rw t (raised _ (Some n) (rw e) (rw (begun, t) at puts) refl refl refl refl)
          ]
  entry_stands _ e puts = raised (row_of old r.slot) None (rw e) puts refl refl refl refl

pub noted_stands : (old mid new : Rows Row) (r : Record)
    (records : List Record) (volatile : VolatileState) (under : UnderWay) → KnowsSame old mid
    → IsWith mid new r.slot (noted_row (row_of mid r.slot) (Some r.body))
    → Represents old records volatile under
    → Represents new (records ++ r ∷ [])
    (current_if volatile r.slot (current_by (under.begun r.slot) r.body))
    (under_way_if under r.slot (current_by (under.begun r.slot) r.body))
noted_stands old mid new r records volatile under same put stands =
    entry_stands old new r records volatile under stands r.body refl
    (puts_at (λ row. noted_row row (Some r.body)) old mid new r.slot same put)
