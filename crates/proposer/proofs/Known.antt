-- What a row knows stays so with a message more that is no promise for the current ballot.
use Rattle.std.proofs.Common.{◌≡◌, max, refl, ◌∙◌, List, [], ◌∷◌, ◌++◌, Option, None, Some}
use Rattle.std.proofs.Common.{append-nil, arith, length-append}
use Rattle.fed_types.specs.Ballots.{BallotNumber}
use Rattle.fed_types.specs.Slots.{SlotName}
use Rattle.records.specs.declared.record.Record.{Record}
use Rattle.records.specs.SlotStates.{with_one, if_some}
use Rattle.dgram.specs.declared.message.Message.{Message}
use Rattle.dgram.specs.Heard.{body_in, promise_in, refused_round, bodies_of, floor_of}
use Rattle.proposer.specs.BallotStates.{BallotState}
use Rattle.proposer.specs.declared.row.Row.{Row}
use Rattle.proposer.specs.Proposals.{Current, gathered}
use Rattle.proposer.specs.Rows.{Counts, CountsFor, Knows, current_in, waiting_in}
use Rattle.proposer.proofs.Gathered.{gathered-push, floor-push}

-- the message is no promise for a ballot
abbrev pub IsNoPromise : SlotName → Message → BallotNumber → Type 0
IsNoPromise slot m b = if_some (promise_in b) (body_in slot m) ≡ None

pub counts_same : {slot : SlotName} {heard : List Message} {c : Current} {state : BallotState}
    (m : Message) → IsNoPromise slot m c.ballot → Counts slot heard c state
    → Counts slot (heard ++ m ∷ []) c state
counts_same {slot} {heard} {c} m isnt h =
    let same : gathered slot c (heard ++ m ∷ []) ≡ gathered slot c heard =
    rw (gathered-push slot c heard m h.within, isnt) (append-nil (gathered slot c heard)) in
    record {
      ballot = h.ballot;
      promised_by = λ n. rw same (h.promised_by n);
      best = rw same h.best;
      within = omega (arith, h.within, length-append heard (m ∷ []));
    }

module _ {slot : SlotName} {records : List Record} {heard : List Message} {c : Option Current}
    {b : Option BallotNumber} {w : Option Message} where
  -- a row of another ballot that counts, or of another floor
  pub kept_knows : {more : List Message} {w' : Option Message} {row next : Row}
      → Knows slot records heard c b w row
      → next.used ≡ row.used → next.floor ≡ row.floor → next.begun ≡ row.begun
      → floor_of (bodies_of slot more) ≡ floor_of (bodies_of slot heard)
      → CountsFor slot more c (current_in next) → waiting_in slot (current_in next) ≡ w'
      → Knows slot records more c b w' next
  kept_knows h used floor begun same counts waiting = record {
    used = used ∙ h.used;
    floor = rw same (floor ∙ h.floor);
    begun = rw begun h.begun;
    current = counts;
    waiting = waiting;
  }

  -- a row whose floor is raised where the message is a refusal
  pub heard_knows : {row next : Row} (m : Message) → Knows slot records heard c b w row
      → next.used ≡ row.used → next.begun ≡ row.begun → next.current ≡ row.current
      → next.floor ≡ with_one max row.floor (if_some refused_round (body_in slot m))
      → ((b : BallotNumber) → IsNoPromise slot m b)
      → Knows slot records (heard ++ m ∷ []) c b w next
  heard_knows {row} m h used begun current floor isnt = record {
    used = used ∙ h.used;
    floor = rw (floor-push slot heard m, ← h.floor) floor;
    begun = rw begun h.begun;
    current = rw current (counts c (current_in row) h.current);
    waiting = rw current h.waiting;
  }
    where
      counts : (c : Option Current) (state : Option BallotState) → CountsFor slot heard c state
          → CountsFor slot (heard ++ m ∷ []) c state
      counts (Some c) (Some state) h = counts_same m (isnt c.ballot) h
      counts _ _ h = h

  -- of another slot
  pub other_knows : {row : Row} (m : Message) → body_in slot m ≡ None
      → Knows slot records heard c b w row → Knows slot records (heard ++ m ∷ []) c b w row
  other_knows m e h = heard_knows m h refl refl refl (rw e) (λ b. rw e)
