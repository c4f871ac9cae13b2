-- One record more.
use Rattle.std.proofs.Common.{◌≡◌, max, refl, ◌∙◌, List, [], ◌∷◌, ◌++◌, length, Option, None, Some}
use Rattle.std.proofs.Common.{arith}
use Rattle.std.proofs.Math.Seq.{drop-length}
use Rattle.fed_types.specs.Ballots.{BallotNumber}
use Rattle.fed_types.specs.Slots.{SlotName}
use Rattle.records.specs.declared.record.Record.{Record}
use Rattle.records.specs.SlotStates.{with_one, if_some, entry_of, round_in}
use Rattle.records.proofs.SlotStates.{used-push}
use Rattle.dgram.specs.declared.message.Message.{Message}
use Rattle.dgram.specs.Heard.{bodies_of, promises_for, promisers, priors}
use Rattle.proposer.specs.BallotStates.{fresh}
use Rattle.proposer.specs.declared.row.Row.{Row}
use Rattle.proposer.specs.Proposals.{Current, gathered, highest_prior}
use Rattle.proposer.specs.Rows.{Counts, Knows}

-- a row whose used round is raised where the record is a Round of the slot
pub raised_knows : {slot : SlotName} {records : List Record} {heard : List Message}
    {c : Option Current} {b : Option BallotNumber} {w : Option Message} {row next : Row}
    (r : Record) → Knows slot records heard c b w row
    → next.used ≡ with_one max row.used (if_some round_in (entry_of slot r))
    → next.floor ≡ row.floor → next.begun ≡ row.begun → next.current ≡ row.current
    → Knows slot (records ++ r ∷ []) heard c b w next
raised_knows {slot} {records} r h used floor begun current = record {
  used = rw (used-push slot records r, ← h.used) used;
  floor = floor ∙ h.floor;
  begun = rw begun h.begun;
  current = rw current h.current;
  waiting = rw current h.waiting;
}

-- nothing was heard since now
nothing_gathered : (slot : SlotName) (b : BallotNumber) (heard : List Message)
    → gathered slot (record { ballot = b; heard_before = length heard }) heard ≡ []
unfolding gathered promises_for bodies_of
nothing_gathered slot b heard = rw (drop-length heard)

fresh_counts : (slot : SlotName) (b : BallotNumber) (heard : List Message)
    → Counts slot heard (record { ballot = b; heard_before = length heard }) (fresh b)
unfolding highest_prior priors promisers
fresh_counts slot b heard = record {
  ballot = refl;
  promised_by = λ n. rw (nothing_gathered slot b heard);
  best = rw (nothing_gathered slot b heard);
  within = omega arith;
}

-- a row whose ballot b was begun, and is current now
pub issued_knows : {slot : SlotName} {records : List Record} {heard : List Message}
    {c : Option Current} {next_one : Option BallotNumber} {w : Option Message} {row next : Row}
    (r : Record) (b : BallotNumber) → Knows slot records heard c next_one w row
    → next.used ≡ with_one max row.used (if_some round_in (entry_of slot r))
    → next.floor ≡ row.floor → next.begun ≡ None → next.current ≡ Some (fresh b)
    → Knows slot (records ++ r ∷ []) heard
    (Some (record { ballot = b; heard_before = length heard })) None None next
issued_knows {slot} {records} {heard} r b h used floor begun current = record {
  used = rw (used-push slot records r, ← h.used) used;
  floor = floor ∙ h.floor;
  begun = rw begun;
  current = rw current (fresh_counts slot b heard);
  waiting = rw current;
}
