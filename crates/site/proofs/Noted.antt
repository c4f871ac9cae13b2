-- What the tables say and represent with one record more.
use Rattle.std.proofs.Common.{◌≡◌, List, [], ◌∷◌, ◌++◌, Option, Some, None, refl, sym, ap, subst}
use Rattle.std.proofs.Common.{◌∙◌, IsSome, Result}
use Rattle.std.specs.Prelude.{IsOk, OnOk}
use Rattle.slot_table.specs.Rows.{row_at}
use Rattle.fed_types.specs.Ballots.{BallotNumber}
use Rattle.fed_types.specs.Slots.{SlotName}
use Rattle.records.specs.declared.entry.Entry.{Entry}
use Rattle.records.specs.declared.entry.Entry.TheVariants as entry
use Rattle.records.specs.declared.owner.Owner.{Owner}
use Rattle.records.specs.declared.record.Record.{Record}
use Rattle.dgram.specs.declared.message.Message.{Message}
use Rattle.acceptor.specs.Rows as acceptors
use Rattle.proposer.specs.Rows as proposers
use Rattle.proposer.specs.VolatileStates.{VolatileState, new_volatile}
use Rattle.proposer.specs.UnderWay.{UnderWay, nothing, current_by, current_if}
use Rattle.proposer.specs.UnderWay.{under_way_if}
use Rattle.learner.specs.LearnerStates as learners
use Rattle.site.specs.Contents.{Contents, HasRoom, IsOf, Represents, with_deposit}
use Rattle.site.proofs.Deposited.{deposits-push}
use Rattle.site.proofs.Outcomes.{always}

-- a ballot that becomes current changes nothing of what was heard
heard_same : (volatile : VolatileState) (slot : SlotName) (ballot : Option BallotNumber)
    → volatile.heard ≡ (current_if volatile slot ballot).heard
heard_same volatile slot None = refl
heard_same volatile slot (Some ballot) = refl

-- each part takes note of the record
abbrev pub AcceptorNotes : (old new : Contents) → Record → Type 0
AcceptorNotes old new r =
    (records : List Record)
    → acceptors.Represents old.acceptor records
    → acceptors.Represents new.acceptor (records ++ r ∷ [])

abbrev pub ProposerNotes : (old new : Contents) → Record → Type 0
ProposerNotes old new r =
    (records : List Record) (volatile : VolatileState) (under : UnderWay)
    → proposers.Represents old.proposer.rows records volatile under
    → proposers.Represents new.proposer.rows (records ++ r ∷ [])
    (current_if volatile r.slot (current_by (under.begun r.slot) r.body))
    (under_way_if under r.slot (current_by (under.begun r.slot) r.body))

abbrev pub LearnerNotes : (old new : Contents) → Record → Type 0
LearnerNotes old new r =
    (records : List Record) (heard : List Message)
    → learners.Represents old.learner.rows records heard
    → learners.Represents new.learner.rows (records ++ r ∷ []) heard

pub record Notes (old new : Contents) (r : Record) : Type 0 where
  pub deposits : new.deposits ≡ with_deposit old.deposits r
  pub acceptor : AcceptorNotes old new r
  pub proposer : ProposerNotes old new r
  pub learner : LearnerNotes old new r
  pub whose : proposers.IsOfSameSite old.proposer new.proposer
  pub members : new.learner.members ≡ old.learner.members

-- so they do where there is room for it, as a clause sees the tables: a part that has room never
-- fails
pub all_note : {A P L : Type 0} {inside old : Contents} → inside ≡ old → (new : Contents)
    (r : Record) → HasRoom old r.slot → new.deposits ≡ with_deposit inside.deposits r
    → (acceptor : Result (Unit {0}) A) (proposer : Result (Unit {0}) P)
    (learner : Result (Unit {0}) L)
    → (IsSome (row_at inside.acceptor r.slot) → IsOk acceptor)
    → (IsSome (row_at inside.proposer.rows r.slot) → IsOk proposer)
    → (IsSome (row_at inside.learner.rows r.slot) → IsOk learner)
    → OnOk acceptor (AcceptorNotes inside new r) → OnOk proposer (ProposerNotes inside new r)
    → OnOk learner (LearnerNotes inside new r)
    → proposers.IsOfSameSite inside.proposer new.proposer
    → new.learner.members ≡ inside.learner.members → Notes old new r
all_note {inside = inside} seen new r room_seen deposits acceptor proposer learner a p l noted_a
    noted_p noted_l whose members =
    let room = subst (λ (t : Contents). HasRoom t r.slot) (sym seen) room_seen in
    subst (λ (t : Contents). Notes t new r) seen (record {
      deposits = deposits;
      acceptor = always acceptor (a room.acceptor) noted_a;
      proposer = always proposer (p room.proposer) noted_p;
      learner = always learner (l room.learner) noted_l;
      whose = whose;
      members = members;
    })

module _ (old new : Contents) (r : Record) (notes : Notes old new r) where
  -- so the tables say what the records say
  pub noted_of : (owner : Owner) (records : List Record) → IsOf old owner records
      → IsOf new owner (records ++ r ∷ [])
  noted_of owner records of = record {
    deposits = notes.deposits
        ∙ ap (λ rows. with_deposit rows r) of.deposits
        ∙ sym (deposits-push records r);
    acceptor = notes.acceptor records of.acceptor;
    learner = ((of.learner).0, notes.learner records (of.learner).0 (of.learner).1);
    proposer_members = (notes.whose).0 ∙ of.proposer_members;
    proposer_site = (notes.whose).1 ∙ of.proposer_site;
    learner_members = notes.members ∙ of.learner_members;
  }

  -- and represent them
  pub noted_stands : (records : List Record) (volatile : VolatileState) (under : UnderWay)
      → Represents old records volatile under
      → Represents new (records ++ r ∷ [])
      (current_if volatile r.slot (current_by (under.begun r.slot) r.body))
      (under_way_if under r.slot (current_by (under.begun r.slot) r.body))
  noted_stands records volatile under stands = record {
    proposer = notes.proposer records volatile under stands.proposer;
    learner = subst (learners.Represents new.learner.rows (records ++ r ∷ []))
        (heard_same volatile r.slot (current_by (under.begun r.slot) r.body))
        (notes.learner records volatile.heard stands.learner);
  }

-- where no ballot was begun none becomes current
none_current : (body : Entry) → current_by None body ≡ None
none_current (entry.Deposit bag) = refl
none_current (entry.Round round) = refl
none_current (entry.Promise ballot) = refl
none_current (entry.Vote vote) = refl
none_current (entry.Known bag) = refl

-- so a record leaves a new volatile state new
pub stays_new : (t : Contents) (records : List Record) (r : Record)
    → Represents t records (current_if new_volatile r.slot (current_by None r.body))
    (under_way_if nothing r.slot (current_by None r.body))
    → Represents t records new_volatile nothing
stays_new t records r stands =
    subst (λ (b : Option BallotNumber). Represents t records (current_if new_volatile r.slot b)
    (under_way_if nothing r.slot b)) (none_current r.body) stands
