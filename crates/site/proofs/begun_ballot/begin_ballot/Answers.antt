use Rattle.std.proofs.Common.{map, refl, ap, ◌∙◌}
use Rattle.fed_types.specs.Sites.{members_of}
use Rattle.fed_types.specs.Slots.{SlotName}
use Rattle.records.specs.declared.entry.Entry.TheVariants as entry
use Rattle.dgram.specs.declared.body.Body.TheVariants.{Prepare}
use Rattle.site.specs.Datagrams.{datagram}
use Rattle.site.specs.Effects.{to_each}
use Rattle.site.specs.Faults.{propose_fault}
use Rattle.site.specs.declared.fault.SiteFault.TheVariants as faults
use Rattle.site.proofs.Seen.{error_of}
use Rattle.site.proofs.BegunBallots.{not_begun, begun_in_vain, ballot_begun}
use Rattle.site.proofs.begun_ballot.begin_ballot.Goals as goal

pub returns-in_err-ballot : goal.returns-in_err-ballot
returns-in_err-ballot c =
    not_begun _ _ _ _ _ c.in_err-ballot.field-0.0
    (error_of c.from_residual.result (propose_fault c.in_err-ballot.field-0.0)
    c.from_residual.ensures.1) c.in_err-ballot.ensures.same
    (c.in_err-ballot.ensures.answer c.args.owner.now)
    (c.in_err-ballot.ensures.spent c.args.owner.now)

pub returns-in_err-slot : goal.returns-in_err-slot
returns-in_err-slot c =
    begun_in_vain _ _ _ _ _ c.in_ok-ballot.ballot
    (c.in_ok-ballot.ensures.of c.args.owner.now) c.in_ok-ballot.ensures.begun
    (error_of c.from_residual-in_err-slot.result faults.Memory
    c.from_residual-in_err-slot.ensures.1)
    (c.in_ok-ballot.ensures.answer c.args.owner.now)

pub returns-in_err-sends : goal.returns-in_err-sends
returns-in_err-sends c =
    begun_in_vain _ _ _ _ _ c.in_ok-ballot.ballot
    (c.in_ok-ballot.ensures.of c.args.owner.now) c.in_ok-ballot.ensures.begun
    (error_of c.from_residual-in_err-sends.result faults.Memory
    c.from_residual-in_err-sends.ensures.1)
    (c.in_ok-ballot.ensures.answer c.args.owner.now)

pub returns : goal.returns
returns c =
    ballot_begun _ _ _ _ _ c.in_ok-ballot.ballot
    (c.in_ok-ballot.ensures.of c.args.owner.now) c.in_ok-ballot.ensures.begun _ _ refl
    (record {
      record_is = (λ i. record
          { slot = c.in_ok-slot.ensures i; body = entry.Round (c.of.ensures i) });
      line = refl;
      sends = c.in_ok-sends.ensures ∙ ap (λ (s : SlotName).
          map (datagram c.args.owner.now.members.federation)
          (to_each s (Prepare c.in_ok-ballot.ballot) (members_of c.args.owner.now.members)))
          c.in_ok-slot.ensures;
    })
    (c.in_ok-ballot.ensures.answer c.args.owner.now)
