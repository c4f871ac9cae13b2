-- A member is asked.
use Rattle.std.proofs.Common.{◌≡◌, ℕ, map, None, Ok, refl}
use Rattle.fed_types.specs.Slots.{SlotName}
use Rattle.cell_device.specs.Devices.{Device}
use Rattle.dgram.specs.declared.body.Body.TheVariants.{Ask}
use Rattle.proposer.specs.VolatileStates.{VolatileState}
use Rattle.site.specs.declared.answer.Answer.{Answer}
use Rattle.site.specs.Answered.{IsAnswered}
use Rattle.site.specs.Calls.{Asks, on_ask}
use Rattle.site.specs.Datagrams.{handed_out}
use Rattle.site.specs.Sites.{OpenSite, Represents, effect}
use Rattle.site.specs.inner.Concluded.{one_datagram}

pub asked : {C : Type 0} (device : C → Device) (s : OpenSite C) (volatile : VolatileState)
    (slot same_slot : SlotName) (to from : ℕ) (answer : Answer) → Represents s volatile
    → same_slot ≡ slot → from ≡ s.book.owner.site → answer.line ≡ None
    → map handed_out answer.sends.items ≡ one_datagram s same_slot (Ask from) to
    → IsAnswered device s s volatile (effect s volatile (Asks slot to)) (Ok answer)
unfolding on_ask
asked device s volatile slot same_slot to from answer stands e f line sends = record {
  keeps = refl;
  gives = (cc, rw (e, f) at sends, stands);
}
