-- The effect of a call of a site: the record that it commits first, if any; the messages that it
-- then sends, in order; what it says, or why it refuses; and the volatile state from then on.
use Rattle.std.specs.Prelude.{ℕ, List, [], map, Option, Some, None, Result, Ok, Err}
use Rattle.fed_types.specs.Slots.{SlotName}
use Rattle.records.specs.declared.entry.Entry.{Entry}
use Rattle.records.specs.declared.record.Record.{Record}
use Rattle.dgram.specs.declared.body.Body.{Body}
use Rattle.dgram.specs.declared.message.Message.{Message}
use Rattle.proposer.specs.VolatileStates.{VolatileState}
use Rattle.site.specs.declared.answer.Line.{Line}
use Rattle.site.specs.declared.fault.SiteFault.{SiteFault}

-- a message and the site to which it goes; its sender is the site that it names
pub record Send : Type 0 where
  pub to : ℕ
  pub message : Message

pub record Effect : Type 0 where
  pub commits : Option Record
  pub sends : List Send
  pub says : Result (Option Line) SiteFault
  pub volatile : VolatileState

-- a record of the slot, if there is an entry
abbrev pub record_of : SlotName → Option Entry → Option Record
record_of slot None = None
record_of slot (Some entry) = Some (record { slot = slot; body = entry })

-- a message about the slot to each of these sites
unfoldable pub to_each : SlotName → Body → List ℕ → List Send
to_each slot body sites =
    map (λ site. record { to = site; message = record { slot = slot; body = body } }) sites

-- it commits an entry of the slot, if there is one, and sends a message to each of these sites
abbrev pub commits_and_sends : SlotName → Option Entry → Body → List ℕ → VolatileState → Effect
commits_and_sends slot entry body sites volatile = record {
  commits = record_of slot entry;
  sends = to_each slot body sites;
  says = Ok None;
  volatile = volatile;
}

-- it commits an entry of the slot, if there is one, and says this
abbrev pub commits_and_says : SlotName → Option Entry → Line → VolatileState → Effect
commits_and_says slot entry line volatile = record {
  commits = record_of slot entry;
  sends = [];
  says = Ok (Some line);
  volatile = volatile;
}

-- it says this, and has no other effect
abbrev pub only_says : Line → VolatileState → Effect
only_says line volatile =
    record { commits = None; sends = []; says = Ok (Some line); volatile = volatile }

-- it refuses, and has no other effect
abbrev pub refuses : SiteFault → VolatileState → Effect
refuses fault volatile =
    record { commits = None; sends = []; says = Err fault; volatile = volatile }

-- its only effect is the volatile state
abbrev pub quiet : VolatileState → Effect
quiet volatile = record { commits = None; sends = []; says = Ok None; volatile = volatile }
