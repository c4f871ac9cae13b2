-- What a site reports, over any list of its acts. Each act may have any volatile state, so nothing
-- is assumed about the network: whatever the site has heard, including forged messages, and however
-- often it was opened in between.
use Rattle.std.specs.Prelude.{◌≡◌, ℕ, List, [], ◌∷◌, ◌++◌, Option, Some, None, Result, Ok}
use Rattle.std.specs.Option.{option_to_list}
use Rattle.fed_types.specs.declared.bag_id.BagId.{BagId}
use Rattle.fed_types.specs.Lists.{Has}
use Rattle.fed_types.specs.Quorums.{QuorumSystem}
use Rattle.fed_types.specs.Slots.{SlotName}
use Rattle.records.specs.declared.record.Record.{Record}
use Rattle.proposer.specs.VolatileStates.{VolatileState}
use Rattle.site.specs.declared.answer.Line.{Line}
use Rattle.site.specs.declared.answer.Line.TheVariants as site_lines
use Rattle.site.specs.declared.answer.Reply.{Reply}
use Rattle.site.specs.declared.answer.Reply.TheVariants as replies
use Rattle.site.specs.declared.fault.SiteFault.{SiteFault}
use Rattle.site.specs.Effects.{Effect}
use Rattle.site.specs.Calls.{Input, effect_of, reply_of}

-- the outcome of a call: it is answered; or it isn't, since memory ran out, the device failed or
-- the site stopped, and its record is kept or lost
pub data Ending : Type 0 where
  Answered : Ending
  Kept : Ending
  Lost : Ending

-- a call in a volatile state, or a query
pub data Act : Type 0 where
  Called : VolatileState → Input → Ending → Act
  Queried : SlotName → Act

-- the records after the ending of a call that comes to this
abbrev pub ended : List Record → Effect → Ending → List Record
ended records e Answered = records ++ option_to_list e.commits
ended records e Kept = records ++ option_to_list e.commits
ended records e Lost = records

-- the records after an act
unfoldable pub records_after : QuorumSystem → (site : ℕ) → List Record → Act → List Record
records_after q site records (Called volatile input ending) =
    ended records (effect_of q site records volatile input) ending
records_after q site records (Queried slot) = records

-- a slot, and a bag that is said to be known for it
pub record Report : Type 0 where
  pub slot : SlotName
  pub bag : BagId

-- a line that says that a bag was learned
abbrev pub line_report : Result (Option Line) SiteFault → Option Report
line_report (Ok (Some (site_lines.Known slot bag))) = Some (record { slot = slot; bag = bag })
line_report _ = None

-- a reply that says that a bag is known
abbrev pub reply_report : SlotName → Reply BagId → Option Report
reply_report slot (replies.Known bag) = Some (record { slot = slot; bag = bag })
reply_report slot _ = None

-- a call reports where it is answered
abbrev pub ending_report : Effect → Ending → Option Report
ending_report e Answered = line_report e.says
ending_report e Kept = None
ending_report e Lost = None

-- what an act reports, if anything
unfoldable pub report_of : QuorumSystem → (site : ℕ) → List Record → Act → Option Report
report_of q site records (Called volatile input ending) =
    ending_report (effect_of q site records volatile input) ending
report_of q site records (Queried slot) = reply_report slot (reply_of slot records)

-- what the acts report, in order, the first with these records
unfoldable pub reports_of : QuorumSystem → (site : ℕ) → List Record → List Act → List Report
reports_of q site records [] = []
reports_of q site records (act ∷ acts) =
    option_to_list (report_of q site records act)
    ++ reports_of q site (records_after q site records act) acts

-- one bag is reported for a slot
abbrev pub Agree : List Report → Type 0
Agree reports = (r s : Report) → Has r reports → Has s reports → r.slot ≡ s.slot → r.bag ≡ s.bag
