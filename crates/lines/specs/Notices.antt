-- What is said of what a site did, before a bag is named as a line names it.
use Rattle.std.specs.Prelude.{ℕ, Option, Some, None, Result, Ok, Err}
use Rattle.fed_types.specs.declared.bag_id.BagId.{BagId}
use Rattle.fed_types.specs.Slots.{SlotName}
use Rattle.site.specs.declared.answer.Line.{Line}
use Rattle.site.specs.declared.answer.Line.TheVariants as site_lines
use Rattle.site.specs.declared.answer.Reply.{Reply}
use Rattle.site.specs.declared.answer.Reply.TheVariants as replies
use Rattle.site.specs.declared.fault.SiteFault.{SiteFault}
use Rattle.site.specs.Calls.{Input, Deposits, Proposes, Recovers, Asks, Arrives}
use Rattle.lines.specs.declared.notice.Notice.{Notice}
use Rattle.lines.specs.declared.notice.Notice.TheVariants.{Registered, Learned, Replied}
use Rattle.lines.specs.declared.notice.Notice.TheVariants.{Refused, Dropped, GoesDown, ComesUp}

-- What a site's line says. That of a deposit names no slot, since who calls does; no other input
-- registers a bag.
abbrev pub line_notice : (site : ℕ) → Line → Input → Option Notice
line_notice site (site_lines.Registered bag) (Deposits slot checked) =
    Some (Registered site slot bag)
line_notice site (site_lines.Registered bag) input = None
line_notice site (site_lines.Known slot bag) input = Some (Learned site slot bag)
line_notice site site_lines.Dropped input = Some (Dropped site)

-- what a site says of an input: a line, if any, or a refusal
abbrev pub notice_of : (site : ℕ) → Input → Result (Option Line) SiteFault → Option Notice
notice_of site input (Ok None) = None
notice_of site input (Ok (Some line)) = line_notice site line input
notice_of site input (Err fault) = Some (Refused site fault)

-- the slot of an input that is a deposit
abbrev pub deposited_in : Input → Option SlotName
deposited_in (Deposits slot checked) = Some slot
deposited_in (Proposes slot) = None
deposited_in (Recovers slot) = None
deposited_in (Asks slot member) = None
deposited_in (Arrives message) = None

-- what a site says of a query
abbrev pub reply_notice : (site : ℕ) → SlotName → Result (Reply BagId) SiteFault → Notice
reply_notice site slot (Ok reply) = Replied site slot reply
reply_notice site slot (Err fault) = Refused site fault

-- the bag of a reply, if it has one
abbrev pub bag_replied : Reply BagId → Option BagId
bag_replied (replies.Known bag) = Some bag
bag_replied (replies.Pending bag) = Some bag
bag_replied replies.Nothing = None

-- the bag that a notice names, if it names one
abbrev pub bag_in : Notice → Option BagId
bag_in (Registered site slot bag) = Some bag
bag_in (Learned site slot bag) = Some bag
bag_in (Replied site slot reply) = bag_replied reply
bag_in (Refused site fault) = None
bag_in (Dropped site) = None
bag_in (GoesDown site) = None
bag_in (ComesUp site records) = None
