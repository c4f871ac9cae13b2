-- A site that takes a message that nobody has sent.
use Rattle.std.proofs.Common.{◌≡◌, ◌≤◌, refl, sym, true, [], ◌∷◌, None, Some, arith}
use Rattle.std.specs.Prelude.{Ok}
use Rattle.fed_types.specs.declared.bag_id.BagId.{BagId}
use Rattle.fed_types.specs.Lists.{Has, here, there}
use Rattle.fed_types.specs.Sites.{Membership, members_of, count_of}
use Rattle.fed_types.specs.Slots.{SlotName}
use Rattle.fed_types.specs.Values.{IsMembership, IsSlot, IsBag}
use Rattle.fed_types.specs.Laws.Sites.{sites_to_has}
use Rattle.fed_types.specs.Laws.Lists.{is_in_decides, has_none}
use Rattle.fed_types.specs.Quorums.{quorums_of}
use Rattle.records.specs.declared.entry.Entry.TheVariants as entry
use Rattle.records.specs.declared.record.Record.{Record}
use Rattle.records.specs.SlotStates.{known_of}
use Rattle.records.proofs.SlotStates.{known-push}
use Rattle.dgram.specs.declared.body.Body.TheVariants.{Known}
use Rattle.dgram.specs.declared.message.Message.{Message}
use Rattle.dgram.specs.Heard.{bodies_of, floor_of}
use Rattle.dgram.specs.Messages.{IsMessage}
use Rattle.learner.specs.declared.row.Row.TheVariants as rows
use Rattle.proposer.specs.Rows.{empty_row}
use Rattle.proposer.specs.VolatileStates.{VolatileState, new_volatile, hears as heard_in}
use Rattle.proposer.specs.UnderWay.{nothing}
use Rattle.site.specs.declared.answer.Answer.{Answer}
use Rattle.site.specs.declared.answer.Line.TheVariants as site_lines
use Rattle.site.specs.Arrivals.{on_arrival, on_body, is_member}
use Rattle.site.specs.Calls as calls
use Rattle.site.specs.Effects.{Effect}
use Rattle.site.specs.Sites.{effect}
use Rattle.site.specs.Contents.{Contents, Represents}
use Rattle.udp_site.specs.Turns.{Serving, turn_of}
use Rattle.serving_law.specs.Disks.{Disk, device}
use Rattle.serving_law.specs.Examples.{IsFooled, FooledByAForgedKnown}
use Rattle.serving_law.specs.Federations.{Step, Happening, new_federation, after_all}
use Rattle.serving_law.specs.Rules.{MayAll}
use Rattle.serving_law.specs.Reports.{step_of}
use Rattle.serving_law.proofs.DiskCalls.{serving, called, hears, heard_step, no_folders}
use Rattle.serving_law.proofs.Answers.{answer_of}
use Rattle.serving_law.proofs.Tables.{itself, records_of, tables, stands, used_by_none}
use Rattle.serving_law.proofs.NewSites.{starts_new, may_start}

module _ (members : Membership) (is_membership : IsMembership members) (two : 2 ≤ count_of members)
    (slot : SlotName) (is_slot : IsSlot slot) (bag : BagId) (is_bag : IsBag bag) where
  abbrev r : Record
  r = record { slot = slot; body = entry.Known bag }

  abbrev m : Message
  m = record { slot = slot; body = Known 2 bag }

  abbrev heard : VolatileState
  heard = heard_in new_volatile m

  -- ---- tables

  no_floor : floor_of (bodies_of slot (m ∷ [])) ≡ 0
  unfolding floor_of bodies_of
  no_floor = rw (itself slot) refl

  known_is : known_of slot (r ∷ []) ≡ Some bag
  unfolding known_of
  known_is = rw (known-push slot [] r, itself slot) refl

  abbrev before_tables : Contents
  before_tables = tables slot members 1 (record { own = empty_row; heard = rows.Unheard })

  abbrev after_tables : Contents
  after_tables = tables slot members 1 (record { own = empty_row; heard = rows.Known bag })

  it_stands : Represents after_tables (records_of slot (entry.Known bag ∷ [])) heard nothing
  it_stands =
      stands slot members 1 (entry.Known bag ∷ []) (Known 2 bag ∷ []) heard refl (λ s f. refl)
      (record { own = empty_row; heard = rows.Known bag })
      (record {
        used = sym (used_by_none slot (entry.Known bag) refl);
        floor = sym no_floor;
        begun = refl;
        current = tt;
        waiting = refl;
      })
      (sym known_is) (λ none vote n. absurd (cc (known_is, none)))

  -- ---- the call

  abbrev old : Serving Disk
  old = serving members is_membership 1 [] before_tables new_volatile 0 0

  abbrev new : Serving Disk
  new = serving members is_membership 1 (r ∷ []) after_tables heard 0 0

  abbrev learning : Effect
  learning = record {
    commits = Some r;
    sends = [];
    says = Ok (Some (site_lines.Known slot bag));
    volatile = heard;
  }

  member : is_member (quorums_of members) (Some 2) ≡ true
  member =
      (is_in_decides (members_of members) 2).1 (sites_to_has (count_of members) 2 (omega arith) two)

  effect_is : effect old.site new_volatile (calls.Arrives (Some m)) ≡ learning
  unfolding on_arrival on_body known_of
  effect_is = rw member refl

  abbrev answer : Answer
  answer = answer_of (Some (site_lines.Known slot bag)) [] (omega arith)

  abbrev step : Step Disk
  step = heard_step members is_membership 1 [] m answer new

  is_message : IsMessage m
  is_message = (is_slot, ((omega arith, omega arith), is_bag))

  comes : turn_of device [] (Some no_folders) old step.turn.took step.turn.done new
  comes =
      hears members is_membership 1 [] [] before_tables new_volatile 0 0 new m is_message refl
      answer (called members is_membership 1 [] tt before_tables after_tables new_volatile 0 0
      (calls.Arrives (Some m)) learning (Some (site_lines.Known slot bag)) effect_is refl
      (is_slot, is_bag) tt (omega arith) nothing it_stands)

  one : Has 1 (members_of members)
  one = sites_to_has (count_of members) 1 (omega arith) is_membership.1.0.0

  abbrev starts : Happening Disk
  starts = starts_new members is_membership 1 before_tables

  no_turn : (h : Happening Disk) → Has h (starts ∷ []) → step_of h ≡ None
  no_turn h (here e) = rw (← e) refl
  no_turn h (there other) = absurd (has_none other)

  pub fooled : IsFooled members slot bag
  unfolding MayAll new_federation after_all
  fooled = record {
    before = starts ∷ [];
    happens = (may_start members is_membership 1 before_tables new_federation one refl, tt);
    no_turn = no_turn;
    nothing = refl;
    old = old;
    serves = refl;
    step = step;
    forged = refl;
    comes = comes;
    goes_on = refl;
    says = refl;
  }

pub fooled_by_a_forged_known : FooledByAForgedKnown
fooled_by_a_forged_known members slot bag is two is_slot is_bag =
    fooled members is two slot is_slot bag is_bag
