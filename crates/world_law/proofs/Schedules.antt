-- What every world of a schedule keeps: its network does what the laws say, what its lines report
-- was chosen, and each deposit on record was made by a line so far.
use Rattle.std.proofs.Common.{ℕ, zero, suc, ◌≡◌, ◌⊎◌, inl, inr, refl, ◌+◌}
use Rattle.std.proofs.Common.{List, [], ◌∷◌, ◌++◌, length, Option, None, Some, arith}
use Rattle.std.specs.Prelude.{Ok}
use Rattle.fed_types.specs.declared.bag_id.BagId.{BagId}
use Rattle.fed_types.specs.Lists.{Has, here, there}
use Rattle.fed_types.specs.Quorums.{QuorumSystem, AreQuorums}
use Rattle.fed_types.specs.Sites.{Membership}
use Rattle.fed_types.specs.Slots.{SlotName}
use Rattle.fed_types.specs.Laws.Lists.{has_cases, has_one, has_none}
use Rattle.fed_types.specs.Laws.Quorums.{are_quorums}
use Rattle.records.specs.declared.entry.Entry.TheVariants as entry
use Rattle.site.specs.declared.answer.Reply.TheVariants as replies
use Rattle.site.specs.Effects.{Send}
use Rattle.schedule.specs.declared.command.Command.{Command}
use Rattle.lines.specs.declared.line.Line.{Line}
use Rattle.lines.specs.declared.line.Line.TheVariants as lines
use Rattle.lines.specs.declared.line.Reason.{Reason}
use Rattle.world_law.specs.Headline.{reported, IsValidDeposit, DepositedBy}
use Rattle.world_law.specs.Laws.{OnRecord, IsChosen, Report, notice_report, site_of}
use Rattle.world_law.specs.Networks.{Network, new_network, new_site, Event, Deposit, Deliver}
use Rattle.world_law.specs.Networks.{Happening, happens}
use Rattle.lines.specs.declared.notice.Notice.{Notice}
use Rattle.lines.specs.declared.notice.Notice.TheVariants.{Replied}
use Rattle.lines.specs.Named.{SeenBag, line_of}
use Rattle.world_law.specs.Trees.{NumberedTree}
use Rattle.world_law.specs.Worlds.{World, new_world, own_lines, sent_lines, after_event, quorums}
use Rattle.world_law.specs.Worlds.{next_unnamed, on_turn, pumped, after_line, run_from}
use Rattle.world_law.proofs.Commands.{Comes, turn_is, command_is}
use Rattle.world_law.proofs.Deeds.{some_same}
use Rattle.world_law.proofs.Grows.{chosen_grows}
use Rattle.world_law.proofs.Kept.{Kept}
use Rattle.world_law.proofs.Runs.{DepositOf, happens_kept, new_kept}
use Rattle.world_law.proofs.Step.{Next}

-- ---- what lines report

-- a notice's line reports what the notice does
notice_reports : (seen : List SeenBag) (n : Notice) → reported (line_of seen n) ≡ notice_report n
notice_reports seen (Replied site slot (replies.Known bag)) = refl
notice_reports seen n = refl

-- datagrams report nothing
sent_reports : (federation number : ℕ) (sends : List Send) (l : Line) (r : Report)
    → Has l (sent_lines federation number sends) → reported l ≡ Some r → ⊥
unfolding sent_lines
sent_reports federation number [] l r h e = absurd (has_none h)
sent_reports federation number (d ∷ sends) l r (here f) e = absurd (cc (rw (← f) at e))
sent_reports federation number (d ∷ sends) l r (there h) e =
    sent_reports federation (number + 1) sends l r h e

-- the notice that a line comes of
record ByNotice (o : Option Notice) (r : Report) : Type 0 where
  notice : Notice
  is : o ≡ Some notice
  reports : notice_report notice ≡ Some r

by_notice : (seen : List SeenBag) (o : Option Notice) (l : Line) (r : Report)
    → Has l (own_lines seen o) → reported l ≡ Some r → ByNotice o r
by_notice seen None l r h e = absurd (has_none h)
by_notice seen (Some n) l r h e = record {
  notice = n;
  is = refl;
  reports = rw (← notice_reports seen n, has_one h) e;
}

-- ---- deposits

-- an event that may deposit the bag, at site k, is a deposit there
record IsMade (e : Event) (k : ℕ) (slot : SlotName) (bag : BagId) : Type 0 where
  fate : _
  is : e ≡ Deposit k slot (Ok bag) fate

made_by : (w : Network) (e : Event) (k : ℕ) (slot : SlotName) (bag : BagId)
    → site_of w e ≡ Some k → DepositOf e slot bag → IsMade e k slot bag
made_by w (Deposit site s checked fate) k slot bag at may =
    let place : site ≡ k = some_same at in
    record { fate = fate; is = λ i. Deposit (place i) (may.0 i) (may.1 i) fate }
made_by w e k slot bag at may = absurd may

-- ---- what holds of a world

-- its network is kept, and what its lines report was chosen
pub record Holds (w : World) : Type 0 where
  pub kept : Kept (quorums w) w.network
  pub reports : (l : Line) (r : Report) → Has l w.lines → reported l ≡ Some r
      → IsChosen (quorums w) w.network r.slot r.bag

-- a report was chosen in a network whose deposits are all in this one
pub record IsEarly (w : Network) (r : Report) : Type 0 where
  pub q : QuorumSystem
  pub laws : AreQuorums q
  pub network : Network
  pub kept : Kept q network
  pub chosen : IsChosen q network r.slot r.bag
  pub deposits : (k : ℕ) (slot : SlotName) (bag : BagId)
      → OnRecord network k slot (entry.Deposit bag) → OnRecord w k slot (entry.Deposit bag)

-- the next world; what it reports is early, and a deposit on record is old, or the line hands it
pub record Then (w : World) (line : Option Command) (x : World) : Type 0 where
  pub holds : Holds x
  pub early : (l : Line) (r : Report) → Has l x.lines → reported l ≡ Some r
      → IsEarly w.network r
  pub new : (k : ℕ) (slot : SlotName) (bag : BagId)
      → OnRecord x.network k slot (entry.Deposit bag)
      → OnRecord w.network k slot (entry.Deposit bag) ⊎ IsValidDeposit w line k slot bag

module _ (w : World) (h : Holds w) where
  -- a report that was chosen before
  was_chosen : (r : Report) → IsChosen (quorums w) w.network r.slot r.bag → IsEarly w.network r
  was_chosen r c = record {
    q = quorums w;
    laws = are_quorums w.members;
    network = w.network;
    kept = h.kept;
    chosen = c;
    deposits = λ k slot bag i. i;
  }

  -- ---- an event
  module _ (named : List ℕ) (seen : List SeenBag) (e : Event) where
    abbrev before : World
    before = record w { named = named; seen = seen }

    abbrev next : Happening
    next = happens (quorums w) w.network e

    fact : Next (quorums w) w.network (site_of w.network e) (DepositOf e) next
    fact = happens_kept (quorums w) (are_quorums w.members) w.network h.kept e

    chosen_before : (l : Line) (r : Report) → Has l (after_event before e).lines
        → reported l ≡ Some r → IsChosen (quorums w) w.network r.slot r.bag
    unfolding after_event
    chosen_before l r i f = elim (has_cases w.lines _ i) [
      | inl old ↦ h.reports l r old f
      | inr new ↦ elim (has_cases (own_lines seen next.notice) _ new) [
        | inl said ↦ at_notice (by_notice seen next.notice l r said f)
        | inr sent ↦ absurd (sent_reports _ _ next.sends l r sent f)
      ]
    ]
      where
        at_notice : ByNotice next.notice r → IsChosen (quorums w) w.network r.slot r.bag
        at_notice b = fact.reports.chosen b.notice r b.is b.reports

    event_holds : Holds (after_event before e)
    unfolding after_event
    event_holds = record {
      kept = fact.kept;
      reports = λ l r i f. chosen_grows fact.grows (chosen_before l r i f);
    }

    pub went : (line : Option Command) → Comes w line e → Then w line (after_event before e)
    unfolding after_event
    went line comes = record {
      holds = event_holds;
      early = λ l r i f. was_chosen r (chosen_before l r i f);
      new = λ k slot bag i. elim (fact.deposits k slot bag i) [
        | inl old ↦ inl old
        | inr may ↦
            let made = made_by w.network e k slot bag may.0 may.1 in
            inr (comes k slot bag made.fate made.is)
      ];
    }

  -- ---- trees, and skips

  pub changed : (line : Option Command) (named : List ℕ) (trees : List NumberedTree)
      → Then w line (record w { named = named; trees = trees })
  changed line named trees = record {
    holds = record { kept = h.kept; reports = h.reports };
    early = λ l r i f. was_chosen r (h.reports l r i f);
    new = λ k slot bag i. inl i;
  }

  pub skipped : (line : Option Command) (number : ℕ) (named : List ℕ) (reason : Reason)
      → Then w line
      (record w { named = named; lines = w.lines ++ lines.Skip number reason ∷ [] })
  skipped line number named reason = record {
    holds = record { kept = h.kept; reports = reports };
    early = λ l r i f. was_chosen r (reports l r i f);
    new = λ k slot bag i. inl i;
  }
    where
      reports : (l : Line) (r : Report) → Has l (w.lines ++ lines.Skip number reason ∷ [])
          → reported l ≡ Some r → IsChosen (quorums w) w.network r.slot r.bag
      reports l r i f = elim (has_cases w.lines _ i) [
        | inl old ↦ h.reports l r old f
        | inr new ↦ absurd (cc (rw (← has_one new) at f))
      ]

-- ---- a pump

-- the next world of a turn: no line hands anything
abbrev IsIdle : World → World → Type 0
IsIdle w x = Then w None x

-- nothing is handed by no line
hands_nothing : {w : World} {k : ℕ} {slot : SlotName} {bag : BagId}
    → ¬ IsValidDeposit w None k slot bag
hands_nothing hands = let e = hands.is in cc

-- its deposits are old
old_deposit : {w x : World} → IsIdle w x → (k : ℕ) (slot : SlotName) (bag : BagId)
    → OnRecord x.network k slot (entry.Deposit bag) → OnRecord w.network k slot (entry.Deposit bag)
old_deposit i k slot bag r = elim (i.new k slot bag r) [
  | inl old ↦ old
  | inr hands ↦ absurd (hands_nothing hands)
]

idle_then : {w x y : World} → IsIdle w x → IsIdle x y → IsIdle w y
idle_then i j = record {
  holds = j.holds;
  early = λ l r k f.
      let e = j.early l r k f in
      record {
        q = e.q;
        laws = e.laws;
        network = e.network;
        kept = e.kept;
        chosen = e.chosen;
        deposits = λ n slot bag d. old_deposit i n slot bag (e.deposits n slot bag d);
      };
  new = λ k slot bag r. inl (old_deposit i k slot bag (old_deposit j k slot bag r));
}

turn_then : (w : World) → Holds w → (number : ℕ) (o : Option ℕ) → IsIdle w (on_turn w number o)
turn_then w h number o =
    turn_is w number (IsIdle w) (changed w h None) (skipped w h None number)
    (λ named k fate. went w h named w.seen (Deliver k fate) None (λ j slot bag f g. absurd (cc g)))
    o

pumped_then : (number turns : ℕ) (w : World) → Holds w → IsIdle w (pumped w number turns)
unfolding pumped
pumped_then number zero w h = changed w h None w.named w.trees
pumped_then number (suc turns) w h =
    let first = turn_then w h number (next_unnamed w) in
    idle_then first (pumped_then number turns (on_turn w number (next_unnamed w)) first.holds)

-- a line that hands nothing
as_line : {w x : World} (line : Option Command) → IsIdle w x → Then w line x
as_line line i = record {
  holds = i.holds;
  early = i.early;
  new = λ k slot bag r. inl (old_deposit i k slot bag r);
}

-- ---- a line

pub line_then : (w : World) → Holds w → (number : ℕ) (line : Option Command)
    → Then w line (after_line w number line)
line_then w h number None = changed w h None w.named w.trees
line_then w h number (Some c) =
    command_is w number (Then w (Some c)) (changed w h (Some c)) (skipped w h (Some c) number) c
    (λ named seen e comes. went w h named seen e (Some c) comes)
    (λ turns. as_line (Some c) (pumped_then number turns w h))

-- ---- lines

pub new_holds : (members : Membership) → Holds (new_world members)
unfolding new_world
new_holds members = record {
  kept = new_kept (quorums (new_world members));
  reports = λ l r h e. absurd (has_none h);
}

pub holds_from : (lines : List (Option Command)) (number : ℕ) (w : World) → Holds w
    → Holds (run_from number w lines)
unfolding run_from
holds_from [] number w h = h
holds_from (line ∷ others) number w h =
    holds_from others (number + 1) (after_line w number line) (line_then w h number line).holds

-- one of these lines, the first of which has this number, deposits the bag for the slot
pub record DepositedAmong
    (number : ℕ) (w : World) (lines : List (Option Command)) (slot : SlotName) (bag : BagId)
    : Type 0 where
  pub earlier : List (Option Command)
  pub line : Option Command
  pub later : List (Option Command)
  pub split : lines ≡ earlier ++ line ∷ later
  pub at : ℕ
  pub at_is : at ≡ number + length earlier
  pub deposits : DepositedBy (run_from number w earlier) at line slot bag

deposits_from : (lines : List (Option Command)) (number : ℕ) (w : World) → Holds w
    → (k : ℕ) (slot : SlotName) (bag : BagId)
    → OnRecord (run_from number w lines).network k slot (entry.Deposit bag)
    → OnRecord w.network k slot (entry.Deposit bag) ⊎ DepositedAmong number w lines slot bag
unfolding run_from
deposits_from [] number w h k slot bag i = inl i
deposits_from (line ∷ others) number w h k slot bag i =
    let step = line_then w h number line in
    elim (deposits_from others (number + 1) (after_line w number line) step.holds k slot bag i) [
      | inl now ↦ elim (step.new k slot bag now) [
        | inl old ↦ inl old
        | inr hands ↦ inr (record {
          earlier = [];
          line = line;
          later = others;
          split = refl;
          at = number;
          at_is = omega arith;
          deposits = record { site = k; hands = hands; on_record = now };
        })
      ]
      | inr d ↦ inr (record {
        earlier = line ∷ d.earlier;
        line = d.line;
        later = d.later;
        split = cc (d.split);
        at = d.at;
        at_is = omega (arith, d.at_is);
        deposits = d.deposits;
      })
    ]

-- each deposit on record was made by a line
pub deposited : (members : Membership) (number : ℕ) (lines : List (Option Command)) (k : ℕ)
    (slot : SlotName) (bag : BagId)
    → OnRecord (run_from number (new_world members) lines).network k slot (entry.Deposit bag)
    → DepositedAmong number (new_world members) lines slot bag
unfolding new_world new_network new_site
deposited members number lines k slot bag i =
    elim (deposits_from lines number (new_world members) (new_holds members) k slot bag i) [
      | inl old ↦ absurd (has_none old)
      | inr by ↦ by
    ]
