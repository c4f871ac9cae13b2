-- The promises of every schedule: reports agree and were deposited, and so was each bag that was
-- proposed, voted for or known.
use Rattle.std.proofs.Common.{ℕ, zero, suc, ◌≡◌, ◌≤◌, ◌<◌, refl, sym, ap, ◌∙◌, ◌+◌, arith}
use Rattle.std.proofs.Common.{inl, inr, List, [], ◌∷◌, ◌++◌, length-append}
use Rattle.std.proofs.Common.{length, drop, Option, None, Some, append-nil, append_assoc}
use Rattle.std.proofs.Math.Seq.{drop-append_seam}
use Rattle.std.proofs.lemmas.Bool.{cases_lt}
use Rattle.fed_types.specs.declared.bag_id.BagId.{BagId}
use Rattle.fed_types.specs.Slots.{SlotName}
use Rattle.fed_types.specs.Lists.{Has, here, there}
use Rattle.fed_types.specs.Laws.Lists.{has_drop}
use Rattle.fed_types.specs.Laws.Quorums.{are_quorums}
use Rattle.records.specs.declared.entry.Entry.TheVariants as entry
use Rattle.schedule.specs.declared.command.Command.{Command}
use Rattle.schedule.specs.Plans.{Plan}
use Rattle.lines.specs.declared.line.Line.{Line}
use Rattle.world_law.specs.Headline.{reported, LinesAgree, world_after, printed, DepositedBefore}
use Rattle.world_law.specs.Headline.{LinesStay, ReportsWereDeposited, BagsWereDeposited}
use Rattle.world_law.specs.Laws.{OnRecord}
use Rattle.world_law.specs.Networks.{Event, Happening, happens}
use Rattle.world_law.specs.Worlds.{World, new_world, own_lines, sent_lines, after_event, quorums}
use Rattle.world_law.specs.Worlds.{first_number, next_unnamed, on_turn, pumped, after_line}
use Rattle.world_law.specs.Worlds.{run_from, run_of}
use Rattle.world_law.proofs.Commands.{turn_is, command_is}
use Rattle.world_law.proofs.Induction.{chosen_once, proposed_came, chosen_came}
use Rattle.world_law.proofs.Schedules.{Holds, new_holds, holds_from, line_then, deposited}

-- ---- printed lines stay

-- more lines at the end
record Adds (w x : World) : Type 0 where
  added : List Line
  is : x.lines ≡ w.lines ++ added

adds_none : (w x : World) → x.lines ≡ w.lines → Adds w x
adds_none w x e = record { added = []; is = e ∙ sym (append-nil w.lines) }

adds_then : {w x y : World} → Adds w x → Adds x y → Adds w y
adds_then a b = record {
  added = a.added ++ b.added;
  is = rw (b.is, a.is, append_assoc);
}

event_adds : (w x : World) (e : Event) → x.lines ≡ w.lines → Adds w (after_event x e)
unfolding after_event
event_adds w x e same = record { added = new; is = ap (λ (ls : List Line). ls ++ new) same }
  where
    h : Happening
    h = happens (quorums x) x.network e

    new : List Line
    new =
        own_lines x.seen h.notice
        ++ sent_lines x.members.federation (length x.network.sent + 1) h.sends

turn_adds : (w : World) (number : ℕ) (o : Option ℕ) → Adds w (on_turn w number o)
turn_adds w number o =
    turn_is w number (Adds w) (λ named trees. adds_none w _ refl)
    (λ named reason. record { added = _; is = refl })
    (λ named k fate. event_adds w _ _ refl) o

pumped_adds : (number turns : ℕ) (w : World) → Adds w (pumped w number turns)
unfolding pumped
pumped_adds number zero w = adds_none w w refl
pumped_adds number (suc turns) w =
    adds_then (turn_adds w number (next_unnamed w))
    (pumped_adds number turns (on_turn w number (next_unnamed w)))

line_adds : (w : World) (number : ℕ) (line : Option Command) → Adds w (after_line w number line)
line_adds w number None = adds_none w w refl
line_adds w number (Some c) =
    command_is w number (Adds w) (λ named trees. adds_none w _ refl)
    (λ named reason. record { added = _; is = refl }) c
    (λ named seen e comes. event_adds w _ e refl) (λ turns. pumped_adds number turns w)

pub lines_stay : LinesStay
lines_stay w number line =
    let a = line_adds w number line in rw (a.is, drop-append_seam w.lines a.added)

-- ---- which line prints

-- what stands in a place before an end, and after a beginning, is between them
has_at : (n : ℕ) (xs more earlier later : List Line) (l : Line) → n ≤ length earlier
    → length earlier < length xs → xs ++ more ≡ earlier ++ l ∷ later → Has l (drop n xs)
has_at n [] more earlier later l from to e = absurd (omega (arith, to))
has_at zero (x ∷ xs) more [] later l from to e = here cc
has_at (suc n) (x ∷ xs) more [] later l from to e = absurd (omega (arith, from))
has_at zero (x ∷ xs) more (y ∷ earlier) later l from to e =
    there (has_at zero xs more earlier later l (omega arith) (omega (arith, to)) cc)
has_at (suc n) (x ∷ xs) more (y ∷ earlier) later l from to e =
    has_at n xs more earlier later l (omega (arith, from)) (omega (arith, to)) cc

-- the lines print more at the end
lines_add : (lines : List (Option Command)) (number : ℕ) (w : World)
    → Adds w (run_from number w lines)
unfolding run_from
lines_add [] number w = adds_none w w refl
lines_add (line ∷ others) number w =
    adds_then (line_adds w number line)
    (lines_add others (number + 1) (after_line w number line))

-- the line that prints what stands in a place
record PrintedFrom
    (number : ℕ) (w : World) (lines : List (Option Command)) (place : ℕ) (l : Line)
    : Type 0 where
  before : List (Option Command)
  line : Option Command
  later : List (Option Command)
  split : lines ≡ before ++ line ∷ later
  at : ℕ
  at_is : at ≡ number + length before
  not_yet : length (run_from number w before).lines ≤ place
  by_it : place < length (after_line (run_from number w before) at line).lines
  printed : Has l (printed (run_from number w before) at line)

printed_from : (lines : List (Option Command)) (number : ℕ) (w : World)
    (earlier later : List Line) (l : Line)
    → (run_from number w lines).lines ≡ earlier ++ l ∷ later → length w.lines ≤ length earlier
    → PrintedFrom number w lines (length earlier) l
unfolding run_from
printed_from [] number w earlier later l e past =
    absurd (omega (arith, past, ap length e, length-append earlier (l ∷ later)))
printed_from (line ∷ others) number w earlier later l e past =
    elim (cases_lt (length earlier) (length next.lines)) [
      | inl within ↦ record {
        before = [];
        line = line;
        later = others;
        split = refl;
        at = number;
        at_is = omega arith;
        not_yet = past;
        by_it = within;
        printed = has_at (length w.lines) next.lines more.added earlier later l past within
            (sym more.is ∙ e);
      }
      | inr beyond ↦
          let p = printed_from others (number + 1) next earlier later l e (omega (arith, beyond)) in
          record {
            before = line ∷ p.before;
            line = p.line;
            later = p.later;
            split = cc (p.split);
            at = p.at;
            at_is = omega (arith, p.at_is);
            not_yet = p.not_yet;
            by_it = p.by_it;
            printed = p.printed;
          }
    ]
  where
    next : World
    next = after_line w number line

    more : Adds next (run_from (number + 1) next others)
    more = lines_add others (number + 1) next

-- ---- agreement and validity

module _ (plan : Plan) where
  holds : (before : List (Option Command)) → Holds (world_after plan before)
  holds before =
      holds_from before (first_number plan) (new_world plan.members) (new_holds plan.members)

  made : (before : List (Option Command)) (k : ℕ) (slot : SlotName) (bag : BagId)
      → OnRecord (world_after plan before).network k slot (entry.Deposit bag)
      → DepositedBefore plan before slot bag
  made before k slot bag i =
      let d = deposited plan.members (first_number plan) before k slot bag i in
      record {
        earlier = d.earlier;
        line = d.line;
        later = d.later;
        split = d.split;
        deposits = rw d.at_is at d.deposits;
      }

  pub lines_agree : LinesAgree (run_of plan).lines
  unfolding run_of
  lines_agree k l slot u v h i e f =
      let all = holds plan.lines in
      let w = world_after plan plan.lines in
      chosen_once (quorums w) w.network (are_quorums w.members) all.kept slot u v
      (all.reports k _ h e) (all.reports l _ i f)

  -- what a line of the schedule prints
  printed_deposited : (before : List (Option Command)) (line : Option Command) (number : ℕ)
      (l : Line) (slot : SlotName) (bag : BagId)
      → Has l (printed (world_after plan before) number line)
      → reported l ≡ Some (record { slot = slot; bag = bag }) → DepositedBefore plan before slot bag
  printed_deposited before line number l slot bag h e =
      let w = world_after plan before in
      let early = (line_then w (holds before) number line).early l _
      (has_drop (length w.lines) (after_line w number line).lines h) e in
      chosen_came early.q early.laws early.network early.kept (DepositedBefore plan before)
      (λ k s b d. made before k s b (early.deposits k s b d)) slot bag early.chosen

  pub reports_were_deposited : ReportsWereDeposited plan (run_of plan).lines
  unfolding run_of new_world
  reports_were_deposited earlier later l slot bag is e =
      let p = printed_from plan.lines (first_number plan)
      (new_world plan.members) earlier later l is
      (omega arith) in (
        p.before,
        p.line,
        record {
          later = p.later;
          split = p.split;
          not_yet = p.not_yet;
          by_it = rw p.at_is at p.by_it;
        },
        printed_deposited p.before p.line p.at l slot bag p.printed e,
      )

  pub bags_were_deposited : BagsWereDeposited plan
  unfolding run_of
  bags_were_deposited =
      let w = world_after plan plan.lines in
      let inv = (holds plan.lines).kept in
      let laws = are_quorums w.members in
      let asked = proposed_came (quorums w) laws w.network inv
      (DepositedBefore plan plan.lines) (made plan.lines) in
      let known = chosen_came (quorums w) laws w.network inv
      (DepositedBefore plan plan.lines) (made plan.lines) in
      record {
        asked = asked;
        voted = λ n slot vote k. asked slot vote (inv.records n slot _ k);
        known = λ n slot bag k. known slot bag (inv.records n slot _ k);
        said = λ n slot bag s. known slot bag (inv.sent _ s.is_sent);
      }
