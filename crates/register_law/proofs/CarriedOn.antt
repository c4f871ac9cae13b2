-- A run in which a register is decided, event by event, and a history that goes on from its cells.
use Rattle.std.proofs.Common.{ℕ, ◌≡◌, inl, refl, true, List, [], ◌∷◌, ◌++◌, None, Some, arith}
use Rattle.std.specs.Prelude.{Ok}
use Rattle.std.specs.List.{fold}
use Rattle.std.specs.Option.{option_to_list}
use Rattle.fed_types.specs.declared.bag_id.BagId.{BagId}
use Rattle.fed_types.specs.Lists.{Has, here, there, is_in}
use Rattle.fed_types.specs.Quorums.{QuorumSystem, quorums_of}
use Rattle.fed_types.specs.Sites.{members_of, sites_to}
use Rattle.fed_types.specs.Laws.Lists.{has_none}
use Rattle.records.specs.declared.entry.Entry.TheVariants as entry
use Rattle.records.specs.declared.record.Record.{Record}
use Rattle.proposer.specs.VolatileStates.{VolatileState}
use Rattle.site.specs.Calls as calls
use Rattle.site.specs.Calls.{Input, effect_of}
use Rattle.site.specs.Effects.{Effect}
use Rattle.schedule.specs.declared.fate.Fate.TheVariants.{Whole}
use Rattle.lines.specs.declared.notice.Notice.{Notice}
use Rattle.lines.specs.declared.notice.Notice.TheVariants.{Learned, Registered}
use Rattle.world_law.specs.Laws.{notices_of, OnRecord}
use Rattle.world_law.specs.Networks.{Network, Event, Deposit, Propose, Deliver, Up, new_site}
use Rattle.world_law.specs.Networks.{new_network, outcome, happens, run, happening, goes_on, takes}
use Rattle.world_law.specs.Networks.{datagram_at}
use Rattle.world_law.specs.Networks as networks
use Rattle.world_law.specs.WellFormed.{AreWellFormedEvents}
use Rattle.audit.specs.Evidence.{SiteRecord, network_of}
use Rattle.audit.specs.Laws.{ShowChosen}
use Rattle.serving_law.specs.Disks.{Disk, Holds, device}
use Rattle.serving_law.specs.Examples.{Request}
use Rattle.serving_law.specs.ExamplesAgreed.{three, a, ballot}
use Rattle.serving_law.specs.Federations.{Happening, Starts, after_all}
use Rattle.serving_law.specs.Reports.{KnownOnRecord}
use Rattle.serving_law.specs.Rules.{MayAll}
use Rattle.serving_law.proofs.Agreed.{registering, on_deposit_is, preparing, proposes_it, started}
use Rattle.serving_law.proofs.Agreed.{starts, ends, hears, turns, may, prints, at_index}
use Rattle.serving_law.proofs.AgreedMessages.{is_slot, is_bag, voted}
use Rattle.serving_law.proofs.AgreedTurns.{Turn, Asked1, Asked2, Promised1, Promised2, Votes1}
use Rattle.serving_law.proofs.AgreedTurns.{Votes2, Hears11, Hears12, Hears31, Hears32, answers}
use Rattle.serving_law.proofs.Agreement.{three_are, Hearing, m, r, to_site, step_of, comes_to}
use Rattle.serving_law.proofs.DiskJournals.{are_like_cells}
use Rattle.serving_law.proofs.Restarted.{one, again, starts_again, five, are_five, its_rows}
use Rattle.serving_law.proofs.Sites.{volatile_of}
use Rattle.serving_law.proofs.Tables.{records_of}
use Rattle.register_law.specs.Carried.{IsHistoryAfter, carried, left_by, said_in}
use Rattle.register_law.specs.Laws.{AreOfCells, WasKept}
use Rattle.register_law.specs.Registers.{Decided, Keeps}
use Rattle.register_law.specs.Refinement.{Refines}
use Rattle.register_law.specs.ExamplesCarried.{GoesOn, CarriedSitesReport}
use Rattle.register_law.proofs.Refined.{histories_refine}

abbrev q : QuorumSystem
q = quorums_of three

-- ---- a run, event by event

-- these events lead from one network to another, and this is said
record Ran (w : Network) (events : List Event) (x : Network) (said : List Notice) : Type 0 where
  ran : run q w events ≡ x
  said_is : notices_of q w events ≡ said

ran_none : (w : Network) → Ran w [] w []
unfolding run notices_of
ran_none w = record { ran = refl; said_is = refl }

ran_more : {w : Network} {e : Event} {events : List Event} {h : networks.Happening} {x : Network}
    {said : List Notice} → happens q w e ≡ h → Ran h.network events x said
    → Ran w (e ∷ events) x (option_to_list h.notice ++ said)
unfolding run notices_of
ran_more is rest = record { ran = rw is rest.ran; said_is = rw (is, rest.said_is) }

-- a member that is up does all that comes of an input
abbrev does : Network → (n : ℕ) → Input → Effect → networks.Happening
does w n input e = happening w n (goes_on n (w.sites n) (Up e.volatile) input e)

does_whole : (w : Network) (n : ℕ) (volatile : VolatileState) (input : Input) (e : Effect)
    → is_in (members_of three) n ≡ true → (w.sites n).mode ≡ Up volatile
    → effect_of q n (w.sites n).records volatile input ≡ e
    → takes q w n input Whole ≡ does w n input e
unfolding outcome
does_whole w n volatile input e member up is = rw (member, up, is)

module _ (bag : BagId) (request : Request 7 a bag) where
  -- ---- the networks of the run

  abbrev deposits : Event
  deposits = Deposit 1 a (Ok bag) Whole

  abbrev h1 : networks.Happening
  h1 = does new_network 1 (calls.Deposits a (Ok bag)) (registering bag request)

  abbrev h2 : networks.Happening
  h2 = does h1.network 1 (calls.Proposes a) (preparing bag request)

  -- a site hears a message
  module _ (w : Network) (turn : Turn) where
    abbrev it : Hearing
    it = hears bag request turn

    abbrev volatile : VolatileState
    volatile = volatile_of it.old.bs it.old.current

    abbrev hearing : networks.Happening
    hearing = does w it.n (calls.Arrives (Some (m it.body))) (comes_to it)

    hears_whole : (number : ℕ) → datagram_at number w.sent ≡ Some (to_site it.n it.body)
        → is_in (members_of three) it.n ≡ true → (w.sites it.n).mode ≡ Up volatile
        → (w.sites it.n).records ≡ records_of a it.old.es
        → happens q w (Deliver number Whole) ≡ hearing
    unfolding happens
    hears_whole number sent member up records =
        rw sent (does_whole w it.n volatile (calls.Arrives (Some (m it.body))) (comes_to it) member
        up (rw records (answers bag request turn)))

  abbrev then : Network → Turn → Network
  then w turn = (hearing w turn).network

  abbrev x : Network
  x =
      fold then h2.network
      (Asked1 ∷ Asked2 ∷ Promised1 ∷ Promised2 ∷ Votes1 ∷ Votes2 ∷ Hears11 ∷ Hears12 ∷ [])

  abbrev delivers : List Event
  delivers =
      Deliver 1 Whole ∷ Deliver 2 Whole ∷ Deliver 4 Whole ∷ Deliver 5 Whole ∷ Deliver 6 Whole
      ∷ Deliver 7 Whole ∷ Deliver 9 Whole ∷ Deliver 12 Whole ∷ []

  abbrev events : List Event
  events = deposits ∷ Propose 1 a Whole ∷ delivers

  abbrev said : List Notice
  said = Registered 1 a bag ∷ Learned 1 a bag ∷ []

  delivered : Ran h2.network delivers x (Learned 1 a bag ∷ [])
  unfolding new_network new_site is_in sites_to
  delivered =
      ran_more (hears_whole _ Asked1 1 refl refl refl refl) (
      ran_more (hears_whole _ Asked2 2 refl refl refl refl) (
      ran_more (hears_whole _ Promised1 4 refl refl refl refl) (
      ran_more (hears_whole _ Promised2 5 refl refl refl refl) (
      ran_more (hears_whole _ Votes1 6 refl refl refl refl) (
      ran_more (hears_whole _ Votes2 7 refl refl refl refl) (
      ran_more (hears_whole _ Hears11 9 refl refl refl refl) (
      ran_more (hears_whole _ Hears12 12 refl refl refl refl) (ran_none _))))))))

  ran : Ran new_network events x said
  unfolding new_network new_site is_in sites_to happens
  ran =
      ran_more (does_whole new_network 1 (volatile_of [] None) (calls.Deposits a (Ok bag))
      (registering bag request) refl refl (on_deposit_is bag request)) (
      ran_more (does_whole h1.network 1 (volatile_of [] None) (calls.Proposes a)
      (preparing bag request) refl refl (proposes_it bag request)) delivered)

  -- ---- what it leaves

  abbrev end : Network
  end = run q new_network events

  -- a fact of the explicit network is one of the run's
  records_at : (n : ℕ) → (r : Record) → Has r (x.sites n).records → Has r (end.sites n).records
  records_at n r has = rw ran.ran has

  was_said : Has (Learned 1 a bag) (said_in three events)
  was_said = rw ran.said_is (there (here refl))

  is_known : KnownOnRecord {C = Disk} (left_by three events) 1 a bag
  unfolding new_network new_site
  is_known = records_at 1 (r (entry.Known bag)) (at_index 4 (x.sites 1).records _ refl)

  formed : AreWellFormedEvents events
  formed = (
    (is_slot bag request, is_bag bag request),
    (is_slot bag request, (tt, (tt, (tt, (tt, (tt, (tt, (tt, (tt, tt))))))))),
  )

  -- ---- the history

  abbrev history : List (Happening Disk)
  history =
      Starts 1 (Holds one (five bag request)) (again (its_rows bag request) (five bag request))
      ∷ started bag request 3 ∷ turns bag request Hears31 0 0 ∷ turns bag request Hears32 0 1 ∷ []

  may_go_on : MayAll device three (carried 7 x) history
  unfolding new_network new_site
  may_go_on =
      starts_again bag request (its_rows bag request) (five bag request) (are_five bag request) _ _
      refl (
      starts bag request 3 (omega arith) (omega arith) _ _ refl (
      may bag request Hears31 10 0 0 _ _ (omega arith) (omega arith) refl refl (
      may bag request Hears32 13 0 1 _ _ (omega arith) (omega arith) refl refl (
      ends bag request _))))

  after_run : IsHistoryAfter device three events history
  after_run = record { formed = formed; happens = rw ran.ran may_go_on }

  refines : Refines device three events history
  refines =
      histories_refine device three are_like_cells.only_now events history three_are after_run

  decided : Keeps {C = Disk} three (left_by three events) a (Decided bag)
  decided = refines.begins.reports (Learned 1 a bag) a bag was_said refl

  -- ---- what its cells show

  abbrev voted_at : ℕ → SiteRecord
  voted_at site = record { site = site; kept = r (voted bag) }

  abbrev given : List SiteRecord
  given = voted_at 1 ∷ voted_at 2 ∷ []

  of_cell : (s : SiteRecord) → Has s.kept (end.sites s.site).records
      → WasKept three events history s
  unfolding after_all
  of_cell s has = record { before = []; later = history; split = refl; kept = has }

  are : AreOfCells three events history given
  unfolding new_network new_site
  are s (here e) =
      rw (← e) (of_cell (voted_at 1) (records_at 1 (r (voted bag))
      (at_index 3 (x.sites 1).records _ refl)))
  are s (there (here e)) =
      rw (← e) (of_cell (voted_at 2) (records_at 2 (r (voted bag))
      (at_index 1 (x.sites 2).records _ refl)))
  are s (there (there none)) = absurd (has_none none)

  voted_on : (n : ℕ) → Has n (1 ∷ 2 ∷ []) → OnRecord (network_of given) n a (voted bag)
  unfolding network_of
  voted_on n (here e) = rw (← e) (here refl)
  voted_on n (there (here e)) = rw (← e) (here refl)
  voted_on n (there (there none)) = absurd (has_none none)

  shown : ShowChosen q given a bag
  unfolding is_in sites_to
  shown = record {
    ballot = ballot;
    chosen = record { voters = 1 ∷ 2 ∷ []; quorum = refl; voted = voted_on };
  }

  pub goes_on_from : GoesOn bag
  goes_on_from = record {
    events = events;
    said = was_said;
    deposited = refines.begins.from_open a (Decided bag) decided;
    known = is_known;
    decided = decided;
    history = history;
    happens = after_run;
    h = turns bag request Hears32 0 1;
    among = there (there (there (here refl)));
    reports = inl (
      Learned 3 a bag,
      prints bag request 3 (step_of (hears bag request Hears32)) refl,
      refl,
    );
    given = given;
    are = are;
    shown = shown;
  }

pub carried_sites_report : CarriedSitesReport
carried_sites_report bag request = goes_on_from bag request
