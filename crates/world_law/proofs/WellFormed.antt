-- A network stays well-formed, whatever well-formed events happen.
use Rattle.std.proofs.Common.{ℕ, ◌≡◌, inl, inr, refl, arith}
use Rattle.std.proofs.Common.{length, take, List, [], ◌∷◌, ◌++◌, Option, None, Some}
use Rattle.std.specs.Bool.{nat_le}
use Rattle.std.specs.Option.{IfSome, option_to_list}
use Rattle.std.proofs.lemmas.Bool.{cond_both}
use Rattle.fed_types.specs.Lists.{Has, is_in}
use Rattle.fed_types.specs.Quorums.{QuorumSystem, quorums_of}
use Rattle.fed_types.specs.Sites.{Membership, IsSiteNumber, count_of}
use Rattle.fed_types.specs.Values.{IsMembership}
use Rattle.fed_types.specs.Laws.Lists.{is_in_decides, has_take, has_cases, has_none}
use Rattle.fed_types.specs.Laws.Sites.{has_sites_to}
use Rattle.records.specs.declared.record.Record.{Record}
use Rattle.records.specs.Layout.{record_bytes}
use Rattle.records.specs.Texts.{kept_record}
use Rattle.records.specs.Records.{IsRecord, AreRecords}
use Rattle.proposer.specs.VolatileStates.{new_volatile}
use Rattle.site.specs.declared.fault.SiteFault.TheVariants as faults
use Rattle.site.specs.Calls.{Input, Deposits, Proposes, Recovers, Asks, Arrives}
use Rattle.site.specs.Effects.{Effect, Send}
use Rattle.schedule.specs.declared.fate.Fate.{Fate}
use Rattle.schedule.specs.declared.fate.Fate.TheVariants.{Whole, StopsIn, StopsAfter, FailsIn}
use Rattle.lines.specs.declared.notice.Notice.{Notice}
use Rattle.lines.specs.declared.notice.Notice.TheVariants.{GoesDown}
use Rattle.world_law.specs.Networks.{Mode, Up, Down, NeedsOpening, volatile_in, SiteState, Network}
use Rattle.world_law.specs.Networks.{new_site, new_network, Event, Deposit, Propose, Recover, Query}
use Rattle.world_law.specs.Networks.{Deliver, Raw, Stop, Start, SiteOutcome, Happening, happening}
use Rattle.world_law.specs.Networks.{outcome, nothing, if_member, reaches, takes, replies}
use Rattle.world_law.specs.Networks.{datagram_at, arrives, stops, starts, opened, happens, run}
use Rattle.world_law.specs.Networks as networks
use Rattle.world_law.specs.WellFormed.{MembersAreSites, AreMessages, IsSend, IsWellFormed}
use Rattle.world_law.specs.WellFormed.{IsWellFormedEvent, AreWellFormedEvents}
use Rattle.world_law.proofs.Sends.{at_number}
use Rattle.world_law.proofs.Step.{site_cases}
use Rattle.world_law.proofs.WellFormedWords.{all_with, if_given}
use Rattle.world_law.proofs.WellFormedEffects.{IsWellFormedEffect}
use Rattle.world_law.proofs.WellFormedCalls.{IsWellFormedInput, refuses_is, effect_is}

-- the members of a federation are the sites 1 to its count
pub members_are_sites : (m : Membership) → IsMembership m → MembersAreSites (quorums_of m)
members_are_sites m h n has =
    let f = has_sites_to (count_of m) n has in
    let most = h.1.0.1 in
    (f.0, omega (arith, f.1, most))

-- ---- an outcome at a site

-- what a site is then, and what it sent, is well-formed
record IsWellFormedOutcome (o : SiteOutcome) : Type 0 where
  records : AreRecords o.site.records
  heard : AreMessages (volatile_in o.site.mode).heard
  sends : (d : Send) → Has d o.sends → IsSend d

module _ (w : Network) (inv : IsWellFormed w) (n : ℕ) where
  happening_is : (o : SiteOutcome) → IsWellFormedOutcome o → IsWellFormed (happening w n o).network
  happening_is o is = record {
    sent = λ d h. elim (has_cases w.sent o.sends h) [
      | inl old ↦ inv.sent d old
      | inr new ↦ is.sends d new
    ];
    records = λ k.
        site_cases (λ s. AreRecords s.records) w n k o (λ e. is.records) (λ e. inv.records k);
    heard = λ k.
        site_cases (λ s. AreMessages (volatile_in s.mode).heard) w n k o (λ e. is.heard)
        (λ e. inv.heard k);
  }

  abbrev s : SiteState
  s = w.sites n

  -- a record more, if there is one
  moved_is : (kept : Option Record) → IfSome kept IsRecord → (mode : Mode)
      → AreMessages (volatile_in mode).heard → (sends : List Send)
      → ((d : Send) → Has d sends → IsSend d) → (notice : Option Notice)
      → IsWellFormedOutcome (record {
        site = record { records = s.records ++ option_to_list kept; mode = mode };
        sends = sends;
        notice = notice;
      })
  moved_is kept is_kept mode heard sends each notice = record {
    records = all_with IsRecord s.records kept (inv.records n) is_kept;
    heard = heard;
    sends = each;
  }

  -- it sends nothing
  silent_is : (kept : Option Record) → IfSome kept IsRecord → (mode : Mode)
      → AreMessages (volatile_in mode).heard → (notice : Option Notice)
      → IsWellFormedOutcome (record {
        site = record { records = s.records ++ option_to_list kept; mode = mode };
        sends = [];
        notice = notice;
      })
  silent_is kept is_kept mode heard notice =
      moved_is kept is_kept mode heard [] (λ d h. absurd (has_none h)) notice

  -- an effect, where a site that goes on is then in this mode
  module _ (input : Input) (e : Effect) (is : IsWellFormedEffect e) (after : Mode)
      (heard : AreMessages (volatile_in after).heard) where
    whole : IsWellFormedOutcome (networks.goes_on n s after input e)
    whole = moved_is e.commits is.commits after heard e.sends is.sends _

    kept_is : (k : ℕ) (r : Record) → IsRecord r → IfSome (kept_record k r) IsRecord
    kept_is k r h = if_given IsRecord (nat_le (length (record_bytes r)) k) (Some r) h

    outcome_is : (commits : Option Record) → IfSome commits IsRecord → (fate : Fate)
        → IsWellFormed (happening w n (outcome n s after input e commits fate)).network
    unfolding outcome
    outcome_is commits h fate = happening_is _ (go commits h fate)
      where
        go : (commits : Option Record) → IfSome commits IsRecord → (fate : Fate)
            → IsWellFormedOutcome (outcome n s after input e commits fate)
        go commits h Whole = whole
        go None h (StopsIn device k) = silent_is None tt Down tt _
        go (Some r) h (StopsIn device k) = silent_is _ (kept_is k r h) Down tt _
        go commits h (StopsAfter j) =
            moved_is commits h Down tt (take j e.sends) (λ d f. is.sends d (has_take j e.sends f)) _
        go None h (FailsIn device k) = whole
        go (Some r) h (FailsIn device k) = silent_is _ (kept_is k r h) NeedsOpening tt _

  opened_is : IsWellFormed (happening w n (opened n s)).network
  opened_is = happening_is (opened n s) (record {
    records = inv.records n;
    heard = tt;
    sends = λ d h. absurd (has_none h);
  })

  starts_is : (mode : Mode) → IsWellFormed (starts w n mode).network
  starts_is (Up volatile) = inv
  starts_is mode = opened_is

  stops_is : (mode : Mode) → IsWellFormed (stops w n mode).network
  stops_is Down = inv
  stops_is mode = happening_is _ (silent_is None tt Down tt (Some (GoesDown n)))

  replies_is : (slot : _) (mode : Mode) → IsWellFormed (replies w n mode slot).network
  replies_is slot (Up volatile) = inv
  replies_is slot mode = inv

  -- ---- only at a member, whose number is a site's

  module _ (q : QuorumSystem) (members : MembersAreSites q) where
    member_is : (h : Happening) → (IsSiteNumber n → IsWellFormed h.network)
        → IsWellFormed (if_member q w n h).network
    member_is h is =
        cond_both (is_in q.members n) h (nothing w) (λ (h : Happening). IsWellFormed h.network)
        (λ e. is (members n ((is_in_decides q.members n).0 e))) (λ e. inv)

    takes_is : (input : Input) → IsWellFormedInput input → (fate : Fate)
        → IsWellFormed (takes q w n input fate).network
    takes_is input is_input fate =
        member_is (reaches q w n s.mode input fate) (λ is_site. go is_site s.mode (inv.heard n))
      where
        go : IsSiteNumber n → (mode : Mode) → AreMessages (volatile_in mode).heard
            → IsWellFormed (reaches q w n mode input fate).network
        go is_site (Up volatile) heard =
            let is =
            effect_is q members n is_site s.records (inv.records n) volatile heard input is_input in
            outcome_is input _ is _ is.heard _ is.commits fate
        go is_site NeedsOpening heard =
            let is = refuses_is new_volatile tt faults.NeedsOpen in
            outcome_is input _ is NeedsOpening tt None tt fate
        go is_site Down heard = inv

-- ---- events

arrives_is : (q : QuorumSystem) (w : Network) → MembersAreSites q → IsWellFormed w
    → (o : Option Send) → ((d : Send) → o ≡ Some d → Has d w.sent) → (fate : Fate)
    → IsWellFormed (arrives q w o fate).network
arrives_is q w members inv None sent fate = inv
arrives_is q w members inv (Some d) sent fate =
    takes_is w inv d.to q members (Arrives (Some d.message)) (inv.sent d (sent d refl)).1 fate

pub happens_well_formed : (q : QuorumSystem) (w : Network) (e : Event) → MembersAreSites q
    → IsWellFormedEvent e → IsWellFormed w → IsWellFormed (happens q w e).network
unfolding happens
happens_well_formed q w (Deposit n slot checked fate) members h inv =
    takes_is w inv n q members (Deposits slot checked) h fate
happens_well_formed q w (Propose n slot fate) members h inv =
    takes_is w inv n q members (Proposes slot) h fate
happens_well_formed q w (Recover n slot fate) members h inv =
    takes_is w inv n q members (Recovers slot) h fate
happens_well_formed q w (networks.Ask n member slot fate) members h inv =
    takes_is w inv n q members (Asks slot member) h fate
happens_well_formed q w (Query n slot) members h inv =
    member_is w inv n q members _ (λ is_site. replies_is w inv n slot (w.sites n).mode)
happens_well_formed q w (Deliver k fate) members h inv =
    arrives_is q w members inv (datagram_at k w.sent) (λ d e. at_number k w.sent d e) fate
happens_well_formed q w (Raw n) members h inv =
    takes_is w inv n q members (Arrives None) tt Whole
happens_well_formed q w (Stop n) members h inv =
    member_is w inv n q members _ (λ is_site. stops_is w inv n (w.sites n).mode)
happens_well_formed q w (Start n) members h inv =
    member_is w inv n q members _ (λ is_site. starts_is w inv n (w.sites n).mode)

-- ---- a run

pub new_is_well_formed : IsWellFormed new_network
unfolding new_network new_site
new_is_well_formed = record {
  sent = λ d h. absurd (has_none h);
  records = λ n. tt;
  heard = λ n. tt;
}

pub run_well_formed : (q : QuorumSystem) (events : List Event) (w : Network) → MembersAreSites q
    → AreWellFormedEvents events → IsWellFormed w → IsWellFormed (run q w events)
unfolding run
run_well_formed q [] w members h inv = inv
run_well_formed q (e ∷ events) w members h inv =
    run_well_formed q events (happens q w e).network members h.1
    (happens_well_formed q w e members h.0 inv)
