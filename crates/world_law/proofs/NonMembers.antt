-- A site that is no member stays as it is.
use Rattle.std.proofs.Common.{ℕ, ◌≡◌, ◌≢◌, false, refl, [], Option, None, Some}
use Rattle.std.proofs.lemmas.Bool.{cond_both}
use Rattle.fed_types.specs.Lists.{is_in}
use Rattle.fed_types.specs.Quorums.{QuorumSystem}
use Rattle.fed_types.specs.Slots.{SlotName}
use Rattle.site.specs.Calls.{Input, Deposits, Proposes, Recovers, Asks, Arrives}
use Rattle.site.specs.Effects.{Send}
use Rattle.schedule.specs.declared.fate.Fate.{Fate}
use Rattle.schedule.specs.declared.fate.Fate.TheVariants.{Whole}
use Rattle.world_law.specs.Networks.{Mode, Up, Down, NeedsOpening, Network}
use Rattle.world_law.specs.Networks.{Event, Deposit, Propose, Recover, Query, Deliver, Raw, Stop}
use Rattle.world_law.specs.Networks.{Start, SiteOutcome, Happening, happening, nothing, if_member}
use Rattle.world_law.specs.Networks.{reaches, step, goes_down, opened}
use Rattle.world_law.specs.Networks.{takes, replies, datagram_at, arrives, stops, starts, happens}
use Rattle.world_law.specs.Networks as networks
use Rattle.world_law.proofs.Step.{site_cases}

module _ (q : QuorumSystem) (w : Network) (n : ℕ) (stranger : is_in q.members n ≡ false) where
  -- the site is as it was
  abbrev Stays : Happening → Type 0
  Stays h = h.network.sites n ≡ w.sites n

  module _ (m : ℕ) where
    other_stays : n ≢ m → (o : SiteOutcome) → Stays (happening w m o)
    other_stays other o =
        site_cases (λ s. s ≡ w.sites n) w m n o (λ e. absurd (other e)) (λ e. refl)

    -- what happens at a member happens at another site
    member_stays : (h : Happening) → (n ≢ m → Stays h) → Stays (if_member q w m h)
    member_stays h stays =
        cond_both (is_in q.members m) h (nothing w) Stays
        (λ member. stays (λ e. absurd (cc (stranger, member)))) (λ e. refl)

    reaches_stays : n ≢ m → (mode : Mode) (input : Input) (fate : Fate)
        → Stays (reaches q w m mode input fate)
    reaches_stays other Down input fate = refl
    reaches_stays other mode input fate = other_stays other (step q m (w.sites m) mode input fate)

    takes_stays : (input : Input) (fate : Fate) → Stays (takes q w m input fate)
    takes_stays input fate =
        member_stays _ (λ other. reaches_stays other (w.sites m).mode input fate)

    replies_stays : (mode : Mode) (slot : SlotName) → Stays (replies w m mode slot)
    replies_stays (Up volatile) slot = refl
    replies_stays mode slot = refl

    stops_stays : n ≢ m → (mode : Mode) → Stays (stops w m mode)
    stops_stays other Down = refl
    stops_stays other mode = other_stays other (goes_down m (w.sites m) None [])

    starts_stays : n ≢ m → (mode : Mode) → Stays (starts w m mode)
    starts_stays other (Up volatile) = refl
    starts_stays other mode = other_stays other (opened m (w.sites m))

  arrives_stays : (o : Option Send) (fate : Fate) → Stays (arrives q w o fate)
  arrives_stays None fate = refl
  arrives_stays (Some d) fate = takes_stays d.to (Arrives (Some d.message)) fate

  event_stays : (e : Event) → Stays (happens q w e)
  unfolding happens
  event_stays (Deposit m slot checked fate) = takes_stays m (Deposits slot checked) fate
  event_stays (Propose m slot fate) = takes_stays m (Proposes slot) fate
  event_stays (Recover m slot fate) = takes_stays m (Recovers slot) fate
  event_stays (networks.Ask m member slot fate) = takes_stays m (Asks slot member) fate
  event_stays (Query m slot) =
      member_stays m _ (λ other. replies_stays m (w.sites m).mode slot)
  event_stays (Deliver k fate) = arrives_stays (datagram_at k w.sent) fate
  event_stays (Raw m) = takes_stays m (Arrives None) Whole
  event_stays (Stop m) = member_stays m _ (λ other. stops_stays m other (w.sites m).mode)
  event_stays (Start m) = member_stays m _ (λ other. starts_stays m other (w.sites m).mode)

pub non_members_stay_new : (q : QuorumSystem) (w : Network) (e : Event) (n : ℕ)
    → is_in q.members n ≡ false → (happens q w e).network.sites n ≡ w.sites n
non_members_stay_new q w e n stranger = event_stays q w n stranger e
