-- What is sent in a run is for sites: no request of a client, and no reply to one.
use Rattle.std.proofs.Common.{ℕ, inl, inr, List, [], ◌∷◌, Option, None, Some}
use Rattle.std.proofs.lemmas.Bool.{cond_both}
use Rattle.fed_types.specs.Lists.{is_in}
use Rattle.fed_types.specs.Quorums.{QuorumSystem}
use Rattle.fed_types.specs.Slots.{SlotName}
use Rattle.fed_types.specs.Laws.Lists.{has_none, has_take, has_cases}
use Rattle.records.specs.declared.record.Record.{Record}
use Rattle.proposer.specs.VolatileStates.{new_volatile}
use Rattle.site.specs.declared.fault.SiteFault.TheVariants as faults
use Rattle.site.specs.Calls.{Input, Deposits, Proposes, Recovers, Asks, Arrives, effect_of}
use Rattle.site.specs.Effects.{Effect, Send, refuses}
use Rattle.schedule.specs.declared.fate.Fate.{Fate}
use Rattle.schedule.specs.declared.fate.Fate.TheVariants.{Whole, StopsIn, StopsAfter, FailsIn}
use Rattle.world_law.specs.Networks.{Network, SiteState, SiteOutcome, Mode, Up, Down, NeedsOpening}
use Rattle.world_law.specs.Networks.{Happening, outcome, step, nothing, happening, if_member}
use Rattle.world_law.specs.Networks.{reaches, takes, replies, arrives, stops, starts, datagram_at}
use Rattle.world_law.specs.Networks.{Event, Deposit, Propose, Recover, Query, Deliver, Raw, Stop}
use Rattle.world_law.specs.Networks.{Start, goes_down, opened, new_network, happens, run}
use Rattle.world_law.specs.Networks as networks
use Rattle.serving_law.proofs.Spoken.{Speak, effect_speaks}

module _ (q : QuorumSystem) where
  -- each message of the network is for sites
  abbrev AllSpeak : Network → Type 0
  AllSpeak w = Speak w.sent

  nobody : Speak []
  nobody d h = absurd (has_none h)

  out_speaks : (n : ℕ) (s : SiteState) (after : Mode) (input : Input) (e : Effect)
      → Speak e.sends → (commits : Option Record) (fate : Fate)
      → Speak (outcome n s after input e commits fate).sends
  unfolding outcome
  out_speaks n s after input e all commits Whole = all
  out_speaks n s after input e all None (StopsIn device k) = nobody
  out_speaks n s after input e all (Some r) (StopsIn device k) = nobody
  out_speaks n s after input e all commits (StopsAfter j) = λ d h. all d (has_take j e.sends h)
  out_speaks n s after input e all None (FailsIn device k) = all
  out_speaks n s after input e all (Some r) (FailsIn device k) = nobody

  module _ (w : Network) (all : AllSpeak w) where
    moved_speaks : (n : ℕ) (o : SiteOutcome) → Speak o.sends
        → AllSpeak (happening w n o).network
    moved_speaks n o out d h = elim (has_cases w.sent o.sends h) [
      | inl old ↦ all d old
      | inr new ↦ out d new
    ]

    member_speaks : (n : ℕ) (h : Happening) → AllSpeak h.network
        → AllSpeak (if_member q w n h).network
    member_speaks n h out =
        cond_both (is_in q.members n) h (nothing w) (λ h. AllSpeak h.network) (λ e. out) (λ e. all)

    reached_speaks : (n : ℕ) (mode : Mode) (input : Input) (fate : Fate)
        → AllSpeak (reaches q w n mode input fate).network
    reached_speaks n Down input fate = all
    reached_speaks n (Up volatile) input fate =
        moved_speaks n (step q n (w.sites n) (Up volatile) input fate)
        (out_speaks n (w.sites n) _ input (effect_of q n (w.sites n).records volatile input)
        (effect_speaks q n (w.sites n).records volatile input) _ fate)
    reached_speaks n NeedsOpening input fate =
        moved_speaks n (step q n (w.sites n) NeedsOpening input fate)
        (out_speaks n (w.sites n) NeedsOpening input (refuses faults.NeedsOpen new_volatile) nobody
        None fate)

    takes_speaks : (n : ℕ) (input : Input) (fate : Fate)
        → AllSpeak (takes q w n input fate).network
    takes_speaks n input fate =
        member_speaks n (reaches q w n (w.sites n).mode input fate)
        (reached_speaks n (w.sites n).mode input fate)

    replies_speaks : (n : ℕ) (mode : Mode) (slot : SlotName)
        → AllSpeak (replies w n mode slot).network
    replies_speaks n (Up volatile) slot = all
    replies_speaks n _ slot = all

    arrives_speaks : (o : Option Send) (fate : Fate) → AllSpeak (arrives q w o fate).network
    arrives_speaks None fate = all
    arrives_speaks (Some d) fate = takes_speaks d.to (Arrives (Some d.message)) fate

    stops_speaks : (n : ℕ) (mode : Mode) → AllSpeak (stops w n mode).network
    stops_speaks n Down = all
    stops_speaks n _ = moved_speaks n (goes_down n (w.sites n) None []) nobody

    starts_speaks : (n : ℕ) (mode : Mode) → AllSpeak (starts w n mode).network
    starts_speaks n (Up volatile) = all
    starts_speaks n _ = moved_speaks n (opened n (w.sites n)) nobody

    event_speaks : (e : Event) → AllSpeak (happens q w e).network
    unfolding happens
    event_speaks (Deposit n slot checked fate) = takes_speaks n (Deposits slot checked) fate
    event_speaks (Propose n slot fate) = takes_speaks n (Proposes slot) fate
    event_speaks (Recover n slot fate) = takes_speaks n (Recovers slot) fate
    event_speaks (networks.Ask n member slot fate) = takes_speaks n (Asks slot member) fate
    event_speaks (Query n slot) =
        member_speaks n (replies w n (w.sites n).mode slot)
        (replies_speaks n (w.sites n).mode slot)
    event_speaks (Deliver number fate) = arrives_speaks (datagram_at number w.sent) fate
    event_speaks (Raw n) = takes_speaks n (Arrives None) Whole
    event_speaks (Stop n) =
        member_speaks n (stops w n (w.sites n).mode) (stops_speaks n (w.sites n).mode)
    event_speaks (Start n) =
        member_speaks n (starts w n (w.sites n).mode) (starts_speaks n (w.sites n).mode)

  speaks_from : (events : List Event) (w : Network) → AllSpeak w → AllSpeak (run q w events)
  unfolding run
  speaks_from [] w all = all
  speaks_from (e ∷ events) w all =
      speaks_from events (happens q w e).network (event_speaks w all e)

  pub run_speaks : (events : List Event) → Speak (run q new_network events).sent
  unfolding new_network
  run_speaks events = speaks_from events new_network nobody
