-- Every network of a run is kept.
use Rattle.std.proofs.Common.{◌≡◌, refl, List, [], ◌∷◌, Option, None, Some}
use Rattle.std.specs.Option.{option_map}
use Rattle.fed_types.specs.Lists.{Has}
use Rattle.fed_types.specs.Quorums.{QuorumSystem, AreQuorums}
use Rattle.fed_types.specs.Laws.Lists.{has_none}
use Rattle.dgram.specs.declared.message.Message.{Message}
use Rattle.site.specs.Calls.{Deposits, Proposes, Recovers, Asks, Arrives}
use Rattle.site.specs.Effects.{Send}
use Rattle.schedule.specs.declared.fate.Fate.{Fate}
use Rattle.schedule.specs.declared.fate.Fate.TheVariants.{Whole}
use Rattle.world_law.specs.Laws.{WasSent, site_of}
use Rattle.world_law.specs.Networks.{Network, new_site, new_network, Event, Deposit, Propose}
use Rattle.world_law.specs.Networks.{Recover, Query, Deliver, Raw, Stop, Start, datagram_at}
use Rattle.world_law.specs.Networks.{arrives, happens, run}
use Rattle.world_law.specs.Networks as networks
use Rattle.world_law.proofs.Kept.{Kept}
use Rattle.world_law.proofs.Step.{Deposits as Allowed, Next}
use Rattle.world_law.proofs.Deeds.{MayDeposit, some_same}
use Rattle.world_law.proofs.Sends.{at_number}
use Rattle.world_law.proofs.Arrivals.{arrival_deed}
use Rattle.world_law.proofs.Outcomes.{stays, member_kept, takes_kept, replies_kept, stops_kept}
use Rattle.world_law.proofs.Outcomes.{starts_kept}
use Rattle.world_law.proofs.Calls.{deposit_deed, propose_deed, recover_deed, ask_deed}

-- nothing may be deposited
abbrev NoDeposit : Allowed
NoDeposit slot bag = ⊥

-- what an event may deposit
abbrev pub DepositOf : Event → Allowed
DepositOf (Deposit site slot checked fate) = MayDeposit (Deposits slot checked)
DepositOf _ = NoDeposit

module _ (q : QuorumSystem) (w : Network) (inv : Kept q w) where
  arrives_kept : AreQuorums q → (o : Option Send) → ((d : Send) → o ≡ Some d → Has d w.sent)
      → (fate : Fate) → Next q w (option_map (λ d. d.to) o) NoDeposit (arrives q w o fate)
  arrives_kept laws None sent fate = stays q w inv NoDeposit None
  arrives_kept laws (Some d) sent fate =
      takes_kept q w inv d.to (Arrives (Some d.message))
      (arrival_deed q laws w inv d.to (Some d.message) was_sent) fate
    where
      was_sent : (m : Message) → Some d.message ≡ Some m → WasSent w m.slot m.body
      was_sent m e =
          rw (← some_same e) (record { to = d.to; is_sent = sent d refl })

pub happens_kept : (q : QuorumSystem) → AreQuorums q → (w : Network) → Kept q w → (e : Event)
    → Next q w (site_of w e) (DepositOf e) (happens q w e)
unfolding happens
happens_kept q laws w inv (Deposit n slot checked fate) =
    takes_kept q w inv n (Deposits slot checked) (deposit_deed q laws w inv n slot checked) fate
happens_kept q laws w inv (Propose n slot fate) =
    takes_kept q w inv n (Proposes slot) (propose_deed q laws w inv n slot) fate
happens_kept q laws w inv (Recover n slot fate) =
    takes_kept q w inv n (Recovers slot) (recover_deed q laws w inv n slot) fate
happens_kept q laws w inv (networks.Ask n member slot fate) =
    takes_kept q w inv n (Asks slot member) (ask_deed q laws w inv n slot member) fate
happens_kept q laws w inv (Query n slot) =
    member_kept q w inv n NoDeposit _ (replies_kept q w inv n NoDeposit slot (w.sites n).mode)
happens_kept q laws w inv (Deliver k fate) =
    arrives_kept q w inv laws (datagram_at k w.sent) (λ d e. at_number k w.sent d e) fate
happens_kept q laws w inv (Raw n) =
    takes_kept q w inv n (Arrives None)
    (arrival_deed q laws w inv n None (λ m e. absurd (cc e))) Whole
happens_kept q laws w inv (Stop n) =
    member_kept q w inv n NoDeposit _ (stops_kept q w inv n NoDeposit (w.sites n).mode)
happens_kept q laws w inv (Start n) =
    member_kept q w inv n NoDeposit _ (starts_kept q w inv n NoDeposit (w.sites n).mode)

pub new_kept : (q : QuorumSystem) → Kept q new_network
unfolding new_network new_site
new_kept q = record {
  volatiles = λ n. record {
    heard = λ d h. absurd (has_none h);
    members = λ d h. absurd (has_none h);
    current = λ slot c f. absurd (cc f);
  };
  sent = λ d h. absurd (has_none h);
  records = λ n slot e h. absurd (has_none h);
  one = λ slot b u v g h. absurd (has_none g.is_sent);
}

run_from : (q : QuorumSystem) → AreQuorums q → (events : List Event) (w : Network) → Kept q w
    → Kept q (run q w events)
unfolding run
run_from q laws [] w inv = inv
run_from q laws (e ∷ es) w inv =
    run_from q laws es (happens q w e).network (happens_kept q laws w inv e).kept

pub run_kept : (q : QuorumSystem) → AreQuorums q → (events : List Event)
    → Kept q (run q new_network events)
run_kept q laws events = run_from q laws events new_network (new_kept q)
