-- Where none of those that run knows a bag, has voted or has a deposit, none of them comes to know
-- one.
use Rattle.std.proofs.Common.{ℕ, ◌≡◌, ◌<◌, Bool, true, false, cond, inl, inr, refl, sym, ap, ◌∙◌}
use Rattle.std.proofs.Common.{List, [], ◌∷◌, ◌++◌, length, None, Some, append-nil, eq-eqb}
use Rattle.std.specs.Bool.{◌==◌}
use Rattle.std.specs.Option.{option_to_list}
use Rattle.std.proofs.lemmas.Bool.{cases_eq, ne_eqb}
use Rattle.fed_types.specs.Lists.{Has, is_in}
use Rattle.fed_types.specs.Quorums.{QuorumSystem}
use Rattle.fed_types.specs.Slots.{SlotName}
use Rattle.fed_types.specs.Laws.Lists.{has_none, has_one}
use Rattle.records.specs.SlotStates.{vote_of, deposit_of, known_of}
use Rattle.dgram.specs.declared.body.Body.TheVariants.{Ask}
use Rattle.proposer.specs.VolatileStates.{VolatileState, new_volatile, hears}
use Rattle.schedule.specs.declared.fate.Fate.TheVariants.{Whole}
use Rattle.site.specs.Arrivals.{telling, on_arrival, on_body}
use Rattle.site.specs.Calls.{Input, Proposes, Recovers, Asks, Arrives, effect_of, on_propose}
use Rattle.site.specs.Calls.{on_recover, on_ask}
use Rattle.site.specs.Effects.{Effect, Send, to_each}
use Rattle.world_law.specs.Networks.{Mode, Up, Down, NeedsOpening, SiteState, Network, Event}
use Rattle.world_law.specs.Networks.{Deliver, Start, datagram_at, nothing, reaches, takes, starts}
use Rattle.world_law.specs.Networks.{outcome, happens, run}
use Rattle.world_law.specs.Networks as networks
use Rattle.reach_law.proofs.Leads.{numbered_cases}
use Rattle.reach_law.proofs.Words.{about, too_many}
use Rattle.reach_law.specs.Running.{records_at}
use Rattle.reach_law.specs.Reach.{IsCalm, AreCalm, HaveNothing, StaysUnknown}

module _ (q : QuorumSystem) (running : List ℕ) (slot : SlotName) (w : Network)
    (have : HaveNothing w running slot) where
  -- the datagram is a question about the slot
  abbrev IsAsk : Send → Type 0
  IsAsk d = (m : ℕ) × (d.message ≡ about slot (Ask m))

  -- nothing was recorded, and nothing but questions was sent
  record Still (x : Network) : Type 0 where
    records : (n : ℕ) → records_at x n ≡ records_at w n
    asks : (number : ℕ) (d : Send) → length w.sent < number
        → datagram_at number x.sent ≡ Some d → IsAsk d

  known_none : (x : Network) → Still x → (n : ℕ) → Has n running
      → known_of slot (records_at x n) ≡ None
  known_none x s n h = ap (known_of slot) (s.records n) ∙ (have n h).2

  deposit_none : (x : Network) → Still x → (n : ℕ) → Has n running
      → deposit_of slot (records_at x n) ≡ None
  deposit_none x s n h = ap (deposit_of slot) (s.records n) ∙ (have n h).0

  vote_none : (x : Network) → Still x → (n : ℕ) → Has n running
      → vote_of slot (records_at x n) ≡ None
  vote_none x s n h = ap (vote_of slot) (s.records n) ∙ (have n h).1

  -- a site that records nothing, and sends only questions
  abbrev became : Network → ℕ → SiteState → List Send → Network
  became x n site sends = record {
    sites = λ k. cond (k == n) site (x.sites k);
    sent = x.sent ++ sends;
  }

  became_still : (x : Network) → Still x → (n : ℕ) (site : SiteState) (sends : List Send)
      → site.records ≡ records_at x n → ((d : Send) → Has d sends → IsAsk d)
      → Still (became x n site sends)
  became_still x s n site sends same asks = record {
    records = λ k. elim (cases_eq k n) [
      | inl is ↦ rw (eq-eqb k n is, records_at) (same ∙ rw (← is) (s.records k))
      | inr differ ↦ rw (ne_eqb k n differ, records_at) (s.records k)
    ];
    asks = λ number d l e. elim (numbered_cases number x.sent sends d e) [
      | inl old ↦ s.asks number d l old
      | inr new ↦ asks d new
    ];
  }

  no_sends : (d : Send) → Has d [] → IsAsk d
  no_sends d h = absurd (has_none h)

  -- what an effect comes to that records nothing and sends only questions
  record Quiet (e : Effect) : Type 0 where
    none : e.commits ≡ None
    asks : (d : Send) → Has d e.sends → IsAsk d

  takes_still : (x : Network) → Still x → (n : ℕ) (input : Input)
      → ((v : VolatileState) → (x.sites n).mode ≡ Up v
      → Quiet (effect_of q n (records_at x n) v input))
      → Still (takes q x n input Whole).network
  unfolding outcome
  takes_still x s n input quiets = go (is_in q.members n)
    where
      reached : (mode : Mode) → (x.sites n).mode ≡ mode
          → Still (reaches q x n mode input Whole).network
      reached (Up v) is =
          let e = effect_of q n (records_at x n) v input in
          let still = quiets v is in
          became_still x s n
          (record {
            records = records_at x n ++ option_to_list e.commits;
            mode = Up e.volatile;
          })
          e.sends
          (rw (still.none, append-nil (records_at x n)) refl)
          still.asks
      reached NeedsOpening is =
          became_still x s n
          (record { records = records_at x n ++ []; mode = NeedsOpening }) []
          (append-nil (records_at x n)) no_sends
      reached Down is = s

      go : (t : Bool)
          → Still (cond t (reaches q x n (x.sites n).mode input Whole) (nothing x)).network
      go true = reached (x.sites n).mode refl
      go false = s

  quiet_propose : (x : Network) → Still x → (n : ℕ) → Has n running → (v : VolatileState)
      → Quiet (on_propose q n (records_at x n) v slot)
  unfolding on_propose
  quiet_propose x s n h v =
      rw (known_none x s n h, deposit_none x s n h) (record { none = refl; asks = no_sends })

  quiet_recover : (x : Network) → Still x → (n : ℕ) → Has n running → (v : VolatileState)
      → Quiet (on_recover q n (records_at x n) v slot)
  unfolding on_recover
  quiet_recover x s n h v =
      rw (known_none x s n h, vote_none x s n h, deposit_none x s n h)
      (record { none = refl; asks = no_sends })

  quiet_ask : (n m : ℕ) (v : VolatileState) → Quiet (on_ask n v slot m)
  unfolding on_ask to_each
  quiet_ask n m v = record {
    none = refl;
    asks = λ d h. (n, ap (λ (d : Send). d.message) (sym (has_one h)));
  }

  quiet_arrival : (x : Network) → Still x → (n : ℕ) → Has n running → (m : ℕ) → (v : VolatileState)
      → Quiet (on_arrival q n (records_at x n) v (Some (about slot (Ask m))))
  unfolding on_arrival on_body
  quiet_arrival x s n h m v = go (is_in q.members m)
    where
      told : Quiet
          (telling n slot m (known_of slot (records_at x n)) (hears v (about slot (Ask m))))
      told = rw (known_none x s n h) (record { none = refl; asks = no_sends })

      go : (t : Bool)
          → Quiet (cond t
          (telling n slot m (known_of slot (records_at x n)) (hears v (about slot (Ask m))))
          (on_arrival q n (records_at x n) v None))
      go true = told
      go false = record { none = refl; asks = no_sends }

  -- ---- a calm event

  opened_still : (x : Network) → Still x → (n : ℕ)
      → Still (became x n (record { records = records_at x n; mode = Up new_volatile }) [])
  opened_still x s n =
      became_still x s n (record { records = records_at x n; mode = Up new_volatile }) [] refl
      no_sends

  starts_still : (x : Network) → Still x → (n : ℕ) (mode : Mode) → Still (starts x n mode).network
  starts_still x s n (Up v) = s
  starts_still x s n _ = opened_still x s n

  step_still : (x : Network) → Still x → (e : Event)
      → IsCalm running slot (length w.sent) x e → Still (happens q x e).network
  unfolding happens
  step_still x s (Start n) h = go (is_in q.members n)
    where
      go : (t : Bool) → Still (cond t (starts x n (x.sites n).mode) (nothing x)).network
      go true = starts_still x s n (x.sites n).mode
      go false = s
  step_still x s (networks.Propose n k fate) h =
      rw h.2 (rw h.1 (takes_still x s n (Proposes slot) (λ v is. quiet_propose x s n h.0 v)))
  step_still x s (networks.Recover n k fate) h =
      rw h.2 (rw h.1 (takes_still x s n (Recovers slot) (λ v is. quiet_recover x s n h.0 v)))
  step_still x s (networks.Ask n m k fate) h =
      rw h.3 (rw h.2 (takes_still x s n (Asks slot m) (λ v is. quiet_ask n m v)))
  step_still x s (Deliver number fate) h =
      let d = h.2.0 in
      let ask = s.asks number d h.0 h.2.1 in
      rw h.1 (rw h.2.1 (rw ask.1 (takes_still x s d.to (Arrives (Some (about slot (Ask ask.0))))
      (λ v is. quiet_arrival x s d.to h.2.2 ask.0 v))))
  step_still x s _ h = absurd h

  run_still : (events : List Event) (x : Network) → Still x
      → AreCalm q running slot (length w.sent) x events → Still (run q x events)
  unfolding run AreCalm
  run_still [] x s h = s
  run_still (e ∷ events) x s h = run_still events (happens q x e).network (step_still x s e h.0) h.1

  pub stays_unknown : StaysUnknown q w running slot
  stays_unknown events calm n h =
      known_none (run q w events)
      (run_still events w
      (record {
        records = λ n. refl;
        asks = λ number d l e. absurd (too_many number w.sent d l e);
      })
      calm)
      n h
