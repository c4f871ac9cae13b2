-- From a network some events lead on, in which nothing fails, to one where all that run know a bag.
use Rattle.std.proofs.Common.{◌⊎◌, ℕ, zero, suc, ◌≡◌, ◌≤◌, ◌<◌, ◌+◌, ◌*◌, Bool, true, false, ◌||◌}
use Rattle.std.proofs.Common.{cond, inl, inr, refl, sym, ap, ◌∙◌, List, [], ◌∷◌, ◌++◌, length}
use Rattle.std.proofs.Common.{Option, None, Some, append-nil, arith, length-append, eq-eqb}
use Rattle.std.specs.Bool.{◌==◌}
use Rattle.std.specs.Prelude.{IsSome, is_some, slice_get, ⊤}
use Rattle.std.specs.Option.{option_to_list}
use Rattle.std.proofs.lemmas.Bool.{cases_eq, ne_eqb}
use Rattle.fed_types.specs.declared.bag_id.BagId.{BagId}
use Rattle.fed_types.specs.Ballots.{BallotNumber}
use Rattle.fed_types.specs.Lists.{Has, here, there}
use Rattle.fed_types.specs.Quorums.{QuorumSystem}
use Rattle.fed_types.specs.Slots.{SlotName}
use Rattle.fed_types.specs.Laws.Lists.{is_in_decides, has_none}
use Rattle.records.specs.declared.entry.Entry.{Entry}
use Rattle.records.specs.declared.entry.Entry.TheVariants as entry
use Rattle.records.specs.declared.record.Record.{Record}
use Rattle.records.specs.SlotStates.{vote_of, deposit_of, known_of}
use Rattle.dgram.specs.declared.body.Body.{Body}
use Rattle.dgram.specs.declared.body.Body.TheVariants.{Prepare, Ask}
use Rattle.dgram.specs.Encoding.{body_from}
use Rattle.proposer.specs.Proposals.{next_ballot}
use Rattle.proposer.specs.VolatileStates.{VolatileState, new_volatile, hears, with_current}
use Rattle.schedule.specs.declared.fate.Fate.TheVariants.{Whole}
use Rattle.site.specs.Arrivals.{on_arrival, on_body}
use Rattle.site.specs.Calls.{Input, Proposes, Recovers, Asks, Arrives, effect_of, on_propose}
use Rattle.site.specs.Calls.{on_recover, on_ask, begins_ballot}
use Rattle.site.specs.Effects.{Effect, Send, record_of, to_each, commits_and_sends}
use Rattle.world_law.specs.Networks.{Mode, Up, Down, NeedsOpening, volatile_in, SiteState, Network}
use Rattle.world_law.specs.Networks.{Event, Deliver, Start, datagram_at, takes, starts, outcome}
use Rattle.world_law.specs.Networks.{happens, run}
use Rattle.world_law.specs.Networks as networks
use Rattle.reach_law.proofs.Words.{of_slot, about, to_site, to_each_has}
use Rattle.reach_law.specs.Running.{records_at, volatile_at, HasVoteOrDeposit}
use Rattle.reach_law.specs.Reach.{IsCalm, AreCalm}

-- ---- a site, and what was sent

abbrev pub IsUp : Network → ℕ → Type 0
IsUp w n = (w.sites n).mode ≡ Up (volatile_at w n)

-- it was sent, with a number above this
abbrev pub Fresh : ℕ → List Send → Send → Type 0
Fresh before sent d = (number : ℕ) × (before < number) × (datagram_at number sent ≡ Some d)

got_left : {X : Type 0} (xs ys : List X) (k : ℕ) (x : X) → slice_get xs k ≡ Some x
    → slice_get (xs ++ ys) k ≡ Some x
got_left [] ys k x e = absurd (cc e)
got_left (y ∷ xs) ys zero x e = e
got_left (y ∷ xs) ys (suc k) x e = got_left xs ys k x e

got_right : {X : Type 0} (xs ys : List X) (x : X) → Has x ys
    → (k : ℕ) × (length xs ≤ k) × (slice_get (xs ++ ys) k ≡ Some x)
got_right [] [] x h = elim h [ ]
got_right [] (y ∷ ys) x (here e) = (0, omega arith, ap Some e)
got_right [] (y ∷ ys) x (there h) =
    let r = got_right [] ys x h in (suc r.0, omega arith, r.2)
got_right (z ∷ xs) ys x h =
    let r = got_right xs ys x h in
    let l : length xs ≤ r.0 = r.1 in
    (suc r.0, omega arith, r.2)

pub numbered : (k : ℕ) (sent more : List Send) (d : Send) → datagram_at k sent ≡ Some d
    → datagram_at k (sent ++ more) ≡ Some d
numbered zero sent more d e = absurd (cc e)
numbered (suc k) sent more d e = got_left sent more k d e

got_cases : {X : Type 0} (xs ys : List X) (k : ℕ) (x : X) → slice_get (xs ++ ys) k ≡ Some x
    → (slice_get xs k ≡ Some x) ⊎ Has x ys
got_cases [] [] k x e = absurd (cc e)
got_cases [] (y ∷ ys) zero x e = let f : y ≡ x = cc in inr (here f)
got_cases [] (y ∷ ys) (suc k) x e = elim (got_cases [] ys k x e) [
  | inl f ↦ absurd (cc f)
  | inr h ↦ inr (there h)
]
got_cases (z ∷ xs) ys zero x e = inl e
got_cases (z ∷ xs) ys (suc k) x e = got_cases xs ys k x e

pub numbered_cases : (k : ℕ) (sent more : List Send) (d : Send)
    → datagram_at k (sent ++ more) ≡ Some d → (datagram_at k sent ≡ Some d) ⊎ Has d more
numbered_cases zero sent more d e = absurd (cc e)
numbered_cases (suc k) sent more d e = got_cases sent more k d e

pub fresh_stays : (before : ℕ) (sent more : List Send) (d : Send) → Fresh before sent d
    → Fresh before (sent ++ more) d
fresh_stays before sent more d f = (f.0, f.1, numbered f.0 sent more d f.2)

pub fresh_new : (before : ℕ) (sent more : List Send) (d : Send) → before ≤ length sent
    → Has d more → Fresh before (sent ++ more) d
fresh_new before sent more d l h =
    let r = got_right sent more d h in
    let k : length sent ≤ r.0 = r.1 in
    (suc r.0, omega arith, r.2)

-- ---- one site takes something, and goes on

abbrev pub went : Network → ℕ → List Record → Mode → List Send → Network
went w n records mode sends = record {
  sites = λ k. cond (k == n) (record { records = records; mode = mode }) (w.sites k);
  sent = w.sent ++ sends;
}

pub record Took
    (w : Network) (n : ℕ) (commits : Option Record) (volatile : VolatileState) (sends : List Send)
    (x : Network)
    : Type 0 where
  pub records : records_at x n ≡ records_at w n ++ option_to_list commits
  pub volatile_is : volatile_at x n ≡ volatile
  pub up : IsUp x n
  pub other : (k : ℕ) → (k ≡ n → ⊥) → x.sites k ≡ w.sites k
  pub sent : x.sent ≡ w.sent ++ sends

module _ (w : Network) (n : ℕ) (records : List Record) (mode : Mode) (sends : List Send) where
  abbrev made : SiteState
  made = record { records = records; mode = mode }

  at_itself : (went w n records mode sends).sites n ≡ made
  at_itself = rw (eq-eqb n n refl) refl

  at_other : (k : ℕ) → (k ≡ n → ⊥) → (went w n records mode sends).sites k ≡ w.sites k
  at_other k differ = rw (ne_eqb k n differ) refl

took : (w : Network) (n : ℕ) (commits : Option Record) (volatile : VolatileState)
    (sends : List Send)
    → Took w n commits volatile sends
    (went w n (records_at w n ++ option_to_list commits) (Up volatile) sends)
took w n commits volatile sends =
    let rs = records_at w n ++ option_to_list commits in
    let it = at_itself w n rs (Up volatile) sends in
    record {
      records = ap (λ (s : SiteState). s.records) it;
      volatile_is = ap (λ (s : SiteState). volatile_in s.mode) it;
      up = rw (it, volatile_at) refl;
      other = at_other w n rs (Up volatile) sends;
      sent = refl;
    }

-- what is so of a site's records stays so, where it does at site n
pub took_stay : (P : List Record → Type 0) {w : Network} {n : ℕ} {commits : Option Record}
    {volatile : VolatileState} {sends : List Send} {x : Network}
    → Took w n commits volatile sends x
    → (P (records_at w n) → P (records_at w n ++ option_to_list commits))
    → (k : ℕ) → P (records_at w k) → P (records_at x k)
took_stay P {w} {n} {x = x} t stays k old = elim (cases_eq k n) [
  | inl same ↦ rw same (rw t.records (stays (rw (← same) old)))
  | inr differ ↦ rw (t.other k differ, records_at) old
]

-- the same of its volatile state
pub took_volatile : (P : VolatileState → Type 0) {w : Network} {n : ℕ} {commits : Option Record}
    {volatile : VolatileState} {sends : List Send} {x : Network}
    → Took w n commits volatile sends x → (P (volatile_at w n) → P volatile)
    → (k : ℕ) → P (volatile_at w k) → P (volatile_at x k)
took_volatile P {w} {n} {x = x} t stays k old = elim (cases_eq k n) [
  | inl same ↦ rw same (rw t.volatile_is (stays (rw (← same) old)))
  | inr differ ↦ rw (t.other k differ) old
]

module _ {w : Network} {n : ℕ} {commits : Option Record} {volatile : VolatileState}
    {sends : List Send} {x : Network} (t : Took w n commits volatile sends x) where
  pub took_up : (k : ℕ) → IsUp w k → IsUp x k
  took_up k old = elim (cases_eq k n) [
    | inl same ↦ rw same t.up
    | inr differ ↦ rw (t.other k differ) old
  ]

  pub took_later : (before : ℕ) → before ≤ length w.sent → before ≤ length x.sent
  took_later before l = rw t.sent (omega (arith, length-append w.sent sends))

  pub took_fresh : (before : ℕ) (d : Send) → Fresh before w.sent d → Fresh before x.sent d
  took_fresh before d f = rw t.sent (fresh_stays before w.sent sends d f)

  pub took_new : (before : ℕ) (d : Send) → before ≤ length w.sent → Has d sends
      → Fresh before x.sent d
  took_new before d l h = rw t.sent (fresh_new before w.sent sends d l h)

-- a site is opened, or was up
pub record Opened (w : Network) (n : ℕ) (x : Network) : Type 0 where
  pub up : IsUp x n
  pub stays : (k : ℕ) → IsUp w k → IsUp x k
  pub records : (k : ℕ) → records_at x k ≡ records_at w k
  pub volatile : (k : ℕ) → volatile_at x k ≡ volatile_at w k
  pub sent : x.sent ≡ w.sent

-- ---- how many events

-- so many for each, and then these
abbrev pub spent : ℕ → List ℕ → ℕ → ℕ
spent cost [] k = k
spent cost (n ∷ ns) k = cost + spent cost ns k

pub spent_is : (cost : ℕ) (ns : List ℕ) (k : ℕ) → spent cost ns k ≡ cost * length ns + k
spent_is cost [] k = omega arith
spent_is cost (n ∷ ns) k = omega (arith, spent_is cost ns k)

-- a site with a vote or a deposit may recover
has_one_of : (s t : Bool) → (s ≡ true) ⊎ (t ≡ true) → (s || t) ≡ true
has_one_of true t h = refl
has_one_of false t (inl h) = absurd (cc h)
has_one_of false t (inr h) = h

-- a client can bring this about: no proposal; and a question of a site that doesn't know the bag,
-- to another one
abbrev pub IsBrought : SlotName → Network → Event → Type 0
IsBrought slot w (networks.Propose n s fate) = ⊥
IsBrought slot w (networks.Ask n m s fate) = (known_of slot (records_at w n) ≡ None) × (n ≡ m → ⊥)
IsBrought slot w e = ⊤

-- each of them, one after another
unfoldable pub AreBrought : QuorumSystem → SlotName → Network → List Event → Type 0
AreBrought q slot w [] = ⊤
AreBrought q slot w (e ∷ events) =
    IsBrought slot w e × AreBrought q slot (happens q w e).network events

module _ (q : QuorumSystem) (running : List ℕ) (slot : SlotName) (before : ℕ) where
  has_either : (rs : List Record) → HasVoteOrDeposit slot rs
      → (is_some (vote_of slot rs) || is_some (deposit_of slot rs)) ≡ true
  has_either rs h = has_one_of (is_some (vote_of slot rs)) (is_some (deposit_of slot rs)) h

  pub record Leads (w : Network) (most : ℕ) : Type 0 where
    pub events : List Event
    pub few : length events ≤ most
    pub calm : AreCalm q running slot before w events
    pub brought : AreBrought q slot w events
    pub known : (n : ℕ) → Has n running → IsSome (known_of slot (records_at (run q w events) n))

  pub leads_more : (w : Network) (k l : ℕ) → k ≤ l → Leads w k → Leads w l
  leads_more w k l more r = record {
    events = r.events;
    few = let few = r.few in omega arith;
    calm = r.calm;
    brought = r.brought;
    known = r.known;
  }

  pub leads_now : (w : Network)
      → ((n : ℕ) → Has n running → IsSome (known_of slot (records_at w n))) → Leads w 0
  unfolding run AreCalm AreBrought
  leads_now w known =
      record { events = []; few = omega arith; calm = tt; brought = tt; known = known }

  pub leads_after : (w : Network) (e : Event) (k : ℕ) → IsCalm running slot before w e
      → IsBrought slot w e → Leads (happens q w e).network k → Leads w (1 + k)
  unfolding run AreCalm AreBrought
  leads_after w e k calm brought r = record {
    events = e ∷ r.events;
    few = let few = r.few in omega arith;
    calm = (calm, r.calm);
    brought = (brought, r.brought);
    known = r.known;
  }

  -- ---- each of those that run, in turn

  module _ (Inv : Network → Type 0) (D : ℕ → Network → Type 0) (cost : ℕ)
      (visit : (n : ℕ) → Has n running → (w : Network) → Inv w → (k : ℕ)
      → ((x : Network) → Inv x → D n x → ((m : ℕ) → Has m running → D m w → D m x) → Leads x k)
      → Leads w (cost + k)) where
    pub each : (ns : List ℕ) → ((n : ℕ) → Has n ns → Has n running) → (w : Network) → Inv w
        → (k : ℕ)
        → ((x : Network) → Inv x → ((n : ℕ) → Has n ns → D n x)
        → ((m : ℕ) → Has m running → D m w → D m x) → Leads x k)
        → Leads w (spent cost ns k)
    each [] among w inv k next = next w inv (λ n h. absurd (has_none h)) (λ m h d. d)
    each (n ∷ ns) among w inv k next =
        visit n (among n (here refl)) w inv (spent cost ns k)
        (λ x kept done stays.
        each ns (λ m h. among m (there h)) x kept k
        (λ y kept' rest stays'.
        next y kept'
        (λ m h. first y (stays' n (among n (here refl)) done) rest m h)
        (λ m h d. stays' m h (stays m h d))))
      where
        first : (y : Network) → D n y → ((m : ℕ) → Has m ns → D m y) → (m : ℕ)
            → Has m (n ∷ ns) → D m y
        first y d rest m (here e) = rw (← e) d
        first y d rest m (there h) = rest m h

  -- ---- an event

  module _ (members : (n : ℕ) → Has n running → Has n q.members) where
    pub takes_whole : (w : Network) (n : ℕ) (input : Input) (e : Effect) → Has n running → IsUp w n
        → effect_of q n (records_at w n) (volatile_at w n) input ≡ e
        → (takes q w n input Whole).network
        ≡ went w n (records_at w n ++ option_to_list e.commits) (Up e.volatile) e.sends
    unfolding outcome
    takes_whole w n input e h up is = rw ((is_in_decides q.members n).1 (members n h), up, is) refl

    leads_to : (w : Network) (n : ℕ) (event : Event) (e : Effect) (k : ℕ)
        → IsCalm running slot before w event → IsBrought slot w event → (happens q w event).network
        ≡ went w n (records_at w n ++ option_to_list e.commits) (Up e.volatile) e.sends
        → ((x : Network) → Took w n e.commits e.volatile e.sends x → Leads x k) → Leads w (1 + k)
    leads_to w n event e k calm brought same next =
        leads_after w event k calm brought
        (rw same (next _ (took w n e.commits e.volatile e.sends)))

    -- the datagram of a number arrives, of a member
    delivered : (w : Network) (n from : ℕ) (body : Body) (e : Effect) (number : ℕ)
        → Has n running → IsUp w n → datagram_at number w.sent ≡ Some (to_site n slot body)
        → body_from body ≡ Some from → Has from q.members
        → on_body q n (records_at w n) (volatile_at w n) (hears (volatile_at w n) (about slot body))
        slot body ≡ e
        → (happens q w (Deliver number Whole)).network
        ≡ went w n (records_at w n ++ option_to_list e.commits) (Up e.volatile) e.sends
    unfolding happens on_arrival
    delivered w n from body e number h up at by member is =
        rw at (takes_whole w n (Arrives (Some (about slot body))) e h up
        (rw (by, (is_in_decides q.members from).1 member) is))

    pub deliver_leads : (w : Network) (n from : ℕ) (body : Body) (e : Effect) (k : ℕ)
        → Has n running → IsUp w n → Fresh before w.sent (to_site n slot body)
        → body_from body ≡ Some from → Has from q.members
        → on_body q n (records_at w n) (volatile_at w n) (hears (volatile_at w n) (about slot body))
        slot body ≡ e
        → ((x : Network) → Took w n e.commits e.volatile e.sends x → Leads x k) → Leads w (1 + k)
    deliver_leads w n from body e k h up fresh by member is next =
        leads_to w n (Deliver fresh.0 Whole) e k
        (fresh.1, refl, (to_site n slot body, fresh.2, h)) tt
        (delivered w n from body e fresh.0 h up fresh.2 by member is) next

    pub deliver_took : (w : Network) (n from : ℕ) (body : Body) (e : Effect) (number : ℕ)
        → Has n running → IsUp w n → datagram_at number w.sent ≡ Some (to_site n slot body)
        → body_from body ≡ Some from → Has from q.members
        → on_body q n (records_at w n) (volatile_at w n) (hears (volatile_at w n) (about slot body))
        slot body ≡ e
        → Took w n e.commits e.volatile e.sends (happens q w (Deliver number Whole)).network
    deliver_took w n from body e number h up at by member is =
        rw (delivered w n from body e number h up at by member is)
        (took w n e.commits e.volatile e.sends)

    -- what a datagram asks of a site, it answers to the one that asked
    pub answered_leads : (w : Network) (n p : ℕ) (asking answer : Body) (kept : Option Entry)
        (to : List ℕ) (k : ℕ)
        → Has n running → Has p running → IsUp w n → IsUp w p → before ≤ length w.sent
        → Fresh before w.sent (to_site n slot asking)
        → body_from asking ≡ Some p → body_from answer ≡ Some n → Has p to
        → on_body q n (records_at w n) (volatile_at w n)
        (hears (volatile_at w n) (about slot asking)) slot asking
        ≡ commits_and_sends slot kept answer to (hears (volatile_at w n) (about slot asking))
        → ((x : Network)
        → Took w n (record_of slot kept) (hears (volatile_at w n) (about slot asking))
        (to_each slot answer to) x
        → (e : Effect)
        × (on_body q p (records_at x p) (volatile_at x p)
        (hears (volatile_at x p) (about slot answer)) slot answer ≡ e)
        × ((y : Network) → Took x p e.commits e.volatile e.sends y → Leads y k))
        → Leads w (2 + k)
    answered_leads w n p asking answer kept to k h h' up up' later fresh by by' among is next =
        leads_more w (1 + (1 + k)) (2 + k) (omega arith)
        (deliver_leads w n p asking
        (commits_and_sends slot kept answer to (hears (volatile_at w n) (about slot asking)))
        (1 + k) h up fresh by (members p h') is
        (λ x t.
        let then = next x t in
        deliver_leads x p n answer then.0 k h' (took_up t p up')
        (took_new t before _ later (to_each_has slot answer to p among)) by' (members n h)
        then.1 then.2))

    -- a site has proposed
    pub propose_took : (w : Network) (n : ℕ) (b : BallotNumber) (own : BagId)
        → Has n running → IsUp w n → known_of slot (records_at w n) ≡ None
        → deposit_of slot (records_at w n) ≡ Some own
        → next_ballot n slot (records_at w n) (volatile_at w n).heard ≡ Some b
        → Took w n (Some (of_slot slot (entry.Round b.round)))
        (with_current (volatile_at w n) slot b) (to_each slot (Prepare b) q.members)
        (happens q w (networks.Propose n slot Whole)).network
    unfolding happens on_propose
    propose_took w n b own h up unknown deposit left =
        rw (takes_whole w n (Proposes slot) (begins_ballot q slot b (volatile_at w n)) h up
        begins) (took w n (Some (of_slot slot (entry.Round b.round)))
        (with_current (volatile_at w n) slot b) (to_each slot (Prepare b) q.members))
      where
        begins : on_propose q n (records_at w n) (volatile_at w n) slot
            ≡ begins_ballot q slot b (volatile_at w n)
        begins = rw (unknown, deposit, left) refl

    -- a site recovers
    pub recover_leads : (w : Network) (n : ℕ) (b : BallotNumber) (k : ℕ)
        → Has n running → IsUp w n → known_of slot (records_at w n) ≡ None
        → HasVoteOrDeposit slot (records_at w n)
        → next_ballot n slot (records_at w n) (volatile_at w n).heard ≡ Some b
        → ((x : Network)
        → Took w n (Some (of_slot slot (entry.Round b.round)))
        (with_current (volatile_at w n) slot b) (to_each slot (Prepare b) q.members) x
        → Leads x k)
        → Leads w (1 + k)
    unfolding happens on_recover
    recover_leads w n b k h up unknown has left next =
        leads_to w n (networks.Recover n slot Whole)
        (begins_ballot q slot b (volatile_at w n)) k (h, refl, refl) tt
        (takes_whole w n (Recovers slot) (begins_ballot q slot b (volatile_at w n)) h up begins)
        next
      where
        begins : on_recover q n (records_at w n) (volatile_at w n) slot
            ≡ begins_ballot q slot b (volatile_at w n)
        begins = rw (unknown, has_either (records_at w n) has, left) refl

    -- a site that doesn't know the bag asks another
    pub ask_leads : (w : Network) (n m k : ℕ) → Has n running → Has m running → IsUp w n
        → known_of slot (records_at w n) ≡ None → (n ≡ m → ⊥)
        → ((x : Network) → Took w n None (volatile_at w n) (to_each slot (Ask n) (m ∷ [])) x
        → Leads x k)
        → Leads w (1 + k)
    unfolding happens on_ask
    ask_leads w n m k h h' up unknown other next =
        leads_to w n (networks.Ask n m slot Whole)
        (commits_and_sends slot None (Ask n) (m ∷ []) (volatile_at w n)) k (h, h', refl, refl)
        (unknown, other)
        (takes_whole w n (Asks slot m)
        (commits_and_sends slot None (Ask n) (m ∷ []) (volatile_at w n)) h up asks) next
      where
        asks : on_ask n (volatile_at w n) slot m
            ≡ commits_and_sends slot None (Ask n) (m ∷ []) (volatile_at w n)
        asks = refl

    -- a site that isn't up is opened
    module _ (w : Network) (n : ℕ) where
      abbrev open_now : Network
      open_now = went w n (records_at w n) (Up new_volatile) []

      is_opened : volatile_at w n ≡ new_volatile → Opened w n open_now
      is_opened lost =
          let t : Took w n None new_volatile [] open_now =
          rw (← append-nil (records_at w n)) (took w n None new_volatile []) in
          record {
            up = t.up;
            stays = took_up t;
            records = λ k.
                took_stay (λ (rs : List Record). rs ≡ records_at w k) t
                (λ e. append-nil (records_at w n) ∙ e) k refl;
            volatile = λ k.
                took_volatile (λ (v : VolatileState). v ≡ volatile_at w k) t
                (λ e. sym lost ∙ e) k refl;
            sent = append-nil w.sent;
          }

      pub open_leads : (k : ℕ) → Has n running
          → ((x : Network) → Opened w n x → Leads x k) → Leads w (1 + k)
      unfolding happens
      open_leads k h next = go (w.sites n).mode refl
        where
          opening : (mode : Mode) → (w.sites n).mode ≡ mode
              → (starts w n mode).network ≡ open_now → volatile_in mode ≡ new_volatile
              → Leads w (1 + k)
          opening mode is same lost =
              leads_after w (Start n) k h tt
              (rw ((is_in_decides q.members n).1 (members n h), is, same)
              (next open_now (is_opened (ap volatile_in is ∙ lost))))

          go : (mode : Mode) → (w.sites n).mode ≡ mode → Leads w (1 + k)
          go (Up volatile) is =
              leads_more w k (1 + k) (omega arith)
              (next w (record {
                up = is ∙ sym (ap (λ (m : Mode). Up (volatile_in m)) is);
                stays = λ k old. old;
                records = λ k. refl;
                volatile = λ k. refl;
                sent = refl;
              }))
          go Down is = opening Down is refl refl
          go NeedsOpening is = opening NeedsOpening is refl refl
