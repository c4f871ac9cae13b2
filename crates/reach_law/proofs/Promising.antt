-- A site recovers in a ballot above all that was promised: those that run promise it, and the site
-- asks for votes.
use Rattle.std.proofs.Common.{ℕ, ◌≡◌, ◌≤◌, ◌+◌, ◌⊎◌, Bool, true, false, cond, inl, inr, refl, sym}
use Rattle.std.proofs.Common.{ap, subst, ◌∙◌, List, [], ◌∷◌, ◌++◌, length, Option, None, Some}
use Rattle.std.proofs.Common.{append-nil, arith}
use Rattle.std.specs.Prelude.{IsSome}
use Rattle.std.proofs.lemmas.List.{drop_all}
use Rattle.std.proofs.lemmas.Bool.{cases_eq}
use Rattle.fed_types.specs.declared.bag_id.BagId.{BagId}
use Rattle.fed_types.specs.declared.vote.Vote.{Vote}
use Rattle.fed_types.specs.Ballots.{BallotNumber, Below}
use Rattle.fed_types.specs.Lists.{Has, here, there}
use Rattle.fed_types.specs.Quorums.{QuorumSystem, IsQuorum, AreQuorums}
use Rattle.fed_types.specs.Slots.{SlotName}
use Rattle.fed_types.specs.Laws.Ballots.{same_ballot_decides}
use Rattle.fed_types.specs.Laws.Lists.{has_none, has_left, has_right, map_has}
use Rattle.fed_types.specs.Laws.Slots.{same_slot_decides}
use Rattle.records.specs.declared.entry.Entry.TheVariants as entry
use Rattle.records.specs.declared.record.Record.{Record}
use Rattle.records.specs.SlotStates.{vote_in, promised_of, vote_of, deposit_of, known_of}
use Rattle.dgram.specs.declared.body.Body.{Body}
use Rattle.dgram.specs.Heard.{promise_in, bodies_of, promises_for, PromiseFrom, promisers}
use Rattle.dgram.specs.declared.body.Body.TheVariants.{Prepare, Promise, Accept}
use Rattle.proposer.specs.Proposals.{Current, gathered, highest_prior, bag_of, completes, proposal}
use Rattle.proposer.specs.Proposals.{ready}
use Rattle.proposer.specs.VolatileStates.{VolatileState, hears, with_current}
use Rattle.site.specs.Arrivals.{proposing, on_body}
use Rattle.site.specs.Effects.{Effect, Send, to_each, commits_and_sends}
use Rattle.world_law.specs.Networks.{Network}
use Rattle.world_law.proofs.Heard.{gathered_promise, gathered_stays, highest_prior_is}
use Rattle.reach_law.proofs.Words.{not_completed, of_slot, said_self, vote_silent, some_of}
use Rattle.reach_law.proofs.Words.{deposit_stays, has_stays, promised_now, vote_below, about}
use Rattle.reach_law.proofs.Words.{gathered_quiet, longer, to_site, to_each_has}
use Rattle.reach_law.proofs.Leads.{IsUp, Fresh, Took, took_stay, took_volatile, took_up, took_later}
use Rattle.reach_law.proofs.Leads.{took_fresh, took_new, spent, spent_is, Leads, each, leads_more}
use Rattle.reach_law.proofs.Leads.{answered_leads, recover_leads}
use Rattle.reach_law.proofs.Discovering.{sending, promise_if, last, Seen, Room, ballot, next_is}
use Rattle.reach_law.proofs.Discovering.{begun_asked, begun_has, begun_promised}
use Rattle.reach_law.specs.Running.{AreMembers, records_at, volatile_at, HasVoteOrDeposit}

-- one of a list, and the others
record Front (x : ℕ) (xs : List ℕ) : Type 0 where
  rest : List ℕ
  count : length xs ≡ 1 + length rest
  among : (n : ℕ) → Has n rest → Has n xs
  cases : (n : ℕ) → Has n xs → (n ≡ x) ⊎ Has n rest

front : {x : ℕ} (xs : List ℕ) → Has x xs → Front x xs
front {x} (y ∷ xs) (here e) = record {
  rest = xs;
  count = omega arith;
  among = λ n h. there h;
  cases = cases;
}
  where
    cases : (n : ℕ) → Has n (y ∷ xs) → (n ≡ x) ⊎ Has n xs
    cases n (here f) = inl (cc (e, f))
    cases n (there h) = inr h
front {x} (y ∷ xs) (there h) =
    let f = front xs h in
    record {
      rest = y ∷ f.rest;
      count = omega (arith, f.count);
      among = among f;
      cases = cases f;
    }
  where
    among : (f : Front x xs) (n : ℕ) → Has n (y ∷ f.rest) → Has n (y ∷ xs)
    among f n (here e) = here e
    among f n (there h) = there (f.among n h)

    cases : (f : Front x xs) (n : ℕ) → Has n (y ∷ xs) → (n ≡ x) ⊎ Has n (y ∷ f.rest)
    cases f n (here e) = inr (here e)
    cases f n (there h) = elim (f.cases n h) [
      | inl same ↦ inl same
      | inr rest ↦ inr (there rest)
    ]
front [] h = absurd (has_none h)

-- a body that is no promise leaves what a site has gathered
pub gathered_same : (slot : SlotName) (c : Current) (p : ℕ) (body : Body) {w x : Network} {n : ℕ}
    {commits : Option Record} {sends : List Send}
    → Took w n commits (hears (volatile_at w n) (about slot body)) sends x
    → c.heard_before ≤ length (volatile_at w p).heard → promise_in c.ballot body ≡ None
    → gathered slot c (volatile_at x p).heard ≡ gathered slot c (volatile_at w p).heard
gathered_same slot c p body {w} {x} {n} t within none =
    (took_volatile
    (λ (s : VolatileState).
    (c.heard_before ≤ length s.heard)
    × (gathered slot c s.heard ≡ gathered slot c (volatile_at w p).heard)) t
    (λ l. (
      longer (volatile_at w n).heard (about slot body) c.heard_before l.0,
      gathered_quiet slot (volatile_at w n).heard body c l.0 none ∙ l.1,
    ))
    p (within, refl)).1

abbrev pub vote_for : BallotNumber → BagId → Vote
vote_for b bag = record { ballot = b; bag = bag }

module _ (q : QuorumSystem) (laws : AreQuorums q) (running : List ℕ) (slot : SlotName) (before : ℕ)
    (members : AreMembers q running) (quorum : IsQuorum q running) (p : ℕ) (runs : Has p running)
    (b : BallotNumber) (mine : b.site ≡ p) (old : ℕ) where
  abbrev pub current : Current
  current = record { ballot = b; heard_before = old }

  abbrev pub gathered_at : Network → List PromiseFrom
  gathered_at w = gathered slot current (volatile_at w p).heard

  -- a member has promised no ballot up to this one
  abbrev pub Waits : ℕ → Network → Type 0
  Waits n w = (a : BallotNumber) → promised_of slot (records_at w n) ≡ Some a → Below a b

  -- it has promised it, has voted in none up to it, and the site has heard so
  pub record HasPromised (n : ℕ) (w : Network) : Type 0 where
    pub promised : promised_of slot (records_at w n) ≡ Some b
    pub lower : (v : Vote) → vote_of slot (records_at w n) ≡ Some v → Below v.ballot b
    pub heard : Has n (promisers (gathered_at w))

  -- all that run are asked to vote for a bag in it
  pub record VotesAsked (w : Network) : Type 0 where
    pub bag : BagId
    pub asked : (n : ℕ) → Has n running
        → Fresh before w.sent (to_site n slot (Accept (vote_for b bag)))

  pub record Gathering (w : Network) : Type 0 where
    pub up : (n : ℕ) → Has n running → IsUp w n
    pub later : before ≤ length w.sent
    pub has : HasVoteOrDeposit slot (records_at w p)
    pub asked : (n : ℕ) → Has n running → Fresh before w.sent (to_site n slot (Prepare b))
    pub is_current : (volatile_at w p).current slot ≡ Some current
    pub within : old ≤ length (volatile_at w p).heard
    pub each_one : (n : ℕ) → Has n running → Waits n w ⊎ HasPromised n w
    pub ready : IsQuorum q (promisers (gathered_at w)) → VotesAsked w

  -- ---- a promise more

  module _ {w x y : Network} {n : ℕ} {sends sends' : List Send} (v : Option Vote)
      (g : Gathering w) (waits : Waits n w)
      (t : Took w n (Some (of_slot slot (entry.Promise b)))
      (hears (volatile_at w n) (about slot (Prepare b))) sends x)
      (u : Took x p None (hears (volatile_at x p) (about slot (Promise n b v))) sends' y) where
    abbrev from : PromiseFrom
    from = record { site = n; prior = v }

    same_records : (P : List Record → Type 0) (k : ℕ) → P (records_at x k) → P (records_at y k)
    same_records P k = took_stay P u (λ h. subst P (sym (append-nil (records_at x p))) h) k

    within_then : old ≤ length (volatile_at x p).heard
    within_then =
        took_volatile (λ (s : VolatileState). old ≤ length s.heard) t
        (λ l. longer (volatile_at w n).heard (about slot (Prepare b)) old l) p g.within

    gathered_then : gathered_at x ≡ gathered_at w
    gathered_then = gathered_same slot current p (Prepare b) t g.within refl

    gathered_now : gathered_at y ≡ gathered_at w ++ from ∷ []
    gathered_now =
        rw (
          u.volatile_is,
          gathered_promise slot current (volatile_at x p).heard n v within_then,
          gathered_then,
        ) refl

    heard_stays : (m : ℕ) → Has m (promisers (gathered_at w)) → Has m (promisers (gathered_at y))
    heard_stays m has =
        rw u.volatile_is
        (gathered_stays slot current (volatile_at x p).heard (about slot (Promise n b v))
        within_then m
        (rw gathered_then has))

    heard_now : Has n (promisers (gathered_at y))
    unfolding promisers
    heard_now =
        rw gathered_now (map_has (λ (p : PromiseFrom). p.site) {x = from}
        (has_right (gathered_at w) (here refl)))

    other_records : (P : List Record → Type 0) (m : ℕ) → (m ≡ n → ⊥) → P (records_at w m)
        → P (records_at y m)
    other_records P m differ old_one = same_records P m (rw (t.other m differ, records_at) old_one)

    promises_now : HasPromised n y
    promises_now = record {
      promised =
          same_records (λ (rs : List Record). promised_of slot rs ≡ Some b) n
          (ap (promised_of slot) t.records ∙ promised_now slot (records_at w n) b waits);
      lower =
          same_records
          (λ (rs : List Record).
          (v : Vote) → vote_of slot rs ≡ Some v → Below v.ballot b) n
          (λ v e.
          vote_below slot (records_at w n) b waits v
          (sym (ap (vote_of slot) t.records
          ∙ vote_silent slot (records_at w n) (Some (of_slot slot (entry.Promise b)))
          (said_self vote_in slot (entry.Promise b))) ∙ e));
      heard = heard_now;
    }

    promises_stay : (m : ℕ) → Has m running → HasPromised m w → HasPromised m y
    promises_stay m h' old_one = elim (cases_eq m n) [
      | inl same ↦ rw same promises_now
      | inr differ ↦ record {
        promised =
            other_records (λ (rs : List Record). promised_of slot rs ≡ Some b) m differ
            old_one.promised;
        lower =
            other_records
            (λ (rs : List Record).
            (v : Vote) → vote_of slot rs ≡ Some v → Below v.ballot b) m differ old_one.lower;
        heard = heard_stays m old_one.heard;
      }
    ]

    each_stays : (m : ℕ) → Has m running → Waits m y ⊎ HasPromised m y
    each_stays m h' = elim (cases_eq m n) [
      | inl same ↦ inr (rw same promises_now)
      | inr differ ↦ elim (g.each_one m h') [
        | inl still ↦ inl (
            other_records
            (λ (rs : List Record).
            (a : BallotNumber) → promised_of slot rs ≡ Some a → Below a b) m differ still)
        | inr done ↦ inr (promises_stay m h' done)
      ]
    ]

    asked_stays : VotesAsked w → VotesAsked y
    asked_stays a = record {
      bag = a.bag;
      asked = λ m h'. took_fresh u before _ (took_fresh t before _ (a.asked m h'));
    }

    gathering_stays : (IsQuorum q (promisers (gathered_at w ++ from ∷ [])) → VotesAsked y)
        → Gathering y
    gathering_stays asks = record {
      up = λ m h'. took_up u m (took_up t m (g.up m h'));
      later = took_later u before (took_later t before g.later);
      has =
          same_records (HasVoteOrDeposit slot) p
          (took_stay (HasVoteOrDeposit slot) t
          (λ h. has_stays slot (records_at w n) h (Some (of_slot slot (entry.Promise b)))) p
          g.has);
      asked = λ m h'. took_fresh u before _ (took_fresh t before _ (g.asked m h'));
      is_current =
          took_volatile (λ (s : VolatileState). s.current slot ≡ Some current) u (λ e. e) p
          (took_volatile (λ (s : VolatileState). s.current slot ≡ Some current) t (λ e. e) p
          g.is_current);
      within =
          took_volatile (λ (s : VolatileState). old ≤ length s.heard) u
          (λ l. longer (volatile_at x p).heard (about slot (Promise n b v)) old l) p within_then;
      each_one = each_stays;
      ready = λ e. asks (rw (← gathered_now) e);
    }

  -- ---- what the site makes of it

  -- there is a bag to propose: a deposit, or that of a vote that promises name
  abbrev pub HasBag : Option BagId → List PromiseFrom → Type 0
  HasBag own promises = IsSome own ⊎ IsSome (highest_prior promises)

  abbrev pub HasBagAt : Network → Type 0
  HasBagAt w = HasBag (deposit_of slot (records_at w p)) (gathered_at w)

  bag_is : (own : Option BagId) (best : Option Vote) → IsSome own ⊎ IsSome best
      → (bag : BagId) × (bag_of best own ≡ Some bag)
  bag_is own (Some v) h = (v.bag, refl)
  bag_is own None (inl some) = some_of own some
  bag_is own None (inr none) = absurd (cc none)

  module _ (n : ℕ) (h : Has n running) (w : Network) (g : Gathering w) (waits : Waits n w)
      (k : ℕ)
      (bag : (x : Network)
      → Took w n (Some (of_slot slot (entry.Promise b)))
      (hears (volatile_at w n) (about slot (Prepare b)))
      (to_each slot (Promise n b (vote_of slot (records_at w n))) (p ∷ [])) x
      → HasBag (deposit_of slot (records_at x p))
      (gathered_at w ++ record { site = n; prior = vote_of slot (records_at w n) } ∷ []))
      (next : (y : Network) → Gathering y → HasBagAt y → HasPromised n y
      → ((m : ℕ) → Has m running → HasPromised m w → HasPromised m y)
      → Leads q running slot before y k) where
    abbrev v : Option Vote
    v = vote_of slot (records_at w n)

    abbrev from_n : PromiseFrom
    from_n = record { site = n; prior = v }

    abbrev heard_at : Network → VolatileState
    heard_at x = hears (volatile_at x p) (about slot (Promise n b v))

    abbrev First : Network → Type 0
    First x =
        Took w n (Some (of_slot slot (entry.Promise b)))
        (hears (volatile_at w n) (about slot (Prepare b)))
        (to_each slot (Promise n b v) (p ∷ [])) x

    ready_is : (x : Network) → First x → (t : Bool) → completes q (gathered_at x) from_n ≡ t
        → ready q (deposit_of slot (records_at x p)) slot ((volatile_at x p).current slot)
        (volatile_at x p).heard b from_n
        ≡ cond t (bag_of (highest_prior (gathered_at x ++ from_n ∷ []))
        (deposit_of slot (records_at x p))) None
    unfolding proposal
    ready_is x t c e =
        rw (
          took_volatile (λ (s : VolatileState). s.current slot ≡ Some current) t (λ e. e) p
              g.is_current,
          (same_ballot_decides b b).1 refl,
          e,
        ) refl

    -- there is a bag once this promise is heard
    bag_then : (x : Network) → First x
        → HasBag (deposit_of slot (records_at x p)) (gathered_at x ++ from_n ∷ [])
    bag_then x t = rw (gathered_same slot current p (Prepare b) t g.within refl) (bag x t)

    bag_now : (x y : Network) (sends : List Send) → (t : First x)
        → Took x p None (heard_at x) sends y → HasBagAt y
    bag_now x y sends t u =
        rw (gathered_now v g waits t u)
        (same_records v g waits t u
        (λ (rs : List Record). HasBag (deposit_of slot rs) (gathered_at w ++ from_n ∷ [])) p
        (bag x t))

    abbrev Continues : Network → Type 0
    Continues x =
        (e : Effect)
        × (on_body q p (records_at x p) (volatile_at x p)
        (hears (volatile_at x p) (about slot (Promise n b v))) slot (Promise n b v) ≡ e)
        × ((y : Network) → Took x p e.commits e.volatile e.sends y
        → Leads q running slot before y k)

    then : (x : Network) → Took w n (Some (of_slot slot (entry.Promise b)))
        (hears (volatile_at w n) (about slot (Prepare b)))
        (to_each slot (Promise n b v) (p ∷ [])) x
        → (t : Bool) → completes q (gathered_at x) (record { site = n; prior = v }) ≡ t
        → Continues x
    unfolding on_body
    then x t true e =
        let f =
        bag_is (deposit_of slot (records_at x p)) (highest_prior (gathered_at x ++ from_n ∷ []))
        (bag_then x t) in (
          commits_and_sends slot None (Accept (vote_for b f.0)) q.members (heard_at x),
          ap (λ (o : Option BagId). proposing q slot b o (heard_at x)) (ready_is x t true e ∙ f.1),
          λ y u.
              next y
              (gathering_stays v g waits t u
              (λ quorum. record {
                bag = f.0;
                asked = λ m h'.
                    took_new u before _ (took_later t before g.later)
                    (to_each_has slot _ q.members m (members m h'));
              }))
              (bag_now x y _ t u)
              (promises_now v g waits t u)
              (promises_stay v g waits t u),
        )
    then x t false e = (
      sending [] (heard_at x),
      ap (λ (o : Option BagId). proposing q slot b o (heard_at x)) (ready_is x t false e),
      λ y u.
          next y
          (gathering_stays v g waits t u
          (λ quorum.
          let same = gathered_then v g waits t u in
          asked_stays v g waits t u
          (g.ready
          (rw (← same) (not_completed _ (q.is_quorum (promisers (gathered_at x))) e
          (rw same quorum))))))
          (bag_now x y _ t u)
          (promises_now v g waits t u)
          (promises_stay v g waits t u),
    )

    asks : Leads q running slot before w (2 + k)
    unfolding on_body
    asks =
        answered_leads q running slot before members w n p (Prepare b) (Promise n b v)
        (Some (entry.Promise b)) (p ∷ []) k h runs (g.up n h) (g.up p runs) g.later
        (g.asked n h) (ap Some mine) refl (here refl)
        (rw (promise_if slot (records_at w n) b waits, mine) refl)
        (λ x t. then x t (completes q (gathered_at x) (record { site = n; prior = v })) refl)

  -- ---- each in turn, the site itself first: its promise names its vote

  named_once : (promises : List PromiseFrom) (n : ℕ) (prior : Option Vote) → IsSome prior
      → IsSome (highest_prior (promises ++ record { site = n; prior = prior } ∷ []))
  named_once promises n None none = absurd (cc none)
  named_once promises n (Some vote) some =
      let all = promises ++ record { site = n; prior = Some vote } ∷ [] in
      let top =
      (highest_prior_is all).bounds (record { site = n; prior = Some vote }) vote
      (has_right promises (here refl)) refl in
      rw top.is refl

  named_still : (promises others : List PromiseFrom) → IsSome (highest_prior promises)
      → IsSome (highest_prior (promises ++ others))
  named_still promises others some = go (highest_prior promises) refl some
    where
      go : (o : Option Vote) → highest_prior promises ≡ o → IsSome o
          → IsSome (highest_prior (promises ++ others))
      go None e none = absurd (cc none)
      go (Some vote) e some =
          let named = (highest_prior_is promises).named vote e in
          let top =
          (highest_prior_is (promises ++ others)).bounds named.promise vote
          (has_left others named.among) named.names in
          rw top.is refl

  deposit_there : (w x : Network) (n : ℕ) (volatile : VolatileState) (sends : List Send)
      (commits : Option Record) → Took w n commits volatile sends x
      → IsSome (deposit_of slot (records_at w p)) → IsSome (deposit_of slot (records_at x p))
  deposit_there w x n volatile sends commits t some =
      took_stay (λ (rs : List Record). IsSome (deposit_of slot rs)) t
      (λ some.
      let own = some_of (deposit_of slot (records_at w n)) some in
      rw (deposit_stays slot (records_at w n) own.0 own.1 commits) refl)
      p some

  visit_first : (w : Network) → Gathering w → Waits p w → (k : ℕ)
      → ((y : Network) → Gathering y → HasBagAt y → HasPromised p y
      → Leads q running slot before y k)
      → Leads q running slot before w (2 + k)
  visit_first w g waits k next =
      asks p runs w g waits k
      (λ x t. elim g.has [
        | inl vote ↦ inr (named_once (gathered_at w) p (vote_of slot (records_at w p)) vote)
        | inr deposit ↦ inl (deposit_there w x p _ _ _ t deposit)
      ])
      (λ y g' bag promised stays. next y g' bag promised)

  record Going (w : Network) : Type 0 where
    gathering : Gathering w
    bag : HasBagAt w

  visit : (n : ℕ) → Has n running → (w : Network) → Going w → (k : ℕ)
      → ((y : Network) → Going y → HasPromised n y
      → ((m : ℕ) → Has m running → HasPromised m w → HasPromised m y)
      → Leads q running slot before y k)
      → Leads q running slot before w (2 + k)
  visit n h w g k next =
      elim (g.gathering.each_one n h) [
        | inl waits ↦
            asks n h w g.gathering waits k
            (λ x t. elim g.bag [
              | inl deposit ↦ inl (deposit_there w x n _ _ _ t deposit)
              | inr named ↦
                  inr (named_still (gathered_at w)
                  (record { site = n; prior = vote_of slot (records_at w n) } ∷ []) named)
            ])
            (λ y g' bag promised stays.
            next y (record { gathering = g'; bag = bag }) promised stays)
        | inr done ↦
            leads_more q running slot before w k (2 + k) (omega arith)
            (next w g done (λ m h d. d))
      ]

  -- all that run are asked, and promise: then all are asked to vote
  pub promises_all : (w : Network) (k : ℕ) → Gathering w → Waits p w
      → ((y : Network) → ((n : ℕ) → Has n running → IsUp y n) → before ≤ length y.sent
      → ((n : ℕ) → Has n running → HasPromised n y) → VotesAsked y
      → Leads q running slot before y k)
      → Leads q running slot before w (spent 2 running k)
  promises_all w k g waits next =
      leads_more q running slot before w (2 + spent 2 f.rest k) (spent 2 running k)
      (omega (arith, f.count, spent_is 2 f.rest k, spent_is 2 running k))
      (visit_first w g waits (spent 2 f.rest k)
      (λ x g' bag first.
      each q running slot before Going HasPromised 2 visit f.rest f.among x
      (record { gathering = g'; bag = bag }) k
      (λ y going promised stays.
      let all = all_promised y (stays p runs first) promised in
      next y going.gathering.up going.gathering.later all
      (going.gathering.ready
      (laws.grow running (promisers (gathered_at y)) quorum (λ n member h. (all n h).heard))))))
    where
      f : Front p running
      f = front running runs

      all_promised : (y : Network) → HasPromised p y
          → ((n : ℕ) → Has n f.rest → HasPromised n y) → (n : ℕ) → Has n running → HasPromised n y
      all_promised y first rest n h = elim (f.cases n h) [
        | inl same ↦ rw same first
        | inr later ↦ rest n later
      ]

-- ---- the second recovery

pub none_gathered : (slot : SlotName) (b : BallotNumber) (heard : List _)
    → promisers (gathered slot (record { ballot = b; heard_before = length heard }) heard) ≡ []
unfolding gathered bodies_of promises_for promisers
none_gathered slot b heard = rw (drop_all (length heard) heard (omega arith)) refl

module _ (q : QuorumSystem) (laws : AreQuorums q) (running : List ℕ) (slot : SlotName) (before : ℕ)
    (members : AreMembers q running) (quorum : IsQuorum q running) (p : ℕ) (runs : Has p running)
  where
    pub recovers_second : (w : Network) (k : ℕ) → Room q running slot before members p runs w
        → ((n : ℕ) → Has n running → Seen q running slot before members p runs n w)
        → known_of slot (records_at w p) ≡ None
        → ((x : Network) (b : BallotNumber) (mine : b.site ≡ p) (old : ℕ)
        → Gathering q laws running slot before members quorum p runs b mine old x
        → Waits q laws running slot before members quorum p runs b mine old p x
        → Leads q running slot before x k)
        → Leads q running slot before w (1 + k)
    recovers_second w k r seen unknown next =
        recover_leads q running slot before members w p b k runs (r.up p runs) unknown r.has
        (next_is q running slot before members p runs w r.room)
        (λ x t. next x b refl (length (volatile_at w p).heard) (begun x t) (waits x t p runs))
      where
        l : ℕ
        l = last q running slot before members p runs w

        b : BallotNumber
        b = ballot q running slot before members p runs (1 + l)

        Begun : Network → Type 0
        Begun x =
            Took w p (Some (of_slot slot (entry.Round b.round)))
            (with_current (volatile_at w p) slot b) (to_each slot (Prepare b) q.members) x

        waits : (x : Network) → Begun x → (n : ℕ) → Has n running → (a : BallotNumber)
            → promised_of slot (records_at x n) ≡ Some a → Below a b
        waits x t n h a e =
            let s =
            seen n h a
            (sym (begun_promised q running slot before members p runs w x t n) ∙ e) in
            inl (omega (arith, s))

        begun : (x : Network) → Begun x
            → Gathering q laws running slot before members quorum p runs b refl
            (length (volatile_at w p).heard) x
        begun x t = record {
          up = λ n h. took_up t n (r.up n h);
          later = took_later t before r.later;
          has = begun_has q running slot before members p runs w x t r.has;
          asked = begun_asked q running slot before members p runs w x t r.later;
          is_current = rw (t.volatile_is, (same_slot_decides slot slot).1 refl) refl;
          within = rw t.volatile_is (omega arith);
          each_one = λ n h. inl (waits x t n h);
          ready = λ e.
              let nobody = rw (t.volatile_is, none_gathered slot b (volatile_at w p).heard) at e in
              let met = laws.meet [] [] nobody nobody in
              absurd (has_none met.2);
        }
