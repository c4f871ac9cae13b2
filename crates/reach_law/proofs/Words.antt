-- What one more record, or one more message that was heard, makes of the words of a slot.
use Rattle.std.proofs.Common.{not, ◌&&◌, ℕ, ◌≡◌, ◌≤◌, max, Bool, true, false, cond, inl, inr, ◌⊎◌}
use Rattle.std.proofs.Common.{refl, ap, ◌∙◌, List, [], ◌∷◌, ◌++◌, length, Option, None, Some}
use Rattle.std.proofs.Common.{append-nil, arith, length-append, zero, suc, ◌<◌}
use Rattle.std.specs.Prelude.{⊤, IsSome}
use Rattle.std.specs.Option.{option_to_list}
use Rattle.fed_types.specs.declared.bag_id.BagId.{BagId}
use Rattle.fed_types.specs.declared.vote.Vote.{Vote}
use Rattle.fed_types.specs.Ballots.{BallotNumber, below, Below}
use Rattle.fed_types.specs.Lists.{Has}
use Rattle.fed_types.specs.Slots.{SlotName}
use Rattle.fed_types.specs.Laws.Ballots.{below_decides}
use Rattle.fed_types.specs.Laws.Lists.{map_has}
use Rattle.fed_types.specs.Laws.Slots.{same_slot_decides}
use Rattle.records.specs.declared.entry.Entry.{Entry}
use Rattle.records.specs.declared.entry.Entry.TheVariants as entry
use Rattle.records.specs.declared.record.Record.{Record}
use Rattle.records.specs.SlotStates.{higher, earlier, with_one, if_some, said_in, ballot_in}
use Rattle.records.specs.SlotStates.{vote_in, round_in, deposit_in, known_in, promised_of, vote_of}
use Rattle.records.specs.SlotStates.{used_of, deposit_of, known_of}
use Rattle.records.proofs.Bounds.{promised_bounds, vote_among}
use Rattle.records.proofs.SlotStates.{promised-push, vote-push, used-push, deposit-push, known-push}
use Rattle.dgram.specs.declared.body.Body.{Body}
use Rattle.dgram.specs.declared.body.Body.TheVariants.{Refused}
use Rattle.dgram.specs.declared.message.Message.{Message}
use Rattle.dgram.specs.Heard.{body_in, bodies_of, refused_round, floor_of, promise_in, PromiseFrom}
use Rattle.proposer.specs.Proposals.{Current, gathered}
use Rattle.proposer.proofs.Gathered.{one_of, gathered-push, floor-push}
use Rattle.site.specs.Effects.{Send, to_each}
use Rattle.world_law.proofs.Order.{below_at_most}
use Rattle.std.proofs.lemmas.Option.{slice_get_within}
use Rattle.world_law.specs.Networks.{datagram_at}
use Rattle.reach_law.specs.Running.{HasVoteOrDeposit}

-- ---- what is there

pub some_same : {A : Type 0} {x y : A} → Some x ≡ Some y → x ≡ y
some_same e = cc

pub some_of : (o : Option BagId) → IsSome o → (bag : BagId) × (o ≡ Some bag)
some_of None h = absurd (cc h)
some_of (Some bag) h = (bag, refl)

-- there are no more datagrams than were sent
pub too_many : (number : ℕ) (sent : List Send) (d : Send) → length sent < number
    → datagram_at number sent ≡ Some d → ⊥
too_many zero sent d l e = omega arith
too_many (suc k) sent d l e = omega (arith, l, slice_get_within sent k d e)

-- ---- a record, or none, that says nothing of one kind

abbrev pub of_slot : SlotName → Entry → Record
of_slot slot e = record { slot = slot; body = e }

pub said_self : {X : Type 0} (kind : Entry → Option X) (slot : SlotName) (e : Entry)
    → said_in kind slot (of_slot slot e) ≡ kind e
said_self kind slot e = rw ((same_slot_decides slot slot).1 refl) refl

abbrev pub Silent : {X : Type 0} → (Entry → Option X) → SlotName → Option Record → Type 0
Silent kind slot None = ⊤
Silent kind slot (Some r) = said_in kind slot r ≡ None

module _ (slot : SlotName) (rs : List Record) where
  pub promised_silent : (o : Option Record) → Silent ballot_in slot o
      → promised_of slot (rs ++ option_to_list o) ≡ promised_of slot rs
  promised_silent None h = ap (promised_of slot) (append-nil rs)
  promised_silent (Some r) h = rw (promised-push slot rs r, h) refl

  pub vote_silent : (o : Option Record) → Silent vote_in slot o
      → vote_of slot (rs ++ option_to_list o) ≡ vote_of slot rs
  vote_silent None h = ap (vote_of slot) (append-nil rs)
  vote_silent (Some r) h = rw (vote-push slot rs r, h) refl

  pub used_silent : (o : Option Record) → Silent round_in slot o
      → used_of slot (rs ++ option_to_list o) ≡ used_of slot rs
  used_silent None h = ap (used_of slot) (append-nil rs)
  used_silent (Some r) h = rw (used-push slot rs r, h) refl

  -- the deposit and the known bag stay
  first_stays : (v : BagId) (s : Option BagId) → with_one earlier (Some v) s ≡ Some v
  first_stays v None = refl
  first_stays v (Some u) = refl

  pub deposit_stays : (v : BagId) → deposit_of slot rs ≡ Some v → (o : Option Record)
      → deposit_of slot (rs ++ option_to_list o) ≡ Some v
  deposit_stays v e None = ap (deposit_of slot) (append-nil rs) ∙ e
  deposit_stays v e (Some r) =
      rw (deposit-push slot rs r, e) (first_stays v (said_in deposit_in slot r))

  pub known_stays : (v : BagId) → known_of slot rs ≡ Some v → (o : Option Record)
      → known_of slot (rs ++ option_to_list o) ≡ Some v
  known_stays v e None = ap (known_of slot) (append-nil rs) ∙ e
  known_stays v e (Some r) = rw (known-push slot rs r, e) (first_stays v (said_in known_in slot r))

  -- so does it that there is a vote, or a deposit
  higher_some : (v : Vote) (s : Option Vote)
      → IsSome (with_one (higher (λ (v : Vote). v.ballot)) (Some v) s)
  higher_some v None = refl
  higher_some v (Some u) = go (below v.ballot u.ballot)
    where
      go : (t : Bool) → IsSome (cond t (Some u) (Some v))
      go true = refl
      go false = refl

  vote_stays : IsSome (vote_of slot rs) → (o : Option Record)
      → IsSome (vote_of slot (rs ++ option_to_list o))
  vote_stays h None = rw (append-nil rs) h
  vote_stays h (Some r) =
      rw (vote-push slot rs r) (go (vote_of slot rs) h)
    where
      go : (v : Option Vote) → IsSome v
          → IsSome (with_one (higher (λ (v : Vote). v.ballot)) v (said_in vote_in slot r))
      go None none = absurd (cc none)
      go (Some v) some = higher_some v (said_in vote_in slot r)

  pub has_stays : HasVoteOrDeposit slot rs → (o : Option Record)
      → HasVoteOrDeposit slot (rs ++ option_to_list o)
  has_stays (inl vote) o = inl (vote_stays vote o)
  has_stays (inr deposit) o =
      let own = some_of (deposit_of slot rs) deposit in
      inr (rw (deposit_stays own.0 own.1 o) refl)

  -- a Known where none is known
  pub known_now : (v : BagId) → known_of slot rs ≡ None
      → known_of slot (rs ++ of_slot slot (entry.Known v) ∷ []) ≡ Some v
  known_now v e =
      rw (
        known-push slot rs (of_slot slot (entry.Known v)),
        e,
        said_self known_in slot (entry.Known v),
      ) refl

  -- a Round above all others is the used one
  pub used_now : (r : ℕ) → used_of slot (rs ++ of_slot slot (entry.Round r) ∷ [])
      ≡ max (used_of slot rs) r
  used_now r =
      rw (
        used-push slot rs (of_slot slot (entry.Round r)),
        said_self round_in slot (entry.Round r),
      ) refl

  -- a ballot that is above all that was promised is promised
  above : {X : Type 0} (ballot : X → BallotNumber) (o : Option X) (x : X)
      → ((y : X) → o ≡ Some y → Below (ballot y) (ballot x)) → higher ballot o x ≡ Some x
  above ballot None x l = refl
  above ballot (Some y) x l = rw ((below_decides (ballot y) (ballot x)).1 (l y refl)) refl

  pub promised_now : (b : BallotNumber)
      → ((a : BallotNumber) → promised_of slot rs ≡ Some a → Below a b)
      → promised_of slot (rs ++ of_slot slot (entry.Promise b) ∷ []) ≡ Some b
  promised_now b l =
      rw (
        promised-push slot rs (of_slot slot (entry.Promise b)),
        said_self ballot_in slot (entry.Promise b),
      )
      (above (λ (b : BallotNumber). b) (promised_of slot rs) b l)

  pub vote_now : (v : Vote) → ((u : Vote) → vote_of slot rs ≡ Some u → Below u.ballot v.ballot)
      → vote_of slot (rs ++ of_slot slot (entry.Vote v) ∷ []) ≡ Some v
  vote_now v l =
      rw (vote-push slot rs (of_slot slot (entry.Vote v)), said_self vote_in slot (entry.Vote v))
      (above (λ (v : Vote). v.ballot) (vote_of slot rs) v l)

  -- a vote counts as a promise of its ballot
  pub vote_below : (b : BallotNumber)
      → ((a : BallotNumber) → promised_of slot rs ≡ Some a → Below a b)
      → (u : Vote) → vote_of slot rs ≡ Some u → Below u.ballot b
  vote_below b l u e =
      let bound = promised_bounds slot rs (entry.Vote u) u.ballot (vote_among slot rs u e) refl in
      below_at_most u.ballot bound.top b bound.at_least (l bound.top bound.is)

-- ---- a message of the slot that was heard

abbrev pub about : SlotName → Body → Message
about slot body = record { slot = slot; body = body }

pub body_self : (slot : SlotName) (body : Body) → body_in slot (about slot body) ≡ Some body
body_self slot body = rw ((same_slot_decides slot slot).1 refl) refl

abbrev pub hears_more : List Message → SlotName → Body → List Message
hears_more heard slot body = heard ++ about slot body ∷ []

module _ (slot : SlotName) (heard : List Message) (body : Body) where
  pub floor_quiet : refused_round body ≡ None
      → floor_of (bodies_of slot (hears_more heard slot body)) ≡ floor_of (bodies_of slot heard)
  floor_quiet h =
      floor-push slot heard (about slot body)
      ∙ ap (λ (o : Option Body).
      with_one max (floor_of (bodies_of slot heard)) (if_some refused_round o))
      (body_self slot body)
      ∙ ap (with_one max (floor_of (bodies_of slot heard))) h

  pub gathered_quiet : (c : Current) → c.heard_before ≤ length heard
      → promise_in c.ballot body ≡ None
      → gathered slot c (hears_more heard slot body) ≡ gathered slot c heard
  gathered_quiet c within h =
      gathered-push slot c heard (about slot body) within
      ∙ ap (λ (o : Option Body).
      gathered slot c heard ++ one_of (if_some (promise_in c.ballot) o)) (body_self slot body)
      ∙ ap (λ (o : Option PromiseFrom). gathered slot c heard ++ one_of o) h
      ∙ append-nil (gathered slot c heard)

pub floor_refused : (slot : SlotName) (heard : List Message) (from : ℕ)
    (asked standing : BallotNumber)
    → floor_of (bodies_of slot (hears_more heard slot (Refused from asked standing)))
    ≡ max (floor_of (bodies_of slot heard)) standing.round
floor_refused slot heard from asked standing =
    floor-push slot heard (about slot (Refused from asked standing))
    ∙ ap (λ (o : Option Body).
    with_one max (floor_of (bodies_of slot heard)) (if_some refused_round o))
    (body_self slot (Refused from asked standing))

pub longer : (heard : List Message) (m : Message) (k : ℕ) → k ≤ length heard
    → k ≤ length (heard ++ m ∷ [])
longer heard m k h = omega (arith, length-append heard (m ∷ []))

-- ---- what is sent to several sites

abbrev pub to_site : ℕ → SlotName → Body → Send
to_site n slot body = record { to = n; message = about slot body }

pub to_each_has : (slot : SlotName) (body : Body) (sites : List ℕ) (n : ℕ) → Has n sites
    → Has (to_site n slot body) (to_each slot body sites)
unfolding to_each
to_each_has slot body sites n h = map_has (λ (site : ℕ). to_site site slot body) h

-- a ballot on top of what was promised: it, or what was
pub promised_cases : (slot : SlotName) (rs : List Record) (b : BallotNumber) (r : Record)
    → said_in ballot_in slot r ≡ Some b
    → (a : BallotNumber) → promised_of slot (rs ++ r ∷ []) ≡ Some a
    → (promised_of slot rs ≡ Some a) ⊎ (b ≡ a)
promised_cases slot rs b r says a e =
    go (promised_of slot rs) (rw (promised-push slot rs r, says) at e)
  where
    test : (c : BallotNumber) (t : Bool) → cond t (Some b) (Some c) ≡ Some a
        → ◌≡◌ {A = Option BallotNumber} (Some c) (Some a) ⊎ (b ≡ a)
    test c true f = inr (some_same f)
    test c false f = inl f

    go : (o : Option BallotNumber) → higher (λ (b : BallotNumber). b) o b ≡ Some a
        → (o ≡ Some a) ⊎ (b ≡ a)
    go None f = inr (some_same f)
    go (Some c) f = test c (below c b) f

-- a quorum that is not completed only now was one before
pub not_completed : (t u : Bool) → (t && not u) ≡ false → t ≡ true → u ≡ true
not_completed true true e f = refl
not_completed true false e f = absurd (cc e)
not_completed false u e f = absurd (cc f)
