-- One site adds a record and sends messages of one body: when a network that is kept stays so.
use Rattle.std.proofs.Common.{ℕ, ◌≡◌, ◌≢◌, ◌⊎◌, inl, inr, refl, sym, ap}
use Rattle.std.proofs.Common.{◌∙◌, List, [], ◌∷◌, ◌++◌, Option, None, Some}
use Rattle.std.specs.Bool.{◌==◌}
use Rattle.std.specs.Option.{option_to_list}
use Rattle.std.proofs.lemmas.Bool.Decides.{Decides-eqb, not_from_Decides}
use Rattle.std.proofs.lemmas.Bool.{cond_both}
use Rattle.fed_types.specs.declared.bag_id.BagId.{BagId}
use Rattle.fed_types.specs.declared.vote.Vote.{Vote}
use Rattle.fed_types.specs.Ballots.{BallotNumber, Below}
use Rattle.fed_types.specs.Lists.{Has, here}
use Rattle.fed_types.specs.Quorums.{QuorumSystem, IsQuorum}
use Rattle.fed_types.specs.Slots.{SlotName}
use Rattle.fed_types.specs.Laws.Lists.{has_left, has_right, has_cases, has_one, has_none}
use Rattle.records.specs.declared.entry.Entry.{Entry}
use Rattle.records.specs.declared.entry.Entry.TheVariants as entry
use Rattle.records.specs.declared.record.Record.{Record}
use Rattle.dgram.specs.declared.body.Body.{Body}
use Rattle.dgram.specs.declared.body.Body.TheVariants.{Promise, Accept, Accepted, Known}
use Rattle.dgram.specs.Encoding.{body_from}
use Rattle.dgram.specs.Heard.{promisers}
use Rattle.proposer.specs.Proposals.{Current, gathered}
use Rattle.proposer.specs.VolatileStates.{VolatileState, new_volatile}
use Rattle.site.specs.Effects.{Send}
use Rattle.world_law.specs.Laws.{OnRecord, WasSent, IsChosen, Report, notice_report}
use Rattle.lines.specs.declared.notice.Notice.{Notice}
use Rattle.world_law.specs.Networks.{Mode, volatile_in, SiteState, Network, SiteOutcome, Happening}
use Rattle.world_law.specs.Networks.{happening}
use Rattle.world_law.proofs.Kept.{vote_for, Promises, Proposes, Says, Means, Remembers, Kept}
use Rattle.world_law.proofs.Grows.{Grows, says_grows, means_grows, remembers_grows}

-- site n adds this record, if there is one, is in this mode, and sends these
abbrev pub outcome :
    Network → (n : ℕ) → Option Record → Mode → List Send → Option Notice → SiteOutcome
outcome w n kept mode sends notice = record {
  site = record { records = (w.sites n).records ++ option_to_list kept; mode = mode };
  sends = sends;
  notice = notice;
}

abbrev pub moved : Network → (n : ℕ) → Option Record → Mode → List Send → Option Notice → Happening
moved w n kept mode sends notice = happening w n (outcome w n kept mode sends notice)

-- what the notice reports was chosen before
pub record ReportsChosen (q : QuorumSystem) (w : Network) (notice : Option Notice) : Type 0 where
  pub chosen : (m : Notice) (r : Report) → notice ≡ Some m → notice_report m ≡ Some r
      → IsChosen q w r.slot r.bag

-- these messages name site n as their sender
abbrev pub Names : List Send → Option ℕ → Type 0
Names sends place = (d : Send) → Has d sends → body_from d.message.body ≡ place

-- what may be deposited: for which slot which bag
abbrev pub Deposits : Type 1
Deposits = SlotName → BagId → Type 0

-- A network that is kept, and has what it had; what is said was chosen before, and what was sent
-- names the site; a deposit on record is old, or this site's, and one that may be.
pub record Next (q : QuorumSystem) (w : Network) (place : Option ℕ) (D : Deposits) (h : Happening)
    : Type 0 where
  pub kept : Kept q h.network
  pub grows : Grows w h.network
  pub reports : ReportsChosen q w h.notice
  pub names : Names h.sends place
  pub deposits : (n : ℕ) (slot : SlotName) (bag : BagId)
      → OnRecord h.network n slot (entry.Deposit bag)
      → OnRecord w n slot (entry.Deposit bag) ⊎ ((place ≡ Some n) × D slot bag)

pub reports_nothing : {q : QuorumSystem} {w : Network} → ReportsChosen q w None
reports_nothing = record { chosen = λ m r e f. absurd (cc e) }

pub reports_plain : {q : QuorumSystem} {w : Network} (m : Notice) → notice_report m ≡ None
    → ReportsChosen q w (Some m)
reports_plain m e = record { chosen = λ k r f g. absurd (cc (e, f, g)) }

-- x has what w has, and n has the record
pub record Extends (w x : Network) (n : ℕ) (kept : Option Record) : Type 0 where
  pub sent : (d : Send) → Has d w.sent → Has d x.sent
  pub keeps : (k : ℕ) (slot : SlotName) (e : Entry) → OnRecord w k slot e → OnRecord x k slot e
  pub added : (r : Record) → kept ≡ Some r → Has r (x.sites n).records
  pub only : (r : Record) → Has r (x.sites n).records
      → Has r (w.sites n).records ⊎ (kept ≡ Some r)

-- a new vote: it was asked for, and no promise is above its ballot
pub record Votes (w x : Network) (n : ℕ) (slot : SlotName) (vote : Vote) : Type 0 where
  pub asked : WasSent x slot (Accept vote)
  pub above : (c : BallotNumber) → OnRecord w n slot (entry.Promise c) → ¬ Below vote.ballot c

-- what is owed of the new record
abbrev pub NewEntry :
    QuorumSystem → Network → Network → ℕ → Deposits → SlotName → Entry → Type 0
NewEntry q w x n D slot (entry.Vote vote) = Votes w x n slot vote
NewEntry q w x n D slot (entry.Known bag) = IsChosen q x slot bag
NewEntry q w x n D slot (entry.Deposit bag) = D slot bag
NewEntry q w x n D slot (entry.Round round) = Unit {0}
NewEntry q w x n D slot (entry.Promise ballot) = Unit {0}

-- a new proposal: of a ballot of the site's own, in which none was sent before
pub record NewProposal
    (q : QuorumSystem) (w x : Network) (n : ℕ) (slot : SlotName) (vote : Vote)
    : Type 0 where
  pub says : Proposes q x slot vote
  pub own : vote.ballot.site ≡ n
  pub unsent : (bag : BagId) → ¬ WasSent w slot (Accept (vote_for vote.ballot bag))

-- what is owed of the new messages
abbrev pub NewBody : QuorumSystem → Network → Network → ℕ → SlotName → Body → Type 0
NewBody q w x n slot (Promise k b prior) = Promises x k slot b prior
NewBody q w x n slot (Accept vote) = NewProposal q w x n slot vote
NewBody q w x n slot (Accepted k vote) = OnRecord x k slot (entry.Vote vote)
NewBody q w x n slot (Known k bag) = IsChosen q x slot bag
NewBody q w x n slot _ = Unit {0}

-- a message of this body
pub record Carries (slot : SlotName) (body : Body) (d : Send) : Type 0 where
  pub to : ℕ
  pub is : record { to = to; message = record { slot = slot; body = body } } ≡ d

-- the record and the messages that a site adds agree with the network
pub record Sound
    (q : QuorumSystem) (w : Network) (n : ℕ) (D : Deposits) (kept : Option Record)
    (slot : SlotName) (body : Body) (sends : List Send)
    : Type 0 where
  pub each : (d : Send) → Has d sends → Carries slot body d
  pub own : body_from body ≡ Some n
  pub entry : (r : Record) → kept ≡ Some r → (x : Network) → Extends w x n kept
      → NewEntry q w x n D r.slot r.body
  pub says : (x : Network) → Extends w x n kept → NewBody q w x n slot body

-- a proposal that was sent is old, or is the new one
pub record IsNew (slot : SlotName) (body : Body) (k : SlotName) (b : BallotNumber) (bag : BagId)
    : Type 0 where
  pub slot_is : slot ≡ k
  pub body_is : body ≡ Accept (vote_for b bag)

abbrev pub Splits : Network → Network → SlotName → Body → Type 0
Splits w x slot body =
    (k : SlotName) (b : BallotNumber) (bag : BagId) → WasSent x k (Accept (vote_for b bag))
    → WasSent w k (Accept (vote_for b bag)) ⊎ IsNew slot body k b bag

pub record Recalls
    (q : QuorumSystem) (w : Network) (n : ℕ) (kept : Option Record) (slot : SlotName) (body : Body)
    (volatile : VolatileState)
    : Type 0 where
  pub recalls : (x : Network) → Extends w x n kept → Splits w x slot body
      → Remembers q x n volatile

pub nothing_recalled : {q : QuorumSystem} {w : Network} {n : ℕ} {kept : Option Record}
    {slot : SlotName} {body : Body} → Recalls q w n kept slot body new_volatile
nothing_recalled = record {
  recalls = λ x e s. record {
    heard = λ m h. absurd (has_none h);
    members = λ m h. absurd (has_none h);
    current = λ slot c f. absurd (cc f);
  };
}

-- ---- the site that moved, and the others

pub site_cases : (P : SiteState → Type 0) (w : Network) (n k : ℕ) (o : SiteOutcome)
    → (k ≡ n → P o.site) → (k ≢ n → P (w.sites k)) → P ((happening w n o).network.sites k)
site_cases P w n k o same other =
    cond_both (k == n) o.site (w.sites k) P (λ e. same ((Decides-eqb k n).0 e))
    (λ e. other (not_from_Decides _ (Decides-eqb k n) e))

has_optional : {X : Type 0} (xs : List X) (o : Option X) (x : X) → Has x (xs ++ option_to_list o)
    → Has x xs ⊎ (o ≡ Some x)
has_optional xs None x h =
    elim (has_cases xs [] h) [ inl k ↦ inl k | inr k ↦ absurd (has_none k) ]
has_optional xs (Some y) x h =
    elim (has_cases xs (y ∷ []) h) [ inl k ↦ inl k | inr k ↦ inr (ap Some (has_one k)) ]

optional_has : {X : Type 0} (xs : List X) (o : Option X) (x : X) → o ≡ Some x
    → Has x (xs ++ option_to_list o)
optional_has xs None x e = absurd (cc e)
optional_has xs (Some y) x e = let f : y ≡ x = cc in has_right xs (here f)

module _ (q : QuorumSystem) (w : Network) (n : ℕ) (kept : Option Record) (mode : Mode)
    (sends : List Send) (notice : Option Notice) where
  abbrev next : Happening
  next = moved w n kept mode sends notice

  abbrev x : Network
  x = (moved w n kept mode sends notice).network

  abbrev out : SiteOutcome
  out = outcome w n kept mode sends notice

  -- a record of x is old, or the new one
  pub record_cases : (k : ℕ) (r : Record) → Has r (x.sites k).records
      → Has r (w.sites k).records ⊎ ((k ≡ n) × (kept ≡ Some r))
  record_cases k r =
      site_cases
      (λ s. Has r s.records → Has r (w.sites k).records ⊎ ((k ≡ n) × (kept ≡ Some r))) w n k out
      (λ f h. elim (has_optional (w.sites n).records kept r h)
      [ inl j ↦ inl (rw f j) | inr j ↦ inr (f, j) ])
      (λ f h. inl h)

  extends : Extends w x n kept
  extends = record {
    sent = λ d h. has_left sends h;
    keeps = λ k slot e h.
        site_cases (λ s. Has (record { slot = slot; body = e }) s.records) w n k out
        (λ f. has_left (option_to_list kept) (rw f at h)) (λ f. h);
    added = λ r e.
        site_cases (λ s. Has r s.records) w n n out
        (λ f. optional_has (w.sites n).records kept r e) (λ f. absurd (f refl));
    only = λ r h. elim (record_cases n r h) [ inl old ↦ inl old | inr new ↦ inr new.1 ];
  }

  module _ (D : Deposits) (slot0 : SlotName) (body0 : Body)
      (s : Sound q w n D kept slot0 body0 sends) where
    pub moved_grows : Grows w x
    moved_grows = record {
      sent = extends.sent;
      kept = extends.keeps;
      votes = λ k slot vote b h promised. elim (record_cases k _ h) [
        | inl old ↦ inl old
        | inr new ↦ inr (above k slot vote b new.0 new.1 promised)
      ];
    }
      where
        above : (k : ℕ) (slot : SlotName) (vote : Vote) (b : BallotNumber) → k ≡ n
            → kept ≡ Some (record { slot = slot; body = entry.Vote vote })
            → OnRecord w k slot (entry.Promise b) → ¬ Below vote.ballot b
        above k slot vote b f e promised = (s.entry _ e x extends).above b (rw f at promised)

    says_new : (slot : SlotName) (body : Body) → NewBody q w x n slot body → Says q x slot body
    says_new slot (Accept vote) h = h.says
    says_new slot body h = h

    means_new : (slot : SlotName) (e : Entry) → NewEntry q w x n D slot e → Means q x slot e
    means_new slot (entry.Vote vote) h = h.asked
    means_new slot (entry.Deposit bag) h = tt
    means_new slot e h = h

    says_from : (d : Send) → Carries slot0 body0 d → Says q x d.message.slot d.message.body
    says_from d f = rw (← f.is) (says_new slot0 body0 (s.says x extends))

    names_from : (d : Send) → Carries slot0 body0 d → body_from d.message.body ≡ Some n
    names_from d f = rw (← f.is) s.own

    new_accept : (slot : SlotName) (b : BallotNumber) (bag : BagId) (d : Send)
        → Carries slot0 body0 d → d.message.slot ≡ slot
        → d.message.body ≡ Accept (vote_for b bag) → IsNew slot0 body0 slot b bag
    new_accept slot b bag d f e g = record {
      slot_is = ap (λ (y : Send). y.message.slot) f.is ∙ e;
      body_is = ap (λ (y : Send). y.message.body) f.is ∙ g;
    }

    splits : Splits w x slot0 body0
    splits k b bag t = elim (has_cases w.sent sends t.is_sent) [
      | inl old ↦ inl (record { to = t.to; is_sent = old })
      | inr new ↦ inr (new_accept k b bag _ (s.each _ new) refl refl)
    ]

    proposed : (slot : SlotName) (b : BallotNumber) (bag : BagId) → IsNew slot0 body0 slot b bag
        → NewProposal q w x n slot (vote_for b bag)
    proposed slot b bag i = rw i.body_is at (rw i.slot_is at (s.says x extends))

    same_accept : (slot : SlotName) (b : BallotNumber) (u v : BagId) → IsNew slot0 body0 slot b u
        → IsNew slot0 body0 slot b v → u ≡ v
    same_accept slot b u v i j =
        let same : vote_for b u ≡ vote_for b v = cc (i.body_is, j.body_is) in
        ap (λ (y : Vote). y.bag) same

    module _ (inv : Kept q w) (recalls : Recalls q w n kept slot0 body0 (volatile_in mode))
        (reports : ReportsChosen q w notice) where
      other_volatile : (k : ℕ) → k ≢ n → Remembers q x k (volatile_in (w.sites k).mode)
      other_volatile k other =
          remembers_grows moved_grows q k (volatile_in (w.sites k).mode) cases (inv.volatiles k)
        where
          cases : (slot : SlotName) (c : Current) (bag : BagId)
              → (volatile_in (w.sites k).mode).current slot ≡ Some c → c.ballot.site ≡ k
              → WasSent x slot (Accept (vote_for c.ballot bag))
              → WasSent w slot (Accept (vote_for c.ballot bag))
              ⊎ IsQuorum q (promisers (gathered slot c (volatile_in (w.sites k).mode).heard))
          cases slot c bag e own t = elim (splits slot c.ballot bag t) [
            | inl old ↦ inl old
            | inr new ↦ absurd (other (sym own ∙ (proposed slot c.ballot bag new).own))
          ]

      all_kept : Kept q x
      all_kept = record {
        volatiles = λ k.
            site_cases (λ t. Remembers q x k (volatile_in t.mode)) w n k out
            (λ f. rw f (recalls.recalls x extends splits)) (λ f. other_volatile k f);
        sent = λ d h. elim (has_cases w.sent sends h) [
          | inl old ↦ says_grows moved_grows q d.message.slot d.message.body (inv.sent d old)
          | inr new ↦ says_from d (s.each d new)
        ];
        records = λ k slot e h. elim (record_cases k _ h) [
          | inl old ↦ means_grows moved_grows q slot e (inv.records k slot e old)
          | inr new ↦ means_new slot e (s.entry _ new.1 x extends)
        ];
        one = λ slot b u v g h. elim (splits slot b u g) [
          | inl g0 ↦ elim (splits slot b v h) [
            | inl h0 ↦ inv.one slot b u v g0 h0
            | inr h1 ↦ absurd ((proposed slot b v h1).unsent u g0)
          ]
          | inr g1 ↦ elim (splits slot b v h) [
            | inl h0 ↦ absurd ((proposed slot b u g1).unsent v h0)
            | inr h1 ↦ same_accept slot b u v g1 h1
          ]
        ];
      }

      pub kept_moved : Next q w (Some n) D next
      kept_moved = record {
        kept = all_kept;
        grows = moved_grows;
        reports = reports;
        names = λ d h. names_from d (s.each d h);
        deposits = λ k slot bag h. elim (record_cases k _ h) [
          | inl old ↦ inl old
          | inr new ↦ inr (ap Some (sym new.0), s.entry _ new.1 x extends)
        ];
      }
