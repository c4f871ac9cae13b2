-- What an event at a site brings about keeps the network: an effect under a fate, a reply, a stop,
-- a start.
use Rattle.std.proofs.Common.{ℕ, ◌≡◌, Bool, true, false, cond, inl, refl, List, [], length, take}
use Rattle.std.proofs.Common.{Option, None, Some, append-nil}
use Rattle.std.specs.Bool.{nat_le}
use Rattle.std.proofs.lemmas.Bool.{cond_both}
use Rattle.fed_types.specs.Lists.{Has, is_in}
use Rattle.fed_types.specs.Quorums.{QuorumSystem}
use Rattle.fed_types.specs.Slots.{SlotName}
use Rattle.fed_types.specs.Laws.Lists.{has_take, has_none}
use Rattle.records.specs.declared.entry.Entry.TheVariants as entry
use Rattle.records.specs.declared.record.Record.{Record}
use Rattle.records.specs.Layout.{record_bytes}
use Rattle.records.specs.SlotStates.{known_of, deposit_of}
use Rattle.records.proofs.Bounds.{known_among}
use Rattle.dgram.specs.declared.body.Body.{Body}
use Rattle.dgram.specs.declared.body.Body.TheVariants.{Ask}
use Rattle.proposer.specs.VolatileStates.{new_volatile}
use Rattle.site.specs.declared.fault.SiteFault.TheVariants as faults
use Rattle.site.specs.Calls.{Input, reply_by, reply_of, effect_of}
use Rattle.site.specs.Effects.{Effect, Send, refuses}
use Rattle.schedule.specs.declared.fate.Fate.{Fate}
use Rattle.schedule.specs.declared.fate.Fate.TheVariants.{Whole, StopsIn, StopsAfter, FailsIn}
use Rattle.world_law.specs.Laws.{notice_report}
use Rattle.world_law.specs.Networks.{Mode, Up, Down, NeedsOpening, volatile_in, Network, Happening}
use Rattle.lines.specs.declared.notice.Notice.{Notice}
use Rattle.lines.specs.declared.notice.Notice.TheVariants.{Replied, Refused, GoesDown, ComesUp}
use Rattle.lines.specs.Notices.{notice_of}
use Rattle.world_law.specs.Networks.{happening, outcome, nothing, if_member, reaches, takes, stops}
use Rattle.world_law.specs.Networks.{opened, starts}
use Rattle.world_law.specs.Networks as networks
use Rattle.world_law.proofs.Kept.{Kept}
use Rattle.world_law.proofs.Grows.{grows_itself}
use Rattle.world_law.proofs.Step.{moved, Deposits as Allowed, ReportsChosen, reports_nothing}
use Rattle.world_law.proofs.Step.{reports_plain, Next, Sound, nothing_recalled, kept_moved}
use Rattle.world_law.proofs.Deeds.{MayDeposit, Deed, some_same, nothing_sent}

-- some slot, for what is of none
any_slot : SlotName
any_slot = record { object = []; version = 0 }

-- fewer messages
fewer : {q : QuorumSystem} {w : Network} {n : ℕ} {D : Allowed} {kept : Option Record}
    {slot : SlotName} {body : Body} {sends : List Send} (some : List Send)
    → ((d : Send) → Has d some → Has d sends)
    → Sound q w n D kept slot body sends → Sound q w n D kept slot body some
fewer some among s = record {
  each = λ d h. s.each d (among d h);
  own = s.own;
  entry = s.entry;
  says = s.says;
}

module _ (q : QuorumSystem) (w : Network) (inv : Kept q w) where
  -- nothing happens, but that something is said
  pub said_kept : (D : Allowed) (place : Option ℕ) (notice : Option Notice)
      → ReportsChosen q w notice
      → Next q w place D (record { network = w; sends = []; notice = notice })
  said_kept D place notice reports = record {
    kept = inv;
    grows = grows_itself;
    reports = reports;
    names = λ d h. absurd (has_none h);
    deposits = λ n slot bag h. inl h;
  }

  pub stays : (D : Allowed) (place : Option ℕ) → Next q w place D (nothing w)
  stays D place = said_kept D place None reports_nothing

  module _ (n : ℕ) (D : Allowed) where
    -- the site loses its volatile state, and its notice reports nothing
    module _ (mode : Mode) (notice : Notice) (lost : volatile_in mode ≡ new_volatile)
        (e : notice_report notice ≡ None) where
      -- with what it keeps
      lost_kept : {kept : Option Record} {slot : SlotName} {body : Body} {sends : List Send}
          → Sound q w n D kept slot body sends → (some : List Send)
          → ((d : Send) → Has d some → Has d sends)
          → Next q w (Some n) D (moved w n kept mode some (Some notice))
      lost_kept s some among =
          kept_moved q w n _ mode some (Some notice) D _ _ (fewer some among s) inv
          (rw lost nothing_recalled) (reports_plain notice e)

      -- it keeps nothing
      idle_kept : Next q w (Some n) D (moved w n None mode [] (Some notice))
      idle_kept = lost_kept (nothing_sent q w n D any_slot) [] (λ d h. h)

      -- it keeps the record, or it doesn't
      left_kept : {r : Record} {slot : SlotName} {body : Body} {sends : List Send}
          → Sound q w n D (Some r) slot body sends → (t : Bool)
          → Next q w (Some n) D (moved w n (cond t (Some r) None) mode [] (Some notice))
      left_kept s true = lost_kept s [] (λ d h. absurd (has_none h))
      left_kept s false = idle_kept

    pub member_kept : (h : Happening) → Next q w (Some n) D h
        → Next q w (Some n) D (if_member q w n h)
    member_kept h next =
        cond_both (is_in q.members n) h (nothing w) (Next q w (Some n) D) (λ e. next)
        (λ e. stays D (Some n))

    -- what it replies as known is on its record
    pub replies_kept : (slot : SlotName) (mode : Mode)
        → Next q w (Some n) D (networks.replies w n mode slot)
    unfolding reply_of
    replies_kept slot (Up volatile) =
        said_kept D (Some n) _
        (go (known_of slot (w.sites n).records) (deposit_of slot (w.sites n).records) refl)
      where
        go : (known own : _) → known_of slot (w.sites n).records ≡ known
            → ReportsChosen q w (Some (Replied n slot (reply_by known own)))
        go (Some bag) own e = record {
          chosen = λ m r f g.
              let same : record { slot = slot; bag = bag } ≡ r = cc (rw (← some_same f) at g) in
              rw (← same)
              (inv.records n slot (entry.Known bag) (known_among slot (w.sites n).records bag e));
        }
        go None (Some bag) e = reports_plain _ refl
        go None None e = reports_plain _ refl
    replies_kept slot NeedsOpening = said_kept D (Some n) _ (reports_plain _ refl)
    replies_kept slot Down = stays D (Some n)

    pub stops_kept : (mode : Mode) → Next q w (Some n) D (stops w n mode)
    stops_kept Down = stays D (Some n)
    stops_kept mode = idle_kept Down (GoesDown n) refl refl

    opened_kept : Next q w (Some n) D (happening w n (opened n (w.sites n)))
    opened_kept =
        rw (append-nil (w.sites n).records) at
        (idle_kept (Up new_volatile) (ComesUp n (length (w.sites n).records)) refl refl)

    pub starts_kept : (mode : Mode) → Next q w (Some n) D (starts w n mode)
    starts_kept (Up volatile) = stays D (Some n)
    starts_kept mode = opened_kept

  -- ---- an effect, under a fate

  module _ (n : ℕ) (input : Input) where
    abbrev pub May : Allowed
    May = MayDeposit input

    -- the mode after has the volatile state of the effect
    outcome_kept : (after : Mode) (e : Effect) (commits : Option Record)
        → volatile_in after ≡ e.volatile → e.commits ≡ commits → Deed q w n input e → (fate : Fate)
        → Next q w (Some n) May (happening w n (outcome n (w.sites n) after input e commits fate))
    unfolding outcome
    outcome_kept after e commits now is d fate = go commits is fate
      where
        whole : Next q w (Some n) May (happening w n (networks.goes_on n (w.sites n) after input e))
        whole =
            kept_moved q w n e.commits after e.sends (notice_of n input e.says) May d.slot d.body
            d.sound inv (rw now d.recalls) d.reports

        go : (commits : Option Record) → e.commits ≡ commits → (fate : Fate)
            → Next q w (Some n) May
            (happening w n (outcome n (w.sites n) after input e commits fate))
        go commits is Whole = whole
        go None is (StopsIn device k) = idle_kept n May Down (GoesDown n) refl refl
        go (Some r) is (StopsIn device k) =
            left_kept n May Down (GoesDown n) refl refl (rw is at d.sound)
            (nat_le (length (record_bytes r)) k)
        go commits is (StopsAfter j) =
            lost_kept n May Down (GoesDown n) refl refl (rw is at d.sound) (take j e.sends)
            (λ f h. has_take j e.sends h)
        go None is (FailsIn device k) = whole
        go (Some r) is (FailsIn device k) =
            left_kept n May NeedsOpening (Refused n faults.Device) refl refl (rw is at d.sound)
            (nat_le (length (record_bytes r)) k)

    -- a site that needs opening refuses
    refuses_deed : Deed q w n input (refuses faults.NeedsOpen new_volatile)
    refuses_deed = record {
      slot = any_slot;
      body = Ask n;
      sound = nothing_sent q w n May any_slot;
      recalls = nothing_recalled;
      reports = reports_plain _ refl;
    }

    reaches_kept : (mode : Mode)
        → Deed q w n input (effect_of q n (w.sites n).records (volatile_in mode) input)
        → (fate : Fate) → Next q w (Some n) May (reaches q w n mode input fate)
    reaches_kept (Up volatile) d fate = outcome_kept _ _ _ refl refl d fate
    reaches_kept NeedsOpening d fate = outcome_kept _ _ _ refl refl refuses_deed fate
    reaches_kept Down d fate = stays May (Some n)

    pub takes_kept :
        Deed q w n input (effect_of q n (w.sites n).records (volatile_in (w.sites n).mode) input)
        → (fate : Fate) → Next q w (Some n) May (takes q w n input fate)
    takes_kept d fate = member_kept n May _ (reaches_kept (w.sites n).mode d fate)
