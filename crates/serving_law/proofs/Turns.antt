-- A turn of a site that serves is a move of its site in a network, whole or not.
use Rattle.std.proofs.Common.{ℕ, ◌≡◌, inl, refl, ap, true, false, List}
use Rattle.std.specs.Prelude.{Result, Ok, Err}
use Rattle.fed_types.specs.declared.bag_id.BagId.{BagId}
use Rattle.fed_types.specs.Lists.{Has}
use Rattle.fed_types.specs.Quorums.{QuorumSystem, AreQuorums}
use Rattle.fed_types.specs.Sites.{Membership, IsSiteNumber}
use Rattle.fed_types.specs.Slots.{SlotName}
use Rattle.fed_types.specs.Values.{IsBag}
use Rattle.fed_types.specs.Laws.Lists.{has_none, has_one}
use Rattle.fed_types.specs.Laws.Quorums.{are_quorums}
use Rattle.cell_device.specs.Devices.{Device}
use Rattle.records.specs.declared.entry.Entry.TheVariants as entry
use Rattle.records.specs.declared.owner.Owner.{Owner}
use Rattle.records.specs.declared.record.Record.{Record}
use Rattle.records.specs.Bounds.{HasEntry}
use Rattle.records.specs.Records.{IsRecord}
use Rattle.proposer.specs.VolatileStates.{VolatileState}
use Rattle.site.specs.declared.answer.Answer.{Answer}
use Rattle.site.specs.declared.fault.SiteFault.{SiteFault}
use Rattle.site.specs.declared.fault.SiteFault.TheVariants as faults
use Rattle.site.specs.Calls.{Input, effect_of}
use Rattle.site.specs.Effects.{Effect}
use Rattle.site.specs.Sites.{Represents}
use Rattle.lines.specs.declared.notice.Notice.{Notice}
use Rattle.lines.specs.declared.notice.Notice.TheVariants.{Refused, Dropped}
use Rattle.world_law.specs.Laws.{IsChosen}
use Rattle.world_law.specs.Networks.{Network, volatile_in}
use Rattle.world_law.specs.WellFormed.{IsWellFormed, MembersAreSites}
use Rattle.world_law.proofs.Deeds.{Deed, MayDeposit}
use Rattle.world_law.proofs.WellFormed.{members_are_sites}
use Rattle.world_law.proofs.WellFormedEffects.{IsWellFormedEffect}
use Rattle.world_law.proofs.WellFormedWords.{all_has}
use Rattle.udp_site.specs.Turns.{Serving, Done, IsCalled, posts_of, notices_of}
use Rattle.udp_site.specs.Served.{or_one}
use Rattle.serving_law.specs.Federations.{Serves, Down}
use Rattle.serving_law.specs.Rules.{owner_of, MayRecoverTo}
use Rattle.serving_law.proofs.Recoveries.{as_it_was, recovered_now, recovered_within}
use Rattle.serving_law.proofs.Scene.{Scene}
use Rattle.serving_law.proofs.Networks.{quorums, serving, IsNotice, IsPost, HasDeposit, May, Moves}
use Rattle.serving_law.proofs.Networks.{Goes, allows}
use Rattle.serving_law.proofs.Calls as calling

module _ {C : Type 0} {device : C → Device} {members : Membership} (s : Scene device members) where
  open s use {w, inv, formed, n, member, cell, tables, recovers, is_membership, only_now}

  abbrev q : QuorumSystem
  q = quorums device members

  pub laws : AreQuorums q
  laws = are_quorums members

  pub sites : MembersAreSites q
  sites = members_are_sites members is_membership

  pub is_site : IsSiteNumber n
  is_site = sites n member

  abbrev owner : Owner
  owner = owner_of device members n

  abbrev volatile : VolatileState
  volatile = volatile_in (w.sites n).mode

  -- What comes of a turn, in which this may be deposited: where the site can go on; where it needs
  -- opening, and its process ends, which a line says; and where its process is killed in it. A site
  -- that represented its volatile state does so then.
  pub record Ends (done : Done) (new : Serving C) (D : May) : Type 0 where
    pub goes : new.site.book.needs_opening ≡ false → Goes device members w n done (Serves new) D
    pub fails : new.site.book.needs_opening ≡ true → (records : List Record)
        → MayRecoverTo owner (device cell) (device new.site.book.cell) records
        → Goes device members w n done (Down records) D
    pub dies : (records : List Record)
        → MayRecoverTo owner (device cell) (device new.site.book.cell) records
        → (x : Network) × Moves device members w x n (Down records) D
    pub last : new.site.book.needs_opening ≡ true → or_one done.notices ≡ true
    pub stands : Represents
        (serving device members n (w.sites n).records volatile cell tables 0 0).site volatile
        → new.site.book.needs_opening ≡ false → Represents new.site new.volatile

  -- ---- notices that report nothing

  pub refused_is : (x : Network) (fault : SiteFault) → IsNotice device members w x (Refused n fault)
  refused_is x fault = record {
    known = λ r e. absurd (cc e);
    registered = λ k slot bag e. absurd (cc e);
    learned = λ k slot bag e. absurd (cc e);
    replied = λ k slot bag e. absurd (cc e);
  }

  pub dropped_is : (x : Network) → IsNotice device members w x (Dropped n)
  dropped_is x = record {
    known = λ r e. absurd (cc e);
    registered = λ k slot bag e. absurd (cc e);
    learned = λ k slot bag e. absurd (cc e);
    replied = λ k slot bag e. absurd (cc e);
  }

  -- a refusal says nothing else
  err_notices : (x : Network) (input : Input) (fault : SiteFault) (notice : Notice)
      → Has notice (notices_of n input (Err fault)) → IsNotice device members w x notice
  err_notices x input fault notice h = rw (← has_one h) (refused_is x fault)

  -- ---- what is on record

  pub known_chosen : (slot : SlotName) (bag : BagId)
      → HasEntry slot (w.sites n).records (entry.Known bag) → IsChosen q w slot bag
  known_chosen slot bag h = inv.records n slot (entry.Known bag) h

  pub bag_is : (slot : SlotName) (bag : BagId) → HasEntry slot (w.sites n).records (entry.Known bag)
      → IsBag bag
  bag_is slot bag h = (all_has IsRecord (w.sites n).records (formed.records n) h).1

  pub deposit_is_bag : (x : Network) → IsWellFormed x → (slot : SlotName) (bag : BagId)
      → HasDeposit x n slot bag → IsBag bag
  deposit_is_bag x is slot bag h = (all_has IsRecord (x.sites n).records (is.records n) h).1

  -- ---- the site, between turns

  module _ (idle tried : ℕ) where
    abbrev pub old : Serving C
    old = serving device members n (w.sites n).records volatile cell tables idle tried

    -- ---- a turn without a call

    pub quiet_ends : (new : Serving C) → new ≡ old → (done : Done) (D : May)
        → ((port : ℕ) (bytes : List ℕ) → Has (port, bytes) done.posts
        → IsPost device members w w bytes)
        → ((notice : Notice) → Has notice done.notices → IsNotice device members w w notice)
        → Ends done new D
    quiet_ends new e done D posts notices =
        rw e (record {
          goes = λ opened. record {
            x = w;
            moves =
                calling.stays s idle tried old
                (as_it_was device owner old.site.book refl refl recovers) refl D;
            posts = posts;
            notices = notices;
          };
          fails = λ needs. absurd (cc needs);
          dies = λ records m.
              calling.stops_as_it_was s idle tried D
              records
              (recovered_now device owner old.site.book refl refl recovers only_now records m);
          last = λ needs. absurd (cc needs);
          stands = λ before opened. before;
        })

    -- ---- a turn with a call

    module _ (input : Input) where
      abbrev e : Effect
      e = effect_of q n (w.sites n).records volatile input

      module _ (deed : Deed q w n input e) (is : IsWellFormedEffect e) (D : May)
          (may : (slot : SlotName) (bag : BagId) → MayDeposit input slot bag → D slot bag) where
        call_dies : (result : Result Answer SiteFault) (new : Serving C)
            → IsCalled device old input result new → (records : List Record)
            → MayRecoverTo owner (device cell) (device new.site.book.cell) records
            → (x : Network) × Moves device members w x n (Down records) D
        call_dies result new c records m =
            let moves = calling.stopped_moves s idle tried input deed is records
            (recovered_within device owner old.site.book refl refl recovers only_now e.commits
            result new.site.book (c.answered refl).keeps records m) in
            (moves.0, allows device members may moves.1)

        -- where it is answered
        pub ok_ends : (answer : Answer) (new : Serving C)
            → IsCalled device old input (Ok answer) new → (done : Done)
            → ((port : ℕ) (bytes : List ℕ) → Has (port, bytes) done.posts
            → IsPost device members w (calling.called s idle tried input) bytes)
            → ((notice : Notice) → Has notice done.notices
            → Has notice (notices_of n input (Ok answer))) → Ends done new D
        ok_ends answer new c done posts among = record {
          goes = λ opened. record {
            x = _;
            moves =
                allows device members may
                (calling.ok_moves s idle tried input deed is answer new c);
            posts = posts;
            notices = λ notice h.
                calling.ok_notices s idle tried input deed is answer (c.answered refl).gives.0
                notice (among notice h);
          };
          fails = λ needs.
              absurd (cc (calling.failed_by_device s idle tried input (Ok answer) new c needs));
          dies = call_dies (Ok answer) new c;
          last = λ needs.
              absurd (cc (calling.failed_by_device s idle tried input (Ok answer) new c needs));
          stands = λ before opened. rw c.volatile (c.answered refl).gives.2;
        }

        -- where it is refused
        pub err_ends : (fault : SiteFault) (new : Serving C)
            → IsCalled device old input (Err fault) new → (done : Done)
            → ((x : Network) (port : ℕ) (bytes : List ℕ) → Has (port, bytes) done.posts
            → IsPost device members w x bytes) → ((notice : Notice) → Has notice done.notices
            → Has notice (notices_of n input (Err fault)))
            → (fault ≡ faults.Device → or_one done.notices ≡ true) → Ends done new D
        err_ends fault new c done posts among said = record {
          goes = λ opened. record {
            x = w;
            moves = calling.err_stays s idle tried input fault new c opened D;
            posts = posts w;
            notices = λ notice h. err_notices w input fault notice (among notice h);
          };
          fails = λ needs records m.
              let moves = call_dies (Err fault) new c records m in
              record {
                x = moves.0;
                moves = moves.1;
                posts = posts moves.0;
                notices = λ notice h. err_notices moves.0 input fault notice (among notice h);
              };
          dies = call_dies (Err fault) new c;
          last = λ needs.
              said (cc (calling.failed_by_device s idle tried input (Err fault) new c needs));
          stands = λ before opened.
              rw c.volatile (calling.err_stands s idle tried input fault new
              (c.answered refl).keeps (c.answered refl).gives opened);
        }

        -- where what is handed out is the call's datagrams
        pub speaks_ends : (result : Result Answer SiteFault) (new : Serving C)
            → IsCalled device old input result new → (addresses : List ℕ) (notices : List Notice)
            → ((notice : Notice) → Has notice notices → Has notice (notices_of n input result))
            → (result ≡ Err faults.Device → or_one notices ≡ true)
            → Ends (record { posts = posts_of addresses result; notices = notices }) new D
        speaks_ends (Ok answer) new c addresses notices among said =
            ok_ends answer new c _
            (λ port bytes h. inl (calling.ok_posts s idle tried input deed is answer
            (c.answered refl).gives.1 addresses port bytes h)) among
        speaks_ends (Err fault) new c addresses notices among said =
            err_ends fault new c _ (λ x port bytes h. absurd (has_none h)) among
            (λ e. said (ap Err e))
