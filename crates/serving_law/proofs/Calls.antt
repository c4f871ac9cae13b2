-- A call of a site that serves is a move of its site in a network.
use Rattle.std.proofs.Common.{ℕ, ◌≡◌, inl, inr, refl, sym, ap, ◌∙◌, true, false, List, [], ◌∷◌}
use Rattle.std.proofs.Common.{◌++◌, append-nil, map, Option, None, Some}
use Rattle.std.specs.Prelude.{Result, Ok, Err}
use Rattle.std.specs.List.{flat_map}
use Rattle.std.specs.Option.{option_to_list, IfSome}
use Rattle.fed_types.specs.declared.bag_id.BagId.{BagId}
use Rattle.fed_types.specs.Lists.{Has, here, there}
use Rattle.fed_types.specs.Quorums.{QuorumSystem}
use Rattle.fed_types.specs.Sites.{Membership}
use Rattle.fed_types.specs.Slots.{SlotName}
use Rattle.fed_types.specs.Laws.Lists.{has_map, map_has, has_none, has_right, has_one, has_cases}
use Rattle.std.proofs.lemmas.Bool.{false≢true}
use Rattle.cell_device.specs.Devices.{Device}
use Rattle.bag_check.specs.declared.fault.BagFault.{BagFault}
use Rattle.records.specs.declared.owner.Owner.{Owner}
use Rattle.records.specs.declared.record.Record.{Record}
use Rattle.records.specs.Records.{IsRecord}
use Rattle.records.proofs.Bounds.{known_among}
use Rattle.proposer.specs.VolatileStates.{VolatileState}
use Rattle.site.specs.declared.answer.Answer.{Answer}
use Rattle.site.specs.declared.answer.Line.{Line}
use Rattle.site.specs.declared.answer.Line.TheVariants as site_lines
use Rattle.site.specs.declared.answer.Reply.{Reply}
use Rattle.site.specs.declared.fault.SiteFault.{SiteFault}
use Rattle.site.specs.declared.fault.SiteFault.TheVariants as faults
use Rattle.site.specs.Answered.{Keeps, Gives}
use Rattle.site.specs.Calls.{Input, Deposits, effect_of}
use Rattle.site.specs.Datagrams.{handed_out, datagram}
use Rattle.site.specs.Effects.{Effect}
use Rattle.site.specs.Reported.{line_report}
use Rattle.site.specs.Sites.{Represents}
use Rattle.site.proofs.Reports.{answered}
use Rattle.lines.specs.declared.notice.Notice.{Notice}
use Rattle.lines.specs.declared.notice.Notice.TheVariants.{Registered, Learned, Replied}
use Rattle.lines.specs.Notices.{notice_of}
use Rattle.world_law.specs.Networks.{Network, Mode, Up, Down, volatile_in}
use Rattle.world_law.proofs.Deeds.{Deed, MayDeposit, some_same, nothing_sent}
use Rattle.world_law.proofs.Grows.{grows_itself}
use Rattle.world_law.proofs.Step.{moved, kept_moved, Next, Sound, nothing_recalled, reports_nothing}
use Rattle.world_law.proofs.WellFormedEffects.{IsWellFormedEffect}
use Rattle.udp_site.specs.Turns.{Serving, IsCalled, posts_of, outgoing_posts, notices_of}
use Rattle.serving_law.specs.Federations.{Serves}
use Rattle.serving_law.specs.Federations as federations
use Rattle.serving_law.specs.Rules.{owner_of}
use Rattle.serving_law.proofs.Spoken.{effect_speaks}
use Rattle.serving_law.proofs.Moves.{moved_site, others_stay, moved_formed}
use Rattle.serving_law.proofs.Recoveries.{Recovered, IsKept, kept_ok, kept_err, device_needs}
use Rattle.serving_law.proofs.Registrations.{registered_is_kept}
use Rattle.serving_law.proofs.Scene.{Scene}
use Rattle.serving_law.proofs.Networks.{quorums, serving, IsServed, IsSent, IsNotice, HasDeposit}
use Rattle.serving_law.proofs.Networks.{HasKnown, May, Moves}

-- what stands in one of these lists
pub has_flat_map : {X Y : Type 0} (f : X → List Y) (y : Y) (xs : List X) → Has y (flat_map f xs)
    → (x : X) × Has x xs × Has y (f x)
has_flat_map f y [] h = absurd (has_none h)
has_flat_map f y (x ∷ xs) h = elim (has_cases (f x) (flat_map f xs) h) [
  | inl first ↦ (x, here refl, first)
  | inr later ↦
      let found = has_flat_map f y xs later in
      (found.0, there found.1, found.2)
]

-- which notice there is
pub has_notice : (o : Option Notice) (m : Notice) → Has m (option_to_list o) → o ≡ Some m
has_notice None m h = absurd (has_none h)
has_notice (Some l) m h = ap Some (has_one h)

-- some slot, for what is of none
pub any_slot : SlotName
any_slot = record { object = []; version = 0 }

module _ {C : Type 0} {device : C → Device} {members : Membership} (s : Scene device members)
    (idle tried : ℕ) where
  open s use {w, inv, formed, n, cell, tables, recovers}

  abbrev pub q : QuorumSystem
  q = quorums device members

  abbrev pub owner : Owner
  owner = owner_of device members n

  abbrev pub volatile : VolatileState
  volatile = volatile_in (w.sites n).mode

  abbrev pub old : Serving C
  old = serving device members n (w.sites n).records volatile cell tables idle tried

  -- ---- between turns, where the book is as it was but for a record

  pub served : (new : Serving C) (o : Option Record) (mode : Mode)
      → IsKept device owner (w.sites n).records o new.site.book → new.volatile ≡ volatile_in mode
      → IsServed device members n new
      (record { records = (w.sites n).records ++ option_to_list o; mode = mode })
  served new o mode k same = record {
    records = k.records;
    opened = k.opened;
    whose = k.whose;
    volatile = same;
    recovers = rw k.records at k.recovers;
  }

  -- nothing moves
  pub stays : (new : Serving C) → IsKept device owner (w.sites n).records None new.site.book
      → new.volatile ≡ old.volatile → (D : May) → Moves device members w w n (Serves new) D
  stays new k same D = record {
    kept = inv;
    formed = formed;
    grows = grows_itself;
    others = λ j f. refl;
    is = record {
      records = k.records ∙ append-nil (w.sites n).records;
      opened = k.opened;
      whose = k.whose;
      volatile = same;
      recovers = rw (k.records, append-nil) at k.recovers;
    };
    deposits = λ j slot bag h. inl h;
  }

  -- ---- a process stops, with a record more or without

  abbrev stopped : Option Record → Network
  stopped o = (moved w n o Down [] None).network

  stops : (o : Option Record) (D : May) (slot : SlotName) (body : _)
      → Sound q w n D o slot body [] → IfSome o IsRecord → (records : List Record)
      → records ≡ (w.sites n).records ++ option_to_list o
      → Moves device members w (stopped o) n (federations.Down records) D
  stops o D slot body sound is records same =
      let next = kept_moved q w n o Down [] None D slot body sound inv nothing_recalled
      reports_nothing in
      record {
        kept = next.kept;
        formed = moved_formed w n o Down [] None formed is tt (λ d h. absurd (has_none h));
        grows = next.grows;
        others = others_stay w n o Down [] None;
        is = rw (moved_site w n o Down [] None) same;
        deposits = λ k slot bag h. elim (next.deposits k slot bag h) [
          | inl old ↦ inl old
          | inr may ↦ inr (sym (some_same may.0), may.1)
        ];
      }

  pub stops_as_it_was : (D : May) (records : List Record) → records ≡ (w.sites n).records
      → (x : Network) × Moves device members w x n (federations.Down records) D
  stops_as_it_was D records same = (
    stopped None,
    stops None D any_slot _ (nothing_sent q w n D any_slot) tt records
        (same ∙ sym (append-nil (w.sites n).records)),
  )

  -- ---- a call

  module _ (input : Input) where
    abbrev pub e : Effect
    e = effect_of q n (w.sites n).records volatile input

    -- the site, where its call is done
    abbrev pub called : Network
    called = (moved w n e.commits (Up e.volatile) e.sends (notice_of n input e.says)).network

    module _ (deed : Deed q w n input e) (is : IsWellFormedEffect e) where
      abbrev step : Next q w (Some n) (MayDeposit input)
          (moved w n e.commits (Up e.volatile) e.sends (notice_of n input e.says))
      step =
          kept_moved q w n e.commits (Up e.volatile) e.sends (notice_of n input e.says)
          (MayDeposit input) deed.slot deed.body deed.sound inv deed.recalls deed.reports

      now_is : called.sites n
          ≡ record {
            records = (w.sites n).records ++ option_to_list e.commits;
            mode = Up e.volatile;
          }
      now_is = moved_site w n e.commits (Up e.volatile) e.sends (notice_of n input e.says)

      pub ok_moves : (answer : Answer) (new : Serving C)
          → IsCalled device old input (Ok answer) new
          → Moves device members w called n (Serves new) (MayDeposit input)
      ok_moves answer new c = record {
        kept = step.kept;
        formed =
            moved_formed w n e.commits (Up e.volatile) e.sends (notice_of n input e.says) formed
            is.commits is.heard is.sends;
        grows = step.grows;
        others = others_stay w n e.commits (Up e.volatile) e.sends (notice_of n input e.says);
        is =
            rw now_is (served new e.commits (Up e.volatile)
            (kept_ok device owner old.site.book refl refl recovers e.commits answer new.site.book
            (c.answered refl).keeps) c.volatile);
        deposits = λ k slot bag h. elim (step.deposits k slot bag h) [
          | inl old ↦ inl old
          | inr may ↦ inr (sym (some_same may.0), may.1)
        ];
      }

      -- its record is lost or kept where it is killed
      pub stopped_moves : (records : List Record)
          → Recovered (w.sites n).records e.commits records → (x : Network)
          × Moves device members w x n (federations.Down records) (MayDeposit input)
      stopped_moves records (inl same) = stops_as_it_was (MayDeposit input) records same
      stopped_moves records (inr (r, commits, more)) = (
        stopped (Some r),
        stops (Some r) (MayDeposit input) deed.slot deed.body sound
            (rw commits at is.commits) records more,
      )
        where
          all : Sound q w n (MayDeposit input) (Some r) deed.slot deed.body e.sends
          all = rw commits at deed.sound

          sound : Sound q w n (MayDeposit input) (Some r) deed.slot deed.body []
          sound = record {
            each = λ d h. absurd (has_none h);
            own = all.own;
            entry = all.entry;
            says = all.says;
          }

      -- ---- what an answer hands out and says

      pub ok_posts : (answer : Answer)
          → map handed_out answer.sends.items ≡ map (datagram members.federation) e.sends
          → (addresses : List ℕ) (port : ℕ) (bytes : List ℕ)
          → Has (port, bytes) (posts_of addresses (Ok answer)) → IsSent device members called bytes
      ok_posts answer given addresses port bytes h =
          let at = has_flat_map (outgoing_posts addresses) (port, bytes) answer.sends.items h in
          let to = has_map (λ (p : ℕ). (p, at.0.bytes.items)) _ at.2 in
          let among = rw given at (map_has handed_out at.1) in
          let from = has_map (datagram members.federation) e.sends among in
          record {
            send = from.0;
            sent = has_right w.sent from.1;
            bytes_are =
                ap (λ (p : ℕ × List ℕ). p.1) (sym to.2) ∙ ap (λ (p : ℕ × List ℕ). p.1) (sym from.2);
            speaks = effect_speaks q n (w.sites n).records volatile input from.0 from.1;
          }

      -- a deposit that is registered is on record
      pub deposit_kept : (slot : SlotName) (checked : Result BagId BagFault) (bag : BagId)
          → input ≡ Deposits slot checked → e.says ≡ Ok (Some (site_lines.Registered bag))
          → HasDeposit called n slot bag
      deposit_kept slot checked bag as_input says =
          rw (now_is, as_input)
          (registered_is_kept slot (w.sites n).records volatile checked bag (rw as_input at says))

      -- a bag that is learned is on record
      known_kept : (slot : SlotName) (bag : BagId) → e.says ≡ Ok (Some (site_lines.Known slot bag))
          → HasKnown called n slot bag
      known_kept slot bag says =
          rw now_is (known_among slot ((w.sites n).records ++ option_to_list e.commits) bag
          (answered q n (w.sites n).records volatile input (record { slot = slot; bag = bag })
          (ap line_report says)))

      pub ok_notices : (answer : Answer) → e.says ≡ Ok answer.line → (notice : Notice)
          → Has notice (notices_of n input (Ok answer)) → IsNotice device members w called notice
      ok_notices answer says notice h =
          let is = has_notice (notice_of n input (Ok answer.line)) notice h in
          record {
            known = λ r reports. deed.reports.chosen notice r (rw says is) reports;
            registered = λ k slot bag e. by_line answer.line says input refl (cc is);
            learned = λ k slot bag e. by_known answer.line says input (cc is);
            replied = λ k slot bag e. absurd (no_reply answer.line input (is ∙ ap Some e));
          }
        where
          by_known : (line : Option Line) → e.says ≡ Ok line → (i : Input)
              → {k : ℕ} {slot : SlotName} {bag : BagId}
              → notice_of n i (Ok line) ≡ Some (Learned k slot bag) → HasKnown called k slot bag
          by_known (Some (site_lines.Known found_slot found)) g i {k = k} {slot = slot} {bag = bag}
              same =
              let place : n ≡ k = cc in
              let slots : found_slot ≡ slot = cc in
              let bags : found ≡ bag = cc in
              rw (← place, ← slots, ← bags) (known_kept found_slot found g)
          by_known (Some (site_lines.Registered bag)) g (Deposits slot checked) same =
              absurd (cc same)
          by_known _ g _ same = absurd (cc same)

          no_reply : (line : Option Line) (i : Input)
              → {k : ℕ} {slot : SlotName} {reply : Reply BagId}
              → notice_of n i (Ok line) ≡ Some (Replied k slot reply) → ⊥
          no_reply (Some (site_lines.Registered bag)) (Deposits slot checked) same = cc
          no_reply _ _ same = cc

          by_line : (line : Option Line) → e.says ≡ Ok line → (i : Input) → input ≡ i
              → {k : ℕ} {slot : SlotName} {bag : BagId}
              → notice_of n i (Ok line) ≡ Some (Registered k slot bag)
              → HasDeposit called k slot bag
          by_line (Some (site_lines.Registered found)) g (Deposits slot checked) f
              {k = k} {slot = k_slot} {bag = bag} same =
              let place : n ≡ k = cc in
              let slots : slot ≡ k_slot = cc in
              let bags : found ≡ bag = cc in
              rw (← place, ← slots, ← bags) (deposit_kept slot checked found f g)
          by_line _ g _ f same = absurd (cc same)

    -- ---- a refusal

    pub err_stays : (fault : SiteFault) (new : Serving C)
        → IsCalled device old input (Err fault) new → new.site.book.needs_opening ≡ false
        → (D : May) → Moves device members w w n (Serves new) D
    err_stays fault new c opened D =
        elim (kept_err device owner old.site.book refl refl recovers e.commits fault new.site.book
        (c.answered refl).keeps) [
          | inl k ↦ stays new k c.volatile D
          | inr (inl f) ↦
              let kept = rw f at (c.answered refl).keeps in
              let some = rw f at (c.answered refl).gives in
              let needs = device_needs device owner old.site.book refl refl recovers e.commits
              new.site.book some kept in
              absurd (cc (opened, needs))
          | inr (inr f) ↦ absurd (rw f at (c.answered refl).gives)
        ]

    -- a site that refuses represents what it represented
    pub err_stands : (fault : SiteFault) (new : Serving C)
        → Keeps device e.commits (Err fault) old.site.book new.site.book
        → Gives old.site new.site old.volatile e (Err fault) → new.site.book.needs_opening ≡ false
        → Represents new.site old.volatile
    err_stands faults.Memory new keeps gives opened = gives
    err_stands faults.Device new keeps gives opened =
        absurd (false≢true (sym opened
        ∙ device_needs device owner old.site.book refl refl recovers e.commits new.site.book gives
        keeps))
    err_stands faults.NeedsOpen new keeps gives opened = absurd gives
    err_stands _ new keeps gives opened = gives.1

    -- a call after which the site needs opening met a failing device
    pub failed_by_device : (result : Result Answer SiteFault) (new : Serving C)
        → IsCalled device old input result new → new.site.book.needs_opening ≡ true
        → result ≡ Err faults.Device
    failed_by_device (Ok answer) new c needs =
        absurd (false≢true (sym (kept_ok device owner old.site.book refl refl recovers e.commits
        answer new.site.book (c.answered refl).keeps).opened ∙ needs))
    failed_by_device (Err fault) new c needs =
        elim (kept_err device owner old.site.book refl refl recovers e.commits fault new.site.book
        (c.answered refl).keeps) [
          | inl k ↦ absurd (false≢true (sym k.opened ∙ needs))
          | inr (inl f) ↦ ap Err f
          | inr (inr f) ↦ absurd (rw f at (c.answered refl).gives)
        ]
