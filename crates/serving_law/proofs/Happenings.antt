-- Each happening leads from what represents a network to what represents a later one, in which
-- what it reports was chosen before.
use Rattle.std.proofs.Common.{ℕ, ◌≡◌, ◌⊎◌, inl, inr, refl, sym, ap, ◌∙◌, Bool, true, false, List}
use Rattle.std.proofs.Common.{[], ◌++◌, append-nil, take, Option, None, Some, cond}
use Rattle.std.specs.Bool.{◌==◌}
use Rattle.std.proofs.lemmas.Bool.Decides.{Decides-eqb, not_from_Decides}
use Rattle.std.specs.Prelude.{Result, Ok, Err, IfSome}
use Rattle.fed_types.specs.declared.bag_id.BagId.{BagId}
use Rattle.fed_types.specs.Lists.{Has, here}
use Rattle.fed_types.specs.Quorums.{QuorumSystem}
use Rattle.fed_types.specs.Sites.{Membership, members_of}
use Rattle.fed_types.specs.Slots.{SlotName}
use Rattle.fed_types.specs.Values.{IsMembership}
use Rattle.fed_types.specs.Laws.Lists.{has_cases, has_none, has_right, has_take}
use Rattle.cell_device.specs.Devices.{Device}
use Rattle.bag_tree.specs.declared.fault.TreeFault.{TreeFault}
use Rattle.bag_tree.specs.declared.fault.TreeFault.TheVariants as trees
use Rattle.bag_tree.specs.Facts.{TreeFacts}
use Rattle.bag_tree.specs.Fault.{IsOrMemory}
use Rattle.bag_check.proofs.ValidLaws.{valid_checked, checked_valid}
use Rattle.records.specs.declared.entry.Entry.TheVariants as entry
use Rattle.records.specs.declared.record.Record.{Record}
use Rattle.records.proofs.OneReading.{same_records_said}
use Rattle.dgram.specs.declared.body.Body.{Body}
use Rattle.dgram.specs.declared.body.Body.TheVariants.{DepositReply, QueryReply}
use Rattle.dgram.specs.declared.body.Body.TheVariants as bodies
use Rattle.dgram.specs.declared.message.Message.{Message}
use Rattle.dgram.proofs.MessageOf.{message_of-again}
use Rattle.proposer.specs.VolatileStates.{new_volatile}
use Rattle.book.specs.Opened.{Opens}
use Rattle.site.specs.Sites.{OpenSite}
use Rattle.lines.specs.declared.notice.Notice.{Notice}
use Rattle.world_law.specs.Laws.{IsChosen}
use Rattle.world_law.specs.Networks.{Network, SiteState, Up, volatile_in}
use Rattle.world_law.proofs.Deeds.{nothing_sent}
use Rattle.world_law.proofs.Grows.{Grows, grows_itself}
use Rattle.world_law.proofs.Step.{moved, kept_moved, Next, nothing_recalled, reports_nothing}
use Rattle.udp_site.specs.Traffic.{Post}
use Rattle.udp_site.specs.Requests.{Request, Deposits}
use Rattle.udp_site.specs.Turns as turns
use Rattle.udp_site.specs.Turns.{Serving, Done, begins, comes_of}
use Rattle.udp_site.specs.Served.{Turned, is_the_last}
use Rattle.serving_law.specs.Federations.{Member, Serves, Down, Federation, Step, Happening, Turns}
use Rattle.serving_law.specs.Federations.{Fails, Dies, Ends, Renews, Starts, becomes, renewed}
use Rattle.serving_law.specs.Federations.{after}
use Rattle.serving_law.specs.Reports.{Showing, showing_of, IsTold, Prints, Tells, Reports}
use Rattle.serving_law.specs.Reports.{Registers, SaysKnown, known_told, records_of, step_of}
use Rattle.serving_law.specs.Reports.{IsDeposit}
use Rattle.serving_law.specs.Rules.{owner_of, IsServing, Takes, May, MayRecoverTo}
use Rattle.serving_law.specs.Rules as rules
use Rattle.serving_law.proofs.Spoken.{IsSiteBody}
use Rattle.serving_law.proofs.Moves.{moved_site, others_stay, moved_formed}
use Rattle.serving_law.proofs.Recoveries.{recovered_now}
use Rattle.serving_law.proofs.Requests.{IsAsked}
use Rattle.serving_law.proofs.Scene.{Scene, OnlyNow}
use Rattle.serving_law.proofs.Networks.{quorums, serving, is_serving, IsServed, IsMember}
use Rattle.serving_law.proofs.Networks.{SaysRightly, IsPost, IsNotice, Means, HasDeposit, HasKnown}
use Rattle.serving_law.proofs.Networks.{Moves, Goes, Stands}
use Rattle.serving_law.proofs.Networks as standing
use Rattle.serving_law.proofs.Calls.{stops_as_it_was, any_slot}
use Rattle.serving_law.proofs.Turns as turning
use Rattle.serving_law.proofs.AnyTurn.{turn_ends}

-- no site's message tells a client anything
site_tells_nothing : (body : Body) (bag : BagId) → IsSiteBody body → known_told body ≡ Some bag → ⊥
site_tells_nothing (bodies.Deposit path) bag is e = absurd is
site_tells_nothing bodies.Query bag is e = absurd is
site_tells_nothing bodies.Recover bag is e = absurd is
site_tells_nothing (bodies.DepositReply from answer) bag is e = absurd is
site_tells_nothing (bodies.QueryReply from answer) bag is e = absurd is
site_tells_nothing _ bag is e = cc

module _ {C : Type 0} (device : C → Device) (members : Membership)
    (is_membership : IsMembership members) (only_now : OnlyNow device)
  where
    abbrev q : QuorumSystem
    q = quorums device members

    abbrev federation : ℕ
    federation = members.federation

    -- what a happening leads to
    pub record Went (f : Federation C) (h : Happening C) (w : Network) : Type 0 where
      pub x : Network
      pub stands : Stands device members (after f h) x
      pub grows : Grows w x
      pub reports : (slot : SlotName) (bag : BagId) → Reports federation h slot bag
          → IsChosen q w slot bag
      pub registers : (n : ℕ) (slot : SlotName) (bag : BagId) → Registers federation h n slot bag
          → HasDeposit x n slot bag
      pub knows : (n : ℕ) (slot : SlotName) (bag : BagId) → SaysKnown federation h n slot bag
          → HasKnown x n slot bag
      pub deposits : (n : ℕ) (slot : SlotName) (bag : BagId) → HasDeposit x n slot bag
          → HasDeposit w n slot bag ⊎ IsDeposit federation f h slot bag

    means_grows : {w x : Network} → Grows w x → (bytes : List ℕ) → Means device members w bytes
        → Means device members x bytes
    means_grows g bytes (inl s) = inl (record {
      send = s.send;
      sent = g.sent s.send s.sent;
      bytes_are = s.bytes_are;
      speaks = s.speaks;
    })
    means_grows g bytes (inr r) = inr r

    post_means : {w x : Network} (bytes : List ℕ) → IsPost device members w x bytes
        → Means device members x bytes
    post_means bytes (inl s) = inl s
    post_means bytes (inr (m, r, right)) = inr (m, r)

    pub records_are : (n : ℕ) (m : Member C) (t : SiteState) → IsMember device members n m t
        → records_of m ≡ t.records
    records_are n (Serves s) t is = is.records
    records_are n (Down records) t is = is

    -- ---- what is shown of a turn

    module _ {w : Network} {n : ℕ} {now : Member C} {D : standing.May} (turn : Turned)
        (g : Goes device members w n turn.done now D) (handed written : ℕ) where
      open g use {x, moves, posts, notices}

      abbrev showing : Showing
      showing = record { turn = turn; handed = handed; written = written }

      -- the message that was sent, or the reply
      told : (message : Message) → IsTold federation showing message
          → IsSiteBody message.body ⊎ SaysRightly device members w x message
      told message t = elim (posts t.address t.bytes (has_take handed turn.done.posts t.handed)) [
        | inl s ↦
            let read = message_of-again federation s.send.message
            (moves.formed.sent s.send s.sent).1 in
            let same : s.send.message ≡ message = cc read in
            inl (rw same at s.speaks)
        | inr reply ↦
            let bytes_are = reply.1.bytes_are in
            let read = message_of-again federation reply.0 reply.1.is in
            let same : reply.0 ≡ message = cc (bytes_are, read) in
            inr (rw same at reply.2)
      ]

      module _ (h : Happening C) (shows : showing_of h ≡ Some showing) where
        printed : (notice : Notice) → Prints h notice → IsNotice device members w x notice
        printed notice (s, e, p) =
            let same : s ≡ showing = cc in
            let p = rw same at p in
            notices notice (rw p.split (has_right p.before (here refl)))

        tells : (message : Message) → Tells federation h message
            → IsSiteBody message.body ⊎ SaysRightly device members w x message
        tells message (s, e, t) = let same : s ≡ showing = cc in told message (rw same at t)

        shown_reports : (slot : SlotName) (bag : BagId) → Reports federation h slot bag
            → IsChosen q w slot bag
        shown_reports slot bag (inl (notice, line, report)) = (printed notice line).known _ report
        shown_reports slot bag (inr (body, reply, known)) = elim (tells _ reply) [
          | inl site ↦ absurd (site_tells_nothing body bag site known)
          | inr right ↦ right.known bag known
        ]

        shown_registers : (n : ℕ) (slot : SlotName) (bag : BagId)
            → Registers federation h n slot bag → HasDeposit x n slot bag
        shown_registers n slot bag (inl line) = (printed _ line).registered n slot bag refl
        shown_registers n slot bag (inr reply) = elim (tells _ reply) [
          | inl site ↦ absurd site
          | inr right ↦ right.registered n bag refl
        ]

        shown_knows : (n : ℕ) (slot : SlotName) (bag : BagId)
            → SaysKnown federation h n slot bag → HasKnown x n slot bag
        shown_knows n slot bag (inl line) = (printed _ line).learned n slot bag refl
        shown_knows n slot bag (inr (inl line)) =
            moves.grows.kept n slot (entry.Known bag) ((printed _ line).replied n slot bag refl)
        shown_knows n slot bag (inr (inr (inl reply))) = elim (tells _ reply) [
          | inl site ↦ absurd site
          | inr right ↦ moves.grows.kept n slot (entry.Known bag) (right.queried n bag refl)
        ]
        shown_knows n slot bag (inr (inr (inr reply))) = elim (tells _ reply) [
          | inl site ↦ absurd site
          | inr right ↦ moves.grows.kept n slot (entry.Known bag) (right.refused n bag refl)
        ]

    -- what shows nothing reports nothing
    module _ (h : Happening C) (none : showing_of h ≡ None) where
      no_reports : (slot : SlotName) (bag : BagId) → Reports federation h slot bag → ⊥
      no_reports slot bag (inl (notice, (s, e, printed), report)) = cc
      no_reports slot bag (inr (body, (s, e, t), known)) = cc

      no_registers : (n : ℕ) (slot : SlotName) (bag : BagId) → Registers federation h n slot bag → ⊥
      no_registers n slot bag (inl (s, e, printed)) = cc
      no_registers n slot bag (inr (s, e, t)) = cc

      no_knows : (n : ℕ) (slot : SlotName) (bag : BagId) → SaysKnown federation h n slot bag → ⊥
      no_knows n slot bag (inl (s, e, printed)) = cc
      no_knows n slot bag (inr (inl (s, e, printed))) = cc
      no_knows n slot bag (inr (inr (inl (s, e, t)))) = cc
      no_knows n slot bag (inr (inr (inr (s, e, t)))) = cc

    -- ---- one member moves

    module _ (f : Federation C) (w : Network) (stands : Stands device members f w) where
      moved_stands : (x : Network) (n : ℕ) (now : Member C) (D : standing.May)
          → Moves device members w x n now D → (posts : List Post)
          → ((port : ℕ) (bytes : List ℕ) → Has (port, bytes) posts → Means device members x bytes)
          → Stands device members (becomes f n now posts) x
      moved_stands x n now D m posts mean = record {
        kept = m.kept;
        formed = m.formed;
        is = λ k. go k (k == n) refl;
        handed = λ port bytes h. elim (has_cases f.handed posts h) [
          | inl old ↦ means_grows m.grows bytes (stands.handed port bytes old)
          | inr new ↦ mean port bytes new
        ];
      }
        where
          go : (k : ℕ) (t : Bool) → (k == n) ≡ t
              → IsMember device members k (cond t now (f.members k)) (x.sites k)
          go k true e = rw ((Decides-eqb k n).0 e) m.is
          go k false e = rw (m.others k (not_from_Decides _ (Decides-eqb k n) e)) (stands.is k)

      -- member n serves
      served_at : (n : ℕ) (old : Serving C) → f.members n ≡ Serves old
          → IsServed device members n old (w.sites n)
      served_at n old e = rw e at (stands.is n)

      down_at : (n : ℕ) (records : List Record) → f.members n ≡ Down records
          → records ≡ (w.sites n).records
      down_at n records e = rw e at (stands.is n)

      -- member n serves, in this network
      abbrev scene : (n : ℕ) → Has n (members_of members) → (old : Serving C)
          → IsServed device members n old (w.sites n) → Scene device members
      scene n member old is = record {
        is_membership = is_membership;
        only_now = only_now;
        w = w;
        inv = stands.kept;
        formed = stands.formed;
        n = n;
        member = member;
        cell = old.site.book.cell;
        tables = old.site.tables;
        recovers = is.recovers;
      }

      -- ---- a turn

      abbrev Deposited : Step C → standing.May
      Deposited step = IsAsked federation step.folders step.turn.took

      -- a new deposit is that of the turn's
      new_deposit : (h : Happening C) (n : ℕ) (step : Step C) → step_of h ≡ Some (n, step)
          → (x : Network) → Stands device members (after f h) x → (slot : SlotName) (bag : BagId)
          → HasDeposit x n slot bag → Deposited step slot bag → IsDeposit federation f h slot bag
      new_deposit h n step takes x next slot bag kept a = record {
        member = n;
        step = step;
        takes = takes;
        address = a.address;
        path = a.path;
        asked = a.asked;
        facts = a.facts;
        read = a.read;
        valid = checked_valid a.facts bag a.checked;
        identity = cc (a.checked, valid_checked a.facts (checked_valid a.facts bag a.checked));
        on_record = rw (records_are n ((after f h).members n) (x.sites n) (next.is n)) kept;
      }

      -- a deposit is on record from before, or it is new
      deposits_of : {n : ℕ} {x : Network} {now : Member C} {D : standing.May} (h : Happening C)
          → Moves device members w x n now D
          → ((slot : SlotName) (bag : BagId) → HasDeposit x n slot bag → D slot bag
          → IsDeposit federation f h slot bag)
          → (k : ℕ) (slot : SlotName) (bag : BagId) → HasDeposit x k slot bag
          → HasDeposit w k slot bag ⊎ IsDeposit federation f h slot bag
      deposits_of h m is k slot bag d = elim (m.deposits k slot bag d) [
        | inl before ↦ inl before
        | inr new ↦ inr (is slot bag (rw new.0 at d) new.1)
      ]

      -- what shows nothing
      silent : (h : Happening C) → showing_of h ≡ None → (n : ℕ) (now : Member C)
          → after f h ≡ becomes f n now [] → (x : Network) (D : standing.May)
          → Moves device members w x n now D
          → (Stands device members (after f h) x → (slot : SlotName) (bag : BagId)
          → HasDeposit x n slot bag → D slot bag → IsDeposit federation f h slot bag) → Went f h w
      silent h none n now leads x D m is =
          let next : Stands device members (after f h) x = rw leads (moved_stands x n now D m []
          (λ port bytes p. absurd (has_none p))) in
          record {
            x = x;
            stands = next;
            grows = m.grows;
            reports = λ slot bag r. absurd (no_reports h none slot bag r);
            registers = λ k slot bag r. absurd (no_registers h none k slot bag r);
            knows = λ k slot bag r. absurd (no_knows h none k slot bag r);
            deposits = deposits_of h m (is next);
          }

      module _ (n : ℕ) (member : Has n (members_of members)) (old : Serving C)
          (serves : f.members n ≡ Serves old) where
        is : IsServed device members n old (w.sites n)
        is = served_at n old serves

        abbrev Came : Done → Serving C → standing.May → Type 0
        Came = turning.Ends (scene n member old is)

        came : (step : Step C) → Takes device members f old step
            → Came step.turn.done step.next (Deposited step)
        came step t =
            turn_ends (scene n member old is) f.handed stands.handed step.addresses
            step.folders step.turn.took t.may_come old.idle old.tried step.turn.done step.next
            (rw (is_serving device members n old (w.sites n) is) at t.comes)

        -- a turn that is shown, to this happening
        shown : (h : Happening C) (step : Step C) → step_of h ≡ Some (n, step)
            → (handed written : ℕ) → showing_of h
            ≡ Some (record { turn = step.turn; handed = handed; written = written })
            → (now : Member C) → after f h ≡ becomes f n now (take handed step.turn.done.posts)
            → Goes device members w n step.turn.done now (Deposited step) → Went f h w
        shown h step takes handed written shows now leads g =
            let next : Stands device members (after f h) g.x = rw leads
            (moved_stands g.x n now (Deposited step) g.moves (take handed step.turn.done.posts)
            (λ port bytes p.
            post_means bytes (g.posts port bytes (has_take handed step.turn.done.posts p)))) in
            record {
              x = g.x;
              stands = next;
              grows = g.moves.grows;
              reports = shown_reports step.turn g handed written h shows;
              registers = shown_registers step.turn g handed written h shows;
              knows = shown_knows step.turn g handed written h shows;
              deposits = deposits_of h g.moves (new_deposit h n step takes g.x next);
            }

        -- a turn in which it is killed
        unshown : (h : Happening C) (step : Step C) → step_of h ≡ Some (n, step)
            → showing_of h ≡ None → (now : Member C) → after f h ≡ becomes f n now []
            → (x : Network) → Moves device members w x n now (Deposited step) → Went f h w
        unshown h step takes none now leads x m =
            silent h none n now leads x (Deposited step) m (new_deposit h n step takes x)

      -- ---- no turn

      abbrev Nothing : standing.May
      Nothing slot bag = ⊥

      quiet : (h : Happening C) → showing_of h ≡ None → (n : ℕ) (now : Member C)
          → after f h ≡ becomes f n now [] → (x : Network) → Moves device members w x n now Nothing
          → Went f h w
      quiet h none n now leads x m =
          silent h none n now leads x Nothing m (λ next slot bag d new. absurd new)

      ends : (n : ℕ) → Has n (members_of members) → (old : Serving C)
          → IsServed device members n old (w.sites n) → (records : List Record)
          → MayRecoverTo (owner_of device members n) (device old.site.book.cell)
          (device old.site.book.cell) records
          → (x : Network) × Moves device members w x n (Down records) Nothing
      ends n member old is records m =
          stops_as_it_was (scene n member old is) old.idle old.tried Nothing records
          (recovered_now device (owner_of device members n)
          (serving device members n (w.sites n).records (volatile_in (w.sites n).mode)
          old.site.book.cell old.site.tables old.idle old.tried).site.book
          refl refl is.recovers only_now records m)

      renews : (n : ℕ) (old : Serving C) → IsServed device members n old (w.sites n)
          → Moves device members w w n (Serves (begins old.site old.volatile)) Nothing
      renews n old is = record {
        kept = stands.kept;
        formed = stands.formed;
        grows = grows_itself;
        others = λ k other. refl;
        is = record {
          records = is.records;
          opened = is.opened;
          whose = is.whose;
          volatile = is.volatile;
          recovers = is.recovers;
        };
        deposits = λ k slot bag d. inl d;
      }

      starts : (n : ℕ) (cell : C) (site : OpenSite C) (records : List Record)
          → records ≡ (w.sites n).records
          → rules.ReadGives (owner_of device members n) (device cell) records
          → Opens device (owner_of device members n) cell (Ok site.book)
          → (x : Network) × Moves device members w x n (Serves (begins site new_volatile)) Nothing
      starts n cell site records same reads opens = (
        x,
        record {
          kept = next.kept;
          formed =
              moved_formed w n None (Up new_volatile) [] None stands.formed tt tt
              (λ d h. absurd (has_none h));
          grows = next.grows;
          others = others_stay w n None (Up new_volatile) [] None;
          is =
              rw (moved_site w n None (Up new_volatile) [] None) (record {
                records = same_records;
                opened = opens.whose.1;
                whose = opens.whose.0;
                volatile = refl;
                recovers = rw same_records at opens.recovers;
              });
          deposits = λ k slot bag d. elim (next.deposits k slot bag d) [
            | inl before ↦ inl before
            | inr new ↦ absurd new.1
          ];
        },
      )
        where
          x : Network
          x = (moved w n None (Up new_volatile) [] None).network

          next : Next q w (Some n) Nothing (moved w n None (Up new_volatile) [] None)
          next = kept_moved q w n None (Up new_volatile) [] None Nothing any_slot (bodies.Ask n)
              (nothing_sent q w n Nothing any_slot) stands.kept nothing_recalled reports_nothing

          same_records : site.book.records ≡ (w.sites n).records ++ []
          same_records =
              same_records_said (owner_of device members n) site.book.records records
              reads.image.seen (rw reads.told at opens.records) reads.says
              ∙ same ∙ sym (append-nil (w.sites n).records)

      -- ---- any happening

      pub went : (h : Happening C) → May device members f h → Went f h w
      went (Turns n step handed written) (old, serves, takes, opened) =
          shown n serves.0 old serves.1 (Turns n step handed written) step refl handed written refl
          (Serves step.next) refl ((came n serves.0 old serves.1 step takes).goes opened)
      went (Fails n step handed written records) (old, serves, takes, needs, recovers) =
          shown n serves.0 old serves.1 (Fails n step handed written records) step refl handed
          written refl (Down records) refl
          ((came n serves.0 old serves.1 step takes).fails needs records recovers)
      went (Dies n step records) (old, serves, takes, recovers) =
          let moves = (came n serves.0 old serves.1 step takes).dies records recovers in
          unshown n serves.0 old serves.1 (Dies n step records) step refl refl (Down records) refl
          moves.0 moves.1
      went (Ends n records) (old, serves, recovers) =
          let moves = ends n serves.0 old (served_at n old serves.1) records recovers in
          quiet (Ends n records) refl n (Down records) refl moves.0 moves.1
      went (Renews n) (old, serves) =
          quiet (Renews n) refl n (Serves (begins old.site old.volatile))
          (ap (λ (m : Member C). becomes f n (renewed m) []) serves.1) w
          (renews n old (served_at n old serves.1))
      went (Starts n cell site) (member, (records, down, reads), opens) =
          let moves = starts n cell site records (down_at n records down) reads opens in
          quiet (Starts n cell site) refl n (Serves (begins site new_volatile)) refl moves.0 moves.1

      -- ---- a turn, whatever is known of folders

      pub goes_on : (n : ℕ) (member : Has n (members_of members)) (old : Serving C)
          (serves : f.members n ≡ Serves old) (step : Step C) → Takes device members f old step
          → is_the_last step.turn ≡ false → step.next.site.book.needs_opening ≡ false
      goes_on n member old serves step takes not_last =
          by_test step.next.site.book.needs_opening refl
        where
          by_test : (t : Bool) → step.next.site.book.needs_opening ≡ t
              → step.next.site.book.needs_opening ≡ false
          by_test false e = e
          by_test true e =
              let last = (came n member old serves step takes).last e in
              absurd (cc (last, not_last))

      -- a site that represents what it has heard does so after the turn
      pub stands_then : (n : ℕ) (member : Has n (members_of members)) (old : Serving C)
          (serves : f.members n ≡ Serves old) (step : Step C) → Takes device members f old step
          → turns.IsServing old → turns.IsServing step.next
      stands_then n member old serves step takes before opened =
          (came n member old serves step takes).stands
          (rw (is_serving device members n old (w.sites n) (served_at n old serves)) at
          (before (served_at n old serves).opened)) opened

-- some folders give what was read: those that are known, where they are
abbrev pub HasFolders : {C : Type 0} → (C → Device) → (addresses : List ℕ)
    → Option (List ℕ → Result TreeFacts TreeFault) → (old next : Serving C) → Done → Request
    → Type 0
HasFolders device addresses gives old next done r =
    (folders : List ℕ → Result TreeFacts TreeFault) × IfSome gives (λ answer. folders ≡ answer)
    × comes_of device addresses (Some folders) old r done next

module _ {C : Type 0} (device : C → Device) (addresses : List ℕ) (old next : Serving C)
    (done : Done) where
  unknown_folders : (r : Request) → comes_of device addresses None old r done next
      → HasFolders device addresses None old next done r
  unknown_folders (Deposits port slot path) (read, given, tree) =
      (λ path. read, tt, (read, as_read read, tree))
    where
      as_read : (read : Result TreeFacts TreeFault) → IsOrMemory read read
      as_read (Err trees.Memory) = tt
      as_read _ = refl
  unknown_folders _ t = (λ path. Err trees.Memory, tt, t)

  pub with_folders : (gives : Option (List ℕ → Result TreeFacts TreeFault)) (r : Request)
      → comes_of device addresses gives old r done next
      → HasFolders device addresses gives old next done r
  with_folders (Some answer) r t = (answer, refl, t)
  with_folders None r t = unknown_folders r t
