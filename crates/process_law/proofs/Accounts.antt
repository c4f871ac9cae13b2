-- The account of a member whose process serves.
use Rattle.std.proofs.Common.{◌≡◌, ◌≤◌, ℕ, ◌-◌, ◌+◌, List, [], ◌∷◌, ◌++◌, length, take, refl, sym}
use Rattle.std.proofs.Common.{◌∙◌, append-nil, append_assoc, take_all, take-add, arith}
use Rattle.std.specs.Prelude.{Result, Ok, IsSome}
use Rattle.fed_types.specs.Sites.{Membership, members_of}
use Rattle.fed_types.specs.Laws.Lists.{is_in_decides}
use Rattle.cell_device.specs.Devices.{Device}
use Rattle.cell_device.specs.Images.{at_rest}
use Rattle.records.specs.declared.record.Record.{Record}
use Rattle.records.specs.Records.{AreRecords}
use Rattle.records.proofs.OneReading.{same_records_said}
use Rattle.book.specs.declared.fault.CommitFault.{CommitFault}
use Rattle.book.specs.declared.waiting.Waiting.{Waiting}
use Rattle.book.specs.Batches.{waiting}
use Rattle.book.specs.OpenBooks.{OpenBook}
use Rattle.book.specs.Opened.{Opens}
use Rattle.proposer.specs.VolatileStates.{new_volatile}
use Rattle.site.specs.Sites.{OpenSite}
use Rattle.site.proofs.Batched.{Grows}
use Rattle.udp_site.specs.Traffic.{Post}
use Rattle.udp_site.specs.Turns.{Serving}
use Rattle.udp_site.specs.Served.{Turned, Outside}
use Rattle.udp_site.specs.BatchTurns.{Batch, Batching, Batches, Lead, turns_of, posts_of}
use Rattle.udp_site.specs.BatchTurns.{text_of_all, begins_with}
use Rattle.udp_site.proofs.WaitingTurns.{followed}
use Rattle.site_commands.specs.Services.{goes_on_from}
use Rattle.serving_law.specs.Disks as disks
use Rattle.serving_law.specs.Disks.{Disk, Holds, journal}
use Rattle.serving_law.specs.Federations.{Serves, Down, Happening, Starts}
use Rattle.serving_law.specs.Rules.{MayRecoverTo, ReadGives}
use Rattle.serving_law.proofs.DiskJournals.{says, opens_again}
use Rattle.serving_law.proofs.Scene.{OnlyNow}
use Rattle.register_law.specs.Overlaps.{own_after, MayHappenTo, IsAccount}
use Rattle.batch_law.specs.OnDisks.{on_disk}
use Rattle.batch_law.proofs.Crashes.{crashes}
use Rattle.batch_law.proofs.DiskBooks.{on_open}
use Rattle.batch_law.proofs.FirstTurns.{firsts}
use Rattle.process_law.specs.Processes.{Last, Quiet, Unsynced, Synced, IsLast, WentOn, HasCome}
use Rattle.process_law.specs.Processes.{all_batches, whole_batches, AreOfLast, posts_last}
use Rattle.process_law.specs.Processes.{text_last, IsAccountOf, after_account, turns_in, posts_in}
use Rattle.process_law.specs.Processes.{text_in, AccountsGoOn, ProcessesHaveAccounts, TellsAll}
use Rattle.process_law.specs.Processes.{moves_since, text_since}
use Rattle.process_law.proofs.Decoded.{decoded}
use Rattle.process_law.proofs.HandedOut.{tells_all}
use Rattle.process_law.proofs.Stands.{Stands, same_left, stands_first, stands_next}
use Rattle.process_law.proofs.Takes.{take_both, all_within}
use Rattle.process_law.proofs.Told.{Service, Rest, rule, owner, before, ended, renews, turns_told}
use Rattle.process_law.proofs.Told.{all_told}

module _ {C : Type 0} (device : C → Device) (only_now : OnlyNow device)
    (tells : (c : C) → IsSome (device c).image) (its : Service) where
  abbrev Stood : Batching C → Type 0
  Stood b = Stands device tells (owner its) b.serving.site.book b.held

  -- ---- whole batches

  -- what is told of these batches, and then of others
  abbrev After : Batching C → List Record → List Batch → List Turned → List Post → List ℕ → Type 0
  After b left batches turns posts text =
      Rest its (Serves (on_disk b.serving)) left (turns_of batches ++ turns)
      (posts_of (turns_of batches) ++ posts) (text_of_all (turns_of batches) ++ text)

  -- these batches lead from the one to the other: they are told before all that is told then
  abbrev AreTold : (start end : Batching C) → List Batch → Type 0
  AreTold start end batches =
      Stood end × ((more : List Batch) (left : List Record) (turns : List Turned)
      (posts : List Post) (text : List ℕ) → After end left more turns posts text
      → After start left (batches ++ more) turns posts text)

  batches_told : (batches : List Batch) (start end : Batching C) → Stood start
      → Lead device (rule its) start batches end → AreTold start end batches
  batches_told [] start end stands lead =
      (rw (← lead) stands, λ more left turns posts text rest. rw lead rest)
  batches_told (batch ∷ batches) start end stands (next, made, lead) =
      let then : Stood next =
      stands_next device tells (owner its) its.addresses its.gives stands made in
      let told = batches_told batches next end then lead in (
        told.0,
        λ more left turns posts text rest.
            all_told its batch.turns start.serving next.serving made.follow stands.whose
            stands.opened then.are (turns_of (batches ++ more)) turns posts text
            (told.1 more left turns posts text rest),
      )

  calls_told : (calls : List (List Batch)) (start begun : Batching C) → Stood start
      → WentOn device (rule its) start begun calls → AreTold start begun (all_batches calls)
  calls_told [] start begun stands is =
      (rw is stands, λ more left turns posts text rest. rw (← is) rest)
  calls_told (batches ∷ calls) start begun stands (mid, lead, went_on) =
      let first = batches_told batches start mid stands lead in
      let later = calls_told calls (goes_on_from mid) begun first.0 went_on in (
        later.0,
        λ more left turns posts text rest.
            rw (append_assoc batches (all_batches calls) more)
            (first.1 (all_batches calls ++ more) left turns posts text
            (renews its mid.serving (later.1 more left turns posts text rest))),
      )

  -- ---- the last

  -- what is told of what a process did last
  record AtLast (b : Batching C) (left : List Record) (last : Last) : Type 0 where
    shown : List Turned
    are_last : AreOfLast last shown
    rest : Rest its (Serves (on_disk b.serving)) left shown (posts_last last) (text_last last)

  -- the records that a crash leaves in a sync are those from before, and the first of the new ones
  module _ (mid next : Batching C) (batch : Batch) (answer : Result (Unit {0}) CommitFault)
      (left : List Record) (stands : Stood mid)
      (made : Batches device (rule its) mid batch answer next)
      (may : MayRecoverTo (owner its) (device mid.held.cell) (device next.held.cell) left) where
    abbrev old : List Record
    old = mid.serving.site.book.records

    abbrev new : OpenBook Waiting
    new = next.serving.site.book

    grows : Grows mid.serving.site.book new
    grows =
        followed its.addresses its.gives mid.serving next.serving batch.turns stands.opened
        made.follow

    crashed : (k : ℕ) × (left ≡ take mid.held.synced new.records ++ take k (waiting mid.held new))
    crashed =
        crashes device mid.held next.held new answer left stands.held_opened made.synced
        (rw (grows.owner ∙ stands.whose) may)

    abbrev count : ℕ
    count = mid.held.synced + crashed.0

    enough : length old ≤ count
    enough = omega (arith, all_within mid.held.synced old stands.synced)

    first_left : left ≡ old ++ take (count - length old) grows.more
    first_left =
        let all = take-add mid.held.synced crashed.0 new.records in
        let both = take_both count old grows.more in
        cc (crashed.1, all, grows.records, both, take_all count old enough)

    unsynced : (refused : List Post) (said : List ℕ)
        → AtLast mid left (Unsynced batch refused said)
    unsynced refused said =
        let part = firsts its.addresses its.gives batch.turns mid.serving next.serving
        (count - length old) stands.opened made.follow in
        let those : List Turned = part.0 in
        let stopped : Serving Waiting = part.3 in
        let same : left ≡ stopped.site.book.records =
        first_left ∙ sym (part.5 grows.more grows.records) in
        let are : AreRecords stopped.site.book.records =
        rw same at (decoded (owner its) may.bytes left may.says) in
        let then : Grows mid.serving.site.book stopped.site.book =
        followed its.addresses its.gives mid.serving stopped those stands.opened part.4 in
        record {
          shown = those;
          are_last = (part.1, part.2);
          rest =
              simp append-nil at
              (turns_told its those mid.serving stopped 0 0 part.4 stands.whose stands.opened are
              (ended its stopped same (then.owner ∙ stands.whose) are));
        }

  at_last : (mid : Batching C) (left : List Record) (last : Last) → Stood mid
      → IsLast device (rule its) (owner its) mid left last → AtLast mid left last
  at_last mid left (Quiet moves) stands (none, may) = record {
    shown = [];
    are_last = refl;
    rest =
        ended its mid.serving (same_left device tells (owner its) only_now stands may) stands.whose
        stands.are;
  }
  at_last mid left (Unsynced batch refused said) stands (next, answer, made, refusal, may) =
      unsynced mid next batch answer left stands made may refused said
  at_last mid left (Synced batch handed written) stands (next, made, may) =
      let then : Stood next =
      stands_next device tells (owner its) its.addresses its.gives stands made in
      record {
        shown = batch.turns;
        are_last = refl;
        rest =
            simp append-nil at
            (turns_told its batch.turns mid.serving next.serving handed written made.follow
            stands.whose stands.opened then.are
            (ended its next.serving (same_left device tells (owner its) only_now then may)
            then.whose then.are));
      }

  -- ---- a process

  module _ {cell : C} {before_it now : Outside} {records left : List Record}
      (reads : ReadGives (owner its) (device cell) records)
      (come : HasCome device (rule its) (owner its) cell before_it now left) where
    abbrev start : Batching C
    start = begins_with come.site come.held new_volatile

    stands : Stood start
    stands = stands_first device tells (owner its) come.opens come.parted

    calls : AreTold start come.here (all_batches come.calls)
    calls = calls_told come.calls start come.here stands come.went_on

    batches : AreTold come.here come.mid come.batches
    batches = batches_told come.batches come.here come.mid calls.0 come.lead

    last : AtLast come.mid left come.last
    last = at_last come.mid left come.last batches.0 come.is_last

    rest : After start left (whole_batches come) last.shown (posts_last come.last)
        (text_last come.last)
    rest =
        calls.1 come.batches left _ _ _
        (rw (append-nil come.batches) at (batches.1 [] left _ _ _ last.rest))

    -- ---- its start

    are : AreRecords records
    are = decoded (owner its) reads.image.seen records reads.says

    its_records : come.site.book.records ≡ records
    its_records =
        come.parted.records
        ∙ same_records_said (owner its) come.opened.book.records records reads.image.seen
        (rw reads.told at come.opens.records) reads.says

    abbrev disk : Disk
    disk = Holds (owner its) records

    abbrev site : OpenSite Disk
    site = (on_disk start.serving).site

    opens : Opens disks.device (owner its) disk (Ok site.book)
    opens =
        rw (← on_open come.site.book (owner its) records stands.whose its_records stands.opened)
        (opens_again (owner its) its.is_membership.1 records are)

    starts_may : MayHappenTo disks.device its.members (Down records) (Starts its.n disk site)
    starts_may f is come_in = (
      its.has,
      (
        records,
        is,
        record {
          image = at_rest (journal (owner its) records);
          told = refl;
          says = says (owner its) its.is_membership.1 records are;
        },
      ),
      opens,
    )

    has_account : (account : List (Happening Disk))
        × IsAccountOf its.members its.n its.addresses its.gives records left (whole_batches come)
        come.last account
        × TellsAll (moves_since come) (text_since come) come.last account
    unfolding IsAccount after_account turns_in posts_in text_in
    has_account = (
      Starts its.n disk site ∷ rest.account,
      record {
        disk = disk;
        site = site;
        later = rest.account;
        begins = refl;
        is = (starts_may, rest.is);
        leaves = rest.leaves;
        are_of = before its (Starts its.n disk site) rest.account (refl, tt) rest.are_of;
        shown = last.shown;
        are_last = last.are_last;
        turns = rest.turns_are;
        posts = rest.posts_are;
        text = rest.text_is;
      },
      tells_all come _ rest.posts_are rest.text_is,
    )

pub accounts_go_on : (members : Membership) → AccountsGoOn members
unfolding IsAccount after_account
accounts_go_on members m [] next is then_is = then_is
accounts_go_on members m (h ∷ first) next is then_is =
    (is.0, accounts_go_on members (own_after m h) first next is.1 then_is)

pub processes_have_accounts : {C : Type 0} (device : C → Device) (members : Membership)
    → OnlyNow device → ProcessesHaveAccounts device members
processes_have_accounts device members only_now n addresses gives cell before now records left
    tells reads come =
    has_account device only_now tells (record {
      members = members;
      is_membership = come.membership;
      n = n;
      has = (is_in_decides (members_of members) n).0 come.member;
      addresses = addresses;
      gives = gives;
    }) reads come
