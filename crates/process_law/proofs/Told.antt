-- An account from here on, until the member is down: each happening that comes before makes a
-- longer one.
use Rattle.std.proofs.Common.{◌≡◌, ℕ, false, ◌-◌, List, [], ◌∷◌, ◌++◌, length, take, Option, refl}
use Rattle.std.proofs.Common.{◌∙◌, append_assoc}
use Rattle.std.specs.Prelude.{Result}
use Rattle.std.proofs.Math.Seq.{take-length, take-nil}
use Rattle.std.proofs.lemmas.List.Concat.{flat_map-append}
use Rattle.bag_tree.specs.declared.fault.TreeFault.{TreeFault}
use Rattle.bag_tree.specs.Facts.{TreeFacts}
use Rattle.fed_types.specs.Lists.{Has, here, there}
use Rattle.fed_types.specs.Sites.{Membership, members_of}
use Rattle.fed_types.specs.Values.{IsMembership}
use Rattle.fed_types.specs.Laws.Lists.{has_none}
use Rattle.records.specs.declared.owner.Owner.{Owner}
use Rattle.records.specs.declared.record.Record.{Record}
use Rattle.records.specs.Records.{AreRecords}
use Rattle.book.specs.declared.waiting.Waiting.{Waiting}
use Rattle.site.specs.Batches.{no_cell}
use Rattle.site.proofs.Batched.{Grows}
use Rattle.udp_site.specs.Traffic.{Post}
use Rattle.udp_site.specs.Turns as turns
use Rattle.udp_site.specs.Turns.{Serving, begins, turn_of}
use Rattle.udp_site.specs.Served.{Rule, Turned, text_of}
use Rattle.udp_site.specs.Requests.{request_of}
use Rattle.udp_site.specs.BatchTurns.{Follow, posts_of, text_of_all}
use Rattle.udp_site.proofs.WaitingTurns.{followed, followed_by}
use Rattle.serving_law.specs.Disks.{Disk, device}
use Rattle.serving_law.specs.Federations.{Member, Serves, Down, Step, Happening, Turns, Ends}
use Rattle.serving_law.specs.Federations.{Renews}
use Rattle.serving_law.specs.Reports.{showing_of, step_of}
use Rattle.serving_law.specs.Rules.{owner_of}
use Rattle.serving_law.proofs.Happenings.{HasFolders, with_folders}
use Rattle.register_law.specs.Overlaps.{IsAccount, MayHappenTo, own_after, handed_out}
use Rattle.batch_law.specs.OnDisks.{on_disk}
use Rattle.batch_law.proofs.DiskTurns.{turn_on}
use Rattle.batch_law.proofs.UnseenTurns.{recovers}
use Rattle.batch_law.proofs.WholeBatches.{first_are}
use Rattle.process_law.specs.Processes.{turn_shown, text_shown, turns_in, posts_in, text_in}
use Rattle.process_law.specs.Processes.{after_account, IsOf}
use Rattle.process_law.proofs.Takes.{take_both}

-- which member serves, with which addresses, and what its folders give
pub record Service : Type 0 where
  pub members : Membership
  pub is_membership : IsMembership members
  pub n : ℕ
  pub has : Has n (members_of members)
  pub addresses : List ℕ
  pub gives : Option (List ℕ → Result TreeFacts TreeFault)

module _ (its : Service) where
  abbrev pub rule : Rule Waiting
  rule = turn_of no_cell its.addresses its.gives

  abbrev pub owner : Owner
  owner = owner_of device its.members its.n

  abbrev pub IsIts : Happening Disk → Type 0
  IsIts h = IsOf its.members its.n its.addresses its.gives h

  abbrev pub AreIts : List (Happening Disk) → Type 0
  AreIts account = (h : Happening Disk) → Has h account → IsIts h

  pub record Rest (m : Member Disk) (left : List Record) (turns : List Turned) (posts : List Post)
      (text : List ℕ) : Type 0 where
    pub account : List (Happening Disk)
    pub is : IsAccount device its.members m account
    pub leaves : after_account m account ≡ Down left
    pub are_of : AreIts account
    pub turns_are : turns_in account ≡ turns
    pub posts_are : posts_in account ≡ posts
    pub text_is : text_in account ≡ text

  -- one happening more, before others
  pub before : (h : Happening Disk) (account : List (Happening Disk)) → IsIts h → AreIts account
      → AreIts (h ∷ account)
  before h account is are k (here e) = rw (← e) is
  before h account is are k (there among) = are k among

  longer : (m : Member Disk) (h : Happening Disk) → MayHappenTo device its.members m h → IsIts h
      → {left : List Record} {turns : List Turned} {posts : List Post} {text : List ℕ}
      → Rest (own_after m h) left turns posts text
      → Rest m left (turn_shown (step_of h) ++ turns) (handed_out h ++ posts)
      (text_shown (showing_of h) ++ text)
  unfolding IsAccount after_account turns_in posts_in text_in
  longer m h may is rest = record {
    account = h ∷ rest.account;
    is = (may, rest.is);
    leaves = rest.leaves;
    are_of = before h rest.account is rest.are_of;
    turns_are = rw rest.turns_are;
    posts_are = rw rest.posts_are;
    text_is = rw rest.text_is;
  }

  -- ---- the end

  down : (left : List Record) → Rest (Down left) left [] [] []
  unfolding IsAccount after_account turns_in posts_in text_in
  down left = record {
    account = [];
    is = tt;
    leaves = refl;
    are_of = λ h among. absurd (has_none among);
    turns_are = refl;
    posts_are = refl;
    text_is = refl;
  }

  pub ended : (s : Serving Waiting) {left : List Record} → left ≡ s.site.book.records
      → s.site.book.owner ≡ owner → AreRecords s.site.book.records
      → Rest (Serves (on_disk s)) left [] [] []
  ended s {left} same whose are =
      longer (Serves (on_disk s)) (Ends its.n left)
      (λ f is come. (
        on_disk s,
        (its.has, is),
        rw (same, whose) (recovers owner _ its.n refl its.is_membership are),
      )) (refl, tt) (down left)

  -- its idle turns are counted anew
  pub renews : (s : Serving Waiting) {left : List Record} {turns : List Turned}
      {posts : List Post} {text : List ℕ}
      → Rest (Serves (on_disk (begins s.site s.volatile))) left turns posts text
      → Rest (Serves (on_disk s)) left turns posts text
  renews s rest =
      longer (Serves (on_disk s)) (Renews its.n) (λ f is come. (on_disk s, (its.has, is)))
      (refl, tt) rest

  -- ---- a turn

  module _ (old next : Serving Waiting) (turn : Turned) (handed written : ℕ)
      (came : rule old turn.took turn.done next) (whose : old.site.book.owner ≡ owner)
      (opened : old.site.book.needs_opening ≡ false)
      (open_next : next.site.book.needs_opening ≡ false)
      (are : AreRecords next.site.book.records) where
    folders : HasFolders device its.addresses its.gives (on_disk old) (on_disk next) turn.done
        (request_of (turns.members old).federation turn.took)
    folders =
        with_folders device its.addresses (on_disk old) (on_disk next) turn.done its.gives _
        (turn_on its.addresses its.gives old next turn.took turn.done (rw whose its.is_membership)
        opened are came)

    abbrev step : Step Disk
    step = record {
      addresses = its.addresses;
      folders = folders.0;
      turn = turn;
      next = on_disk next;
    }

    pub one_turn : {left : List Record} {turns : List Turned} {posts : List Post} {text : List ℕ}
        → Rest (Serves (on_disk next)) left turns posts text
        → Rest (Serves (on_disk old)) left (turn ∷ turns) (take handed turn.done.posts ++ posts)
        (take written (text_of turn) ++ text)
    one_turn rest =
        longer (Serves (on_disk old)) (Turns its.n step handed written)
        (λ f is come. (
          on_disk old,
          (its.has, is),
          record { may_come = come; comes = folders.2 },
          open_next,
        )) (refl, (refl, folders.1)) rest

  -- ---- the turns of a batch, of which so much is told

  pub turns_told : (those : List Turned) (old next : Serving Waiting) (handed written : ℕ)
      → Follow rule old those next → old.site.book.owner ≡ owner
      → old.site.book.needs_opening ≡ false → AreRecords next.site.book.records
      → {left : List Record} {turns : List Turned} {posts : List Post} {text : List ℕ}
      → Rest (Serves (on_disk next)) left turns posts text
      → Rest (Serves (on_disk old)) left (those ++ turns) (take handed (posts_of those) ++ posts)
      (take written (text_of_all those) ++ text)
  turns_told [] old next handed written follow whose opened are rest =
      simp take-nil (rw follow rest)
  turns_told (turn ∷ those) old next handed written (mid, came, follow) whose opened are rest =
      let first : Grows old.site.book mid.site.book =
      followed_by its.addresses its.gives old old mid [] turn opened refl came in
      let open_mid : mid.site.book.needs_opening ≡ false = first.opened ∙ opened in
      let later : Grows mid.site.book next.site.book =
      followed its.addresses its.gives mid next those open_mid follow in
      let are_mid : AreRecords mid.site.book.records =
      first_are mid.site.book.records later.more (rw later.records at are) in
      rw (take_both handed turn.done.posts, append_assoc (take handed turn.done.posts))
      (rw (take_both written (text_of turn), append_assoc (take written (text_of turn)))
      (one_turn old mid turn handed written came whose opened open_mid are_mid
      (turns_told those mid next (handed - length turn.done.posts)
      (written - length (text_of turn)) follow (first.owner ∙ whose) open_mid are rest)))

  -- all is told of these
  pub all_told : (those : List Turned) (old next : Serving Waiting) → Follow rule old those next
      → old.site.book.owner ≡ owner → old.site.book.needs_opening ≡ false
      → AreRecords next.site.book.records
      → (more turns : List Turned) (posts : List Post) (text : List ℕ) {left : List Record}
      → Rest (Serves (on_disk next)) left (more ++ turns) (posts_of more ++ posts)
      (text_of_all more ++ text)
      → Rest (Serves (on_disk old)) left ((those ++ more) ++ turns)
      (posts_of (those ++ more) ++ posts) (text_of_all (those ++ more) ++ text)
  all_told those old next follow whose opened are more turns posts text rest =
      rw (append_assoc those more turns, flat_map-append (λ (t : Turned). t.done.posts) those more)
      (rw (append_assoc (posts_of those), flat_map-append text_of those more)
      (rw (append_assoc (text_of_all those))
      (rw (take-length (posts_of those), take-length (text_of_all those)) at
      (turns_told those old next (length (posts_of those)) (length (text_of_all those)) follow
      whose opened are rest))))
