-- Over tapes a member that serves takes in what comes, in a turn in which nothing fails.
use Rattle.std.proofs.Common.{ℕ, zero, suc, ◌≡◌, ◌≤◌, ◌<◌, ◌+◌, ◌^◌, inl, inr, refl, ap, Bool, true}
use Rattle.std.proofs.Common.{false, ◌||◌, cond, List, [], ◌∷◌, ◌++◌, length, map, Option, None}
use Rattle.std.proofs.Common.{Some, length-append, arith}
use Rattle.std.specs.Prelude.{Result, Ok, Err, is_some}
use Rattle.std.specs.Option.{option_to_list, IfSome}
use Rattle.fed_types.specs.declared.bag_id.BagId.{BagId}
use Rattle.fed_types.specs.Ballots.{BallotNumber}
use Rattle.fed_types.specs.Lists.{Has, here, there}
use Rattle.fed_types.specs.Quorums.{QuorumSystem, quorums_of}
use Rattle.fed_types.specs.Sites.{Membership, members_of, sites_to}
use Rattle.fed_types.specs.Slots.{SlotName, same_slot}
use Rattle.fed_types.specs.Values.{IsSlot, IsMembership}
use Rattle.fed_types.specs.Laws.Lists.{has_none, has_one, has_left, has_right, has_map, map_has}
use Rattle.fed_types.specs.Laws.Slots.{same_slot_decides}
use Rattle.records.specs.declared.entry.Entry.TheVariants as entry
use Rattle.records.specs.declared.owner.Owner.{Owner}
use Rattle.records.specs.declared.record.Record.{Record}
use Rattle.records.specs.Records.{IsRecord, AreRecords}
use Rattle.records.specs.SlotStates.{vote_of, deposit_of, known_of}
use Rattle.book.specs.OpenBooks.{OpenBook, RecoversTo}
use Rattle.dgram.specs.declared.body.Body.TheVariants.{Prepare, Ask}
use Rattle.dgram.specs.declared.message.Message.{Message}
use Rattle.dgram.specs.Encoding.{datagram_of}
use Rattle.dgram.specs.Messages.{IsMessage}
use Rattle.proposer.specs.Proposals.{Current, next_ballot}
use Rattle.proposer.specs.UnderWay.{nothing}
use Rattle.proposer.specs.VolatileStates.{VolatileState, hears, with_current}
use Rattle.site.specs.declared.answer.Answer.{Answer}
use Rattle.site.specs.declared.answer.Line.{Line}
use Rattle.site.specs.declared.answer.Line.TheVariants as site_lines
use Rattle.site.specs.declared.fault.SiteFault.{SiteFault}
use Rattle.site.specs.declared.fault.SiteFault.TheVariants as faults
use Rattle.site.specs.Answered.{Keeps, Gives}
use Rattle.site.specs.Calls.{Input, Recovers, Arrives, effect_of, recovers_if, on_recover}
use Rattle.site.specs.Calls.{begins_ballot}
use Rattle.site.specs.Effects.{Effect, Send, refuses}
use Rattle.site.specs.Sites.{Represents}
use Rattle.site.specs.Contents.{Contents}
use Rattle.lines.specs.declared.notice.Notice.{Notice}
use Rattle.lines.specs.declared.notice.Notice.TheVariants.{Refused}
use Rattle.lines.specs.Notices.{notice_of, reply_notice}
use Rattle.world_law.specs.WellFormed.{AreMessages}
use Rattle.world_law.proofs.Deeds.{some_same}
use Rattle.world_law.proofs.WellFormed.{members_are_sites}
use Rattle.world_law.proofs.WellFormedCalls.{IsWellFormedInput, effect_is}
use Rattle.world_law.proofs.WellFormedEffects.{IsWellFormedEffect}
use Rattle.udp_site.specs.Requests as requests
use Rattle.udp_site.specs.Requests.{Request}
use Rattle.udp_site.specs.Served.{or_one}
use Rattle.udp_site.specs.Turns.{Serving, Done, IsCalled, Asks, comes_of, posts_of, posts_to}
use Rattle.udp_site.specs.Turns.{recovery_notices, query_replies, asked, answer_to}
use Rattle.serving_law.specs.Disks.{journal}
use Rattle.serving_law.specs.Rules.{owner_of}
use Rattle.serving_law.proofs.Answers as answers
use Rattle.serving_law.proofs.Answers.{seals, seals_are, answer_of}
use Rattle.serving_law.proofs.DiskCalls.{no_folders}
use Rattle.serving_law.proofs.Networks.{serving}
use Rattle.serving_reach_law.specs.Tapes.{Tape, device}
use Rattle.serving_reach_law.proofs.Rows as table_rows
use Rattle.serving_reach_law.proofs.Rows.{IsSupported, represents}
use Rattle.serving_reach_law.proofs.Says.{arrival_plain, as_many}
use Rattle.serving_reach_law.proofs.TapeJournals.{commits}

-- ---- words

abbrev said : Option Line → Result (Option Line) SiteFault
said line = Ok line

each_message : (sends : List Send) → ((d : Send) → Has d sends → IsMessage d.message)
    → answers.AreMessages sends
each_message [] all = tt
each_message (d ∷ sends) all = (all d (here refl), each_message sends (λ e h. all e (there h)))

as_long : (federation : ℕ) (sends : List Send) (are : answers.AreMessages sends)
    → length (seals federation sends are) ≡ length sends
as_long federation [] are = refl
as_long federation (d ∷ sends) are = ap suc (as_long federation sends are.1)

count_is : (k : ℕ) → length (sites_to k) ≡ k
unfolding sites_to
count_is zero = refl
count_is (suc k) = omega (arith, length-append (sites_to k) (suc k ∷ []), count_is k)

-- of what an arrival says no line says that the cell failed or memory ran out
module _ (n : ℕ) (m : Option Message) where
  abbrev lines_of : Option Line → List Notice
  lines_of line = option_to_list (notice_of n (Arrives m) (said line))

  no_fault : (line : Option Line) → or_one (lines_of line) ≡ false
  no_fault (Some site_lines.Dropped) = refl
  no_fault _ = refl

  no_refusal : (line : Option Line) (k : ℕ) → Has (Refused k faults.Memory) (lines_of line) → ⊥
  no_refusal None k h = has_none h
  no_refusal (Some (site_lines.Registered bag)) k h = has_none h
  no_refusal _ k h = absurd (cc (has_one h))

abbrev records_then : List Record → Option Record → List Record
records_then records None = records
records_then records (Some r) = records ++ r ∷ []

-- what has a record, or a ballot among what was heard, has it later
slots_stay : (records : List Record) (c : Option Record) (s : SlotName)
    → Has s (map (λ (r : Record). r.slot) records)
    → Has s (map (λ (r : Record). r.slot) (records_then records c))
slots_stay records None s h = h
slots_stay records (Some r) s h =
    let f = has_map (λ (r : Record). r.slot) records h in
    rw f.2 at (map_has (λ (r : Record). r.slot) (has_left (r ∷ []) f.1))

supported_then : (records : List Record) (volatile : VolatileState) (c : Option Record)
    → IsSupported records volatile → IsSupported (records_then records c) volatile
supported_then records volatile c is = record {
  on_record = λ s current e. slots_stay records c s (is.on_record s current e);
  within = is.within;
}

supported_hears : (records : List Record) (volatile : VolatileState) (m : Message)
    → IsSupported records volatile → IsSupported records (hears volatile m)
supported_hears records volatile m is = record {
  on_record = is.on_record;
  within = λ s current e.
      let l = is.within s current e in
      omega (arith, l, length-append volatile.heard (m ∷ []));
}

-- a ballot that is begun now
abbrev begun_now : VolatileState → BallotNumber → Current
begun_now volatile b = record { ballot = b; heard_before = length volatile.heard }

abbrev round_of : SlotName → BallotNumber → Record
round_of slot b = record { slot = slot; body = entry.Round b.round }

supported_begun : (records : List Record) (volatile : VolatileState) (slot : SlotName)
    (b : BallotNumber) → IsSupported records volatile
    → IsSupported (records ++ round_of slot b ∷ []) (with_current volatile slot b)
supported_begun records volatile slot b is = record {
  on_record = λ s c e. on_record s c (same_slot slot s) refl e;
  within = λ s c e. within s c (same_slot slot s) e;
}
  where
    on_record : (s : SlotName) (c : Current) (t : Bool) → same_slot slot s ≡ t
        → cond t (Some (begun_now volatile b)) (volatile.current s) ≡ Some c
        → Has s (map (λ (r : Record). r.slot) (records ++ round_of slot b ∷ []))
    on_record s c true f e =
        rw (← (same_slot_decides slot s).0 f)
        (map_has (λ (r : Record). r.slot) {x = round_of slot b}
        (has_right records {ys = round_of slot b ∷ []} (here refl)))
    on_record s c false f e = slots_stay records (Some (round_of slot b)) s (is.on_record s c e)

    within : (s : SlotName) (c : Current) (t : Bool)
        → cond t (Some (begun_now volatile b)) (volatile.current s) ≡ Some c
        → c.heard_before ≤ length volatile.heard
    within s c true e =
        let same = ap (λ (k : Current). k.heard_before) (some_same e) in omega (arith, same)
    within s c false e = is.within s c e

-- ---- a member that serves

-- a turn in which it takes this in, and nothing fails
pub record Turn (addresses : List ℕ) (old : Serving Tape) (r : Request) : Type 0 where
  pub done : Done
  pub next : Serving Tape
  pub comes : comes_of device addresses (Some no_folders) old r done next
  pub not_the_last : or_one done.notices ≡ false
  pub has_memory : (k : ℕ) → Has (Refused k faults.Memory) done.notices → ⊥
  pub opened : next.site.book.needs_opening ≡ false

module _ (members : Membership) (is_membership : IsMembership members) (addresses : List ℕ) (n : ℕ)
    (member : Has n (members_of members)) (records : List Record) (are : AreRecords records)
    (volatile : VolatileState) (heard : AreMessages volatile.heard)
    (is : IsSupported records volatile) (cell : Tape)
    (told : RecoversTo (owner_of device members n) records (device cell).image)
    (tables : Contents) (idle tried : ℕ) where
  abbrev q : QuorumSystem
  q = quorums_of members

  abbrev own : Owner
  own = owner_of device members n

  abbrev old : Serving Tape
  old = serving device members n records volatile cell tables idle tried

  abbrev effect_at : Input → Effect
  effect_at input = effect_of q n records volatile input

  formed_at : (input : Input) → IsWellFormedInput input → IsWellFormedEffect (effect_at input)
  formed_at input is_input =
      effect_is q (members_are_sites members is_membership) n
      (members_are_sites members is_membership n member) records are volatile heard input is_input

  -- ---- a call that answers

  abbrev cell_then : Option Record → Tape
  cell_then None = cell
  cell_then (Some r) = journal own (records ++ r ∷ []) ∷ cell

  abbrev book_then : Option Record → OpenBook Tape
  book_then c = record {
    cell = cell_then c;
    records = records_then records c;
    needs_opening = false;
    owner = own;
  }

  keeps : (c : Option Record) → IfSome c IsRecord → (answer : Answer)
      → Keeps device c (Ok answer) old.site.book (book_then c)
  keeps None is_record answer = refl
  keeps (Some r) is_record answer =
      inr (commits own is_membership.1 cell records are told r is_record)

  module _ (input : Input) (e : Effect) (same : effect_at input ≡ e) (line : Option Line)
      (says : e.says ≡ said line) (formed : IsWellFormedEffect e)
      (few : length e.sends ≤ 1 + length (members_of members))
      (then : IsSupported (records_then records e.commits) e.volatile) where
    abbrev new : Serving Tape
    new = record {
      site = record {
        book = book_then e.commits;
        tables = table_rows.tables members n (records_then records e.commits) e.volatile then;
      };
      volatile = e.volatile;
      idle = idle;
      tried = tried;
    }

    sealed : answers.AreMessages e.sends
    sealed = each_message e.sends (λ d h. (formed.sends d h).1)

    fits : length (seals members.federation e.sends sealed) < 2 ^ 63
    fits =
        let most = is_membership.1.0.1 in
        omega (
          arith,
          few,
          most,
          count_is (length members.weights),
          as_long members.federation e.sends sealed,
        )

    abbrev answer : Answer
    answer = answer_of line (seals members.federation e.sends sealed) fits

    called : IsCalled device old input (Ok answer) new
    called = record {
      answered = λ opened.
          rw same (record {
            keeps = keeps e.commits formed.commits answer;
            gives = (
              says,
              seals_are members.federation e.sends sealed,
              (
                nothing,
                represents members n (records_then records e.commits) e.volatile then,
              ),
            );
          });
      refused = λ needs. absurd (cc needs);
      volatile = rw same;
      idle = refl;
      tried = refl;
    }

    -- the turn says this
    answers_turn : (r : Request) (notices : List Notice)
        → (IsCalled device old input (Ok answer) new → comes_of device addresses (Some no_folders)
        old r (record { posts = posts_of addresses (Ok answer); notices = notices }) new)
        → or_one notices ≡ false → ((k : ℕ) → Has (Refused k faults.Memory) notices → ⊥)
        → Turn addresses old r
    answers_turn r notices comes not_the_last has_memory = record {
      done = record { posts = posts_of addresses (Ok answer); notices = notices };
      next = new;
      comes = comes called;
      not_the_last = not_the_last;
      has_memory = has_memory;
      opened = refl;
    }

  -- ---- a message arrives

  module _ (m : Message) (is_message : IsMessage m) where
    abbrev hearing : Effect
    hearing = effect_at (Arrives (Some m))

    hearing_supported : IsSupported (records_then records hearing.commits) hearing.volatile
    hearing_supported =
        supported_then records hearing.volatile hearing.commits
        (elim (arrival_plain q n records volatile m).volatile [
          | inl now ↦ rw now (supported_hears records volatile m is)
          | inr still ↦ rw still is
        ])

    pub hears_turn : Turn addresses old (requests.Says m)
    hears_turn =
        let plain = arrival_plain q n records volatile m in
        answers_turn (Arrives (Some m)) hearing refl plain.line plain.says
        (formed_at (Arrives (Some m)) is_message) plain.few hearing_supported (requests.Says m)
        (lines_of n (Some m) plain.line) (λ called_so. (_, called_so, refl))
        (no_fault n (Some m) plain.line) (no_refusal n (Some m) plain.line)

  -- ---- a client has it recover a slot

  module _ (slot : SlotName) (is_slot : IsSlot slot) where
    abbrev begun : BallotNumber → Effect
    begun b = begins_ballot q slot b volatile

    begun_turn : (b : BallotNumber) → effect_at (Recovers slot) ≡ begun b
        → Turn addresses old (requests.Recovers slot)
    begun_turn b same =
        answers_turn (Recovers slot) (begun b) same None refl formed few then
        (requests.Recovers slot) []
        (λ called_so. (_, called_so, λ opened fault says. absurd (cc (same, says)), refl))
        refl (λ k h. has_none h)
      where
        formed : IsWellFormedEffect (begun b)
        formed = rw same at (formed_at (Recovers slot) is_slot)

        few : length (begun b).sends ≤ 1 + length (members_of members)
        few = omega (arith, as_many slot (Prepare b) (members_of members))

        then : IsSupported (records_then records (begun b).commits) (begun b).volatile
        then = supported_begun records volatile slot b is

    -- it refuses, and stays as it is
    abbrev as_before : Serving Tape
    as_before = record {
      site = record {
        book = old.site.book;
        tables = table_rows.tables members n records volatile is;
      };
      volatile = volatile;
      idle = idle;
      tried = tried;
    }

    refused_turn : (fault : SiteFault) → effect_at (Recovers slot) ≡ refuses fault volatile
        → Gives old.site as_before.site volatile (refuses fault volatile) (Err fault)
        → recovery_notices n (Recovers slot) (Err fault) ≡ []
        → Turn addresses old (requests.Recovers slot)
    refused_turn fault same gives silent =
        record {
          done = record { posts = []; notices = recovery_notices n (Recovers slot) (Err fault) };
          next = as_before;
          comes = (
            Err fault,
            record {
              answered = λ opened. rw same (record { keeps = refl; gives = gives });
              refused = λ needs. absurd (cc needs);
              volatile = refl;
              idle = refl;
              tried = refl;
            },
            λ opened other says. cc (same, says),
            refl,
          );
          not_the_last = rw silent;
          has_memory = λ k h. has_none (rw silent at h);
          opened = refl;
        }

    represented : Represents as_before.site volatile
    represented = (nothing, represents members n records volatile is)

    pub recovers_turn : Turn addresses old (requests.Recovers slot)
    unfolding on_recover
    recovers_turn =
        by_known (known_of slot records)
        (is_some (vote_of slot records) || is_some (deposit_of slot records))
        (next_ballot n slot records volatile.heard) refl
      where
        by_known : (known : Option BagId) (has : Bool) (next : Option BallotNumber)
            → effect_at (Recovers slot) ≡ recovers_if q slot known has next volatile
            → Turn addresses old (requests.Recovers slot)
        by_known (Some bag) has next same =
            refused_turn faults.AlreadyKnown same (refl, represented) refl
        by_known None false next same =
            refused_turn faults.NothingToRecover same (refl, represented) refl
        by_known None true None same = refused_turn faults.RoundsSpent same (refl, represented) refl
        by_known None true (Some b) same = begun_turn b same

    -- ---- a client asks for a slot's bag

    abbrev question : List ℕ
    question = datagram_of members.federation (record { slot = slot; body = Ask n })

    abbrev asks_of : List ℕ → Done
    asks_of [] = record { posts = []; notices = [] }
    asks_of (k ∷ all) = record {
      posts = posts_to addresses k question ++ (asks_of all).posts;
      notices = (asks_of all).notices;
    }

    asks_are : (all : List ℕ) → Asks addresses old slot all (asks_of all)
    asks_are [] = refl
    asks_are (k ∷ all) = (asks_of all, asks_are all, inl refl)

    asks_quiet : (all : List ℕ) → (asks_of all).notices ≡ []
    asks_quiet [] = refl
    asks_quiet (k ∷ all) = asks_quiet all

    abbrev reply : Notice
    reply = reply_notice n slot (answer_to old slot)

    not_refused : (k : ℕ) → Has (Refused k faults.Memory) (reply ∷ []) → ⊥
    not_refused k h = absurd (cc (has_one h))

    pub queries_turn : (port : ℕ) → Turn addresses old (requests.Queries port slot)
    queries_turn port =
        let all = asked old (answer_to old slot) in
        record {
          done = record {
            posts =
                query_replies members.federation n port slot (answer_to old slot)
                ++ (asks_of all).posts;
            notices = reply ∷ (asks_of all).notices;
          };
          next = old;
          comes = (asks_of all, asks_are all, refl, refl);
          not_the_last = rw (asks_quiet all);
          has_memory = λ k h. not_refused k (rw (asks_quiet all) at h);
          opened = refl;
        }
