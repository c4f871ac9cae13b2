-- Three sites that serve agree; one is killed as it votes; a vote is said again.
use Rattle.std.proofs.Common.{ℕ, zero, suc, ◌≡◌, ◌≤◌, refl, List, [], ◌∷◌, ◌++◌, None, Some, arith}
use Rattle.std.specs.Prelude.{Ok}
use Rattle.std.specs.List.{slice_get}
use Rattle.fed_types.specs.declared.bag_id.BagId.{BagId}
use Rattle.fed_types.specs.Lists.{Has, here, there, is_in}
use Rattle.fed_types.specs.Quorums.{quorums_of}
use Rattle.fed_types.specs.Sites.{members_of, sites_to}
use Rattle.fed_types.specs.Slots.{same_slot}
use Rattle.bag_check.specs.Check.{check_of}
use Rattle.records.specs.declared.record.Record.{Record}
use Rattle.records.specs.Records.{IsRecord, AreRecords}
use Rattle.records.specs.SlotStates.{known_of, used_of, deposit_of}
use Rattle.dgram.specs.declared.body.Body.TheVariants.{Prepare}
use Rattle.dgram.specs.Encoding.{datagram_of}
use Rattle.dgram.specs.Heard.{bodies_of, floor_of, promises_for, promisers, priors, voters_for}
use Rattle.learner.specs.declared.row.Row.TheVariants as rows
use Rattle.proposer.specs.Proposals.{gathered, highest_prior, next_ballot}
use Rattle.proposer.specs.UnderWay.{nothing}
use Rattle.site.specs.declared.answer.Line.TheVariants as site_lines
use Rattle.site.specs.Calls as calls
use Rattle.site.specs.Calls.{effect_of, on_deposit, on_propose}
use Rattle.site.specs.Effects.{Effect, to_each}
use Rattle.site.specs.Contents.{Represents, deposits_of}
use Rattle.udp_site.specs.Traffic.{From, Nothing}
use Rattle.udp_site.specs.Replies.{deposit_answer}
use Rattle.udp_site.specs.Rounds.{next_waiting}
use Rattle.udp_site.specs.Turns.{Serving, Done, turn_of, notices_of, deposit_replies, posts_of}
use Rattle.udp_site.specs.Turns.{proposal_notices}
use Rattle.site.specs.declared.answer.Answer.{Answer}
use Rattle.fed_types.specs.Laws.Sites.{sites_to_has}
use Rattle.serving_law.specs.Disks.{Disk, Holds, bytes_at, journal, device}
use Rattle.serving_law.specs.Federations.{Down, Federation, Step, Happening, Turns, Dies}
use Rattle.serving_law.specs.Federations.{new_federation, after, after_all, Serves}
use Rattle.serving_law.specs.Rules.{MayAll}
use Rattle.serving_law.proofs.Answers.{AreMessages, seals, answer_of}
use Rattle.serving_law.proofs.DiskCalls.{owner, serving, called, no_folders}
use Rattle.serving_law.proofs.DiskJournals.{says}
use Rattle.serving_law.proofs.Agreement.{three_are, addresses, step_of, may_turn, takes, serves, m}
use Rattle.serving_law.proofs.Agreement.{r, to_all, Hearing}
use Rattle.serving_law.specs.Examples.{Request}
use Rattle.serving_law.specs.ExamplesAgreed.{three, a, ballot, Agree, DiesVoting, says_vote}
use Rattle.serving_law.specs.ExamplesAgreed.{CountsOnce, ThreeSitesAgree, KilledInAVote}
use Rattle.serving_law.specs.ExamplesAgreed.{ARepeatedVote, PrintsKnown}
use Rattle.serving_law.specs.Reports.{Prints}
use Rattle.lines.specs.declared.notice.Notice.TheVariants.{Learned}
use Rattle.records.specs.declared.owner.Owner.{Owner}
use Rattle.serving_law.proofs.Sites.{volatile_of, issued, stands_idle, stands_issued}
use Rattle.serving_law.proofs.Tables.{Rows, records_of, tables}
use Rattle.serving_law.proofs.AgreedMessages.{is_prepare, is_d, is_r, is_p, is_v, deposited}
use Rattle.serving_law.proofs.AgreedMessages.{proposed, promised, voted}
use Rattle.serving_law.proofs.AgreedTurns.{Turn, Asked1, Asked2, Promised1, Promised2, Votes1}
use Rattle.serving_law.proofs.AgreedTurns.{Votes2, Hears11, Hears12, Hears21, Hears22, Hears31}
use Rattle.serving_law.proofs.AgreedTurns.{Hears32, HearsAgain, HearsOther, HearsLate, hearing}
use Rattle.serving_law.proofs.AgreedTurns.{fits, answers, stands, unheard, own_rows}
use Rattle.serving_law.proofs.NewSites.{starts_new, may_start}

-- by its place, counted from 0
pub at_index : {X : Type 0} (k : ℕ) (xs : List X) (x : X) → slice_get xs k ≡ Some x → Has x xs
at_index k [] x e = absurd (cc e)
at_index zero (y ∷ ys) x e = let f : y ≡ x = cc in here f
at_index (suc k) (y ∷ ys) x e = there (at_index k ys x e)

module _ (bag : BagId) (request : Request 7 a bag) where
  abbrev pub none_heard : Rows
  none_heard = unheard bag request

  abbrev pub none_promised : Rows
  none_promised = own_rows bag request [] rows.Unheard

  -- ---- the first turns of site 1: it is asked to deposit the bag, and proposes it

  abbrev pub registering : Effect
  registering = record {
    commits = Some (r (deposited bag));
    sends = [];
    says = Ok (Some (site_lines.Registered bag));
    volatile = volatile_of [] None;
  }

  pub on_deposit_is : on_deposit [] (volatile_of [] None) a (Ok bag) ≡ registering
  unfolding on_deposit deposit_of known_of
  on_deposit_is = refl

  registers : effect_of (quorums_of three) 1 [] (volatile_of [] None)
      (calls.Deposits a (check_of request.facts)) ≡ registering
  registers = rw request.checked on_deposit_is

  deposited_stands : Represents (tables a three 1 none_heard) (records_of a (deposited bag ∷ []))
      (volatile_of [] None) nothing
  unfolding known_of used_of voters_for bodies_of floor_of is_in same_slot
  deposited_stands =
      stands_idle 1 (deposited bag ∷ []) [] rows.Unheard refl (λ none u k. refl) refl refl

  abbrev deposit_answer_is : Answer
  deposit_answer_is = answer_of (Some (site_lines.Registered bag)) [] (omega arith)

  abbrev pub asked : Serving Disk
  asked = serving three three_are 1 [] (tables a three 1 none_heard) (volatile_of [] None) 0 0

  abbrev pub has_deposit : Serving Disk
  has_deposit =
      serving three three_are 1 (r (deposited bag) ∷ []) (tables a three 1 none_heard)
      (volatile_of [] None) 0 0

  abbrev deposit_done : Done
  deposit_done = record {
    posts = deposit_replies 7 1 request.address a (deposit_answer (Ok deposit_answer_is));
    notices = notices_of 1 (calls.Deposits a (check_of request.facts)) (Ok deposit_answer_is);
  }

  abbrev pub deposit_step : Step Disk
  deposit_step = record {
    addresses = addresses;
    folders = λ path. Ok request.facts;
    turn = record { took = From request.address request.bytes; done = deposit_done };
    next = has_deposit;
  }

  pub deposits : turn_of device addresses (Some deposit_step.folders) asked
      (From request.address request.bytes) deposit_done has_deposit
  deposits =
      rw request.asked (
        Ok request.facts,
        refl,
        (
          Ok deposit_answer_is,
          called three three_are 1 [] tt (tables a three 1 none_heard) (tables a three 1 none_heard)
              (volatile_of [] None) 0 0 (calls.Deposits a (check_of request.facts)) registering
              (Some (site_lines.Registered bag)) registers refl (is_d bag request) tt (omega arith)
              nothing deposited_stands,
          refl,
        ),
      )

  abbrev pub preparing : Effect
  preparing = record {
    commits = Some (r (proposed bag));
    sends = to_all (Prepare ballot);
    says = Ok None;
    volatile = volatile_of [] (Some issued);
  }

  pub proposes_it : effect_of (quorums_of three) 1 (records_of a (deposited bag ∷ []))
      (volatile_of [] None) (calls.Proposes a) ≡ preparing
  unfolding on_propose known_of deposit_of next_ballot used_of floor_of bodies_of to_each sites_to
      same_slot
  proposes_it = refl

  prepared_stands : Represents (tables a three 1 none_promised)
      (records_of a (deposited bag ∷ proposed bag ∷ [])) (volatile_of [] (Some issued)) nothing
  unfolding known_of used_of deposit_of voters_for bodies_of floor_of is_in same_slot gathered
      promises_for promisers priors highest_prior
  prepared_stands =
      stands_issued 1 (deposited bag ∷ proposed bag ∷ []) [] rows.Unheard refl (λ none u k. refl)
      refl [] refl refl refl

  abbrev three_prepares : AreMessages (to_all (Prepare ballot))
  three_prepares = let is = is_prepare bag request in (is, (is, (is, tt)))

  abbrev prepare_answer : Answer
  prepare_answer = answer_of None (seals 7 (to_all (Prepare ballot)) three_prepares) (omega arith)

  abbrev has_proposed : Serving Disk
  has_proposed =
      serving three three_are 1 (r (deposited bag) ∷ r (proposed bag) ∷ [])
      (tables a three 1 none_promised) (volatile_of [] (Some issued)) 1 1

  abbrev propose_done : Done
  propose_done = record {
    posts = posts_of addresses (Ok prepare_answer);
    notices = proposal_notices 1 (calls.Proposes a) (Ok prepare_answer);
  }

  abbrev pub propose_step : Step Disk
  propose_step = record {
    addresses = addresses;
    folders = no_folders;
    turn = record { took = Nothing; done = propose_done };
    next = has_proposed;
  }

  pub proposes : turn_of device addresses (Some no_folders) has_deposit Nothing propose_done
      has_proposed
  unfolding next_waiting deposits_of known_of same_slot
  proposes = (
    Ok prepare_answer,
    called three three_are 1 (r (deposited bag) ∷ []) (is_d bag request, tt)
        (tables a three 1 none_heard) (tables a three 1 none_promised) (volatile_of [] None) 1 1
        (calls.Proposes a) preparing None proposes_it refl (is_r bag request) three_prepares
        (omega arith) nothing prepared_stands,
    λ opened fault e. let says = rw proposes_it at e in absurd (cc says),
    refl,
  )

  -- ---- what may happen

  abbrev pub started : (n : ℕ) → Happening Disk
  started n = starts_new three three_are n (tables a three n none_heard)

  pub member : (n : ℕ) → 1 ≤ n → n ≤ 3 → Has n (members_of three)
  member n from to = sites_to_has 3 n from to

  pub ends : (f : Federation Disk) → MayAll device three f []
  unfolding MayAll
  ends f = tt

  pub starts : (n : ℕ) → 1 ≤ n → n ≤ 3 → (f : Federation Disk) (later : List (Happening Disk))
      → f.members n ≡ Down [] → MayAll device three (after f (started n)) later
      → MayAll device three f (started n ∷ later)
  unfolding MayAll
  starts n from to f later down rest =
      (may_start three three_are n (tables a three n none_heard) f (member n from to) down, rest)

  pub is_asked : (f : Federation Disk) (later : List (Happening Disk)) → f.members 1 ≡ Serves asked
      → MayAll device three (after f (Turns 1 deposit_step 1 0)) later
      → MayAll device three f (Turns 1 deposit_step 1 0 ∷ later)
  unfolding MayAll
  is_asked f later serving rest = (
    (
      asked,
      (member 1 (omega arith) (omega arith), serving),
      record {
        may_come = (request.are_bytes, λ message e is. absurd (cc request.asked));
        comes = deposits;
      },
      refl,
    ),
    rest,
  )

  pub is_idle : (f : Federation Disk) (later : List (Happening Disk))
      → f.members 1 ≡ Serves has_deposit
      → MayAll device three (after f (Turns 1 propose_step 3 0)) later
      → MayAll device three f (Turns 1 propose_step 3 0 ∷ later)
  unfolding MayAll
  is_idle f later serving rest = (
    (
      has_deposit,
      (member 1 (omega arith) (omega arith), serving),
      record { may_come = tt; comes = proposes },
      refl,
    ),
    rest,
  )

  abbrev pub hears : Turn → Hearing
  hears turn = hearing bag request turn

  -- a turn in which so many datagrams are handed out, and bytes written
  abbrev pub turns : Turn → (count written : ℕ) → Happening Disk
  turns turn count written = Turns (hears turn).n (step_of (hears turn)) count written

  -- a site may hear what was handed out at this place, counted from 0
  pub may : (turn : Turn) (place count written : ℕ) (f : Federation Disk)
      (later : List (Happening Disk)) → 1 ≤ (hears turn).n → (hears turn).n ≤ 3
      → slice_get f.handed place ≡ Some ((hears turn).n, datagram_of 7 (m (hears turn).body))
      → f.members (hears turn).n ≡ Serves (serves (hears turn).n (hears turn).old)
      → MayAll device three (after f (turns turn count written)) later
      → MayAll device three f (turns turn count written ∷ later)
  unfolding MayAll
  may turn place count written f later from to handed serving rest = (
    may_turn (hears turn) (fits bag request turn) (answers bag request turn)
        (stands bag request turn) f (hears turn).n
        (at_index place f.handed _ handed) (member (hears turn).n from to) serving count written,
    rest,
  )

  -- ---- the histories

  -- site 1 has voted, and site 2 is asked to
  abbrev pub asked_to_vote : List (Happening Disk)
  asked_to_vote =
      started 1 ∷ started 2 ∷ started 3 ∷ Turns 1 deposit_step 1 0 ∷ Turns 1 propose_step 3 0
      ∷ turns Asked1 1 0 ∷ turns Asked2 1 0 ∷ turns Promised1 0 0 ∷ turns Promised2 3 0
      ∷ turns Votes1 3 0 ∷ []

  abbrev pub then : Federation Disk
  then = after_all new_federation asked_to_vote

  pub may_before : (later : List (Happening Disk)) → MayAll device three then later
      → MayAll device three new_federation (asked_to_vote ++ later)
  unfolding new_federation after_all
  may_before later goes_on =
      starts 1 (omega arith) (omega arith) _ _ refl (
      starts 2 (omega arith) (omega arith) _ _ refl (
      starts 3 (omega arith) (omega arith) _ _ refl (
      is_asked _ _ refl (
      is_idle _ _ refl (
      may Asked1 1 1 0 _ _ (omega arith) (omega arith) refl refl (
      may Asked2 2 1 0 _ _ (omega arith) (omega arith) refl refl (
      may Promised1 4 0 0 _ _ (omega arith) (omega arith) refl refl (
      may Promised2 5 3 0 _ _ (omega arith) (omega arith) refl refl (
      may Votes1 6 3 0 _ _ (omega arith) (omega arith) refl refl goes_on)))))))))

  -- the rest of an agreement
  abbrev agreeing : List (Happening Disk)
  agreeing =
      turns Votes2 3 0 ∷ turns Hears11 0 0 ∷ turns Hears12 0 1 ∷ turns Hears21 0 0
      ∷ turns Hears22 0 1 ∷ turns Hears31 0 0 ∷ turns Hears32 0 1 ∷ []

  may_agree : MayAll device three then agreeing
  unfolding new_federation after_all
  may_agree =
      may Votes2 7 3 0 _ _ (omega arith) (omega arith) refl refl (
      may Hears11 9 0 0 _ _ (omega arith) (omega arith) refl refl (
      may Hears12 12 0 1 _ _ (omega arith) (omega arith) refl refl (
      may Hears21 10 0 0 _ _ (omega arith) (omega arith) refl refl (
      may Hears22 13 0 1 _ _ (omega arith) (omega arith) refl refl (
      may Hears31 11 0 0 _ _ (omega arith) (omega arith) refl refl (
      may Hears32 14 0 1 _ _ (omega arith) (omega arith) refl refl (ends _)))))))

  -- a turn in which this is all that is said, and a byte of it is written
  pub prints : (n : ℕ) (step : Step Disk) → step.turn.done.notices ≡ Learned n a bag ∷ []
      → Prints (Turns n step 0 1) (Learned n a bag)
  prints n step is = (
    record { turn = step.turn; handed = 0; written = 1 },
    refl,
    record { before = []; later = []; split = is; begun = omega arith },
  )

  -- as this one does, at this place of the agreement
  prints_at : (place : ℕ) (turn : Turn)
      → slice_get (asked_to_vote ++ agreeing) place ≡ Some (turns turn 0 1)
      → (step_of (hears turn)).turn.done.notices ≡ Learned (hears turn).n a bag ∷ []
      → PrintsKnown (asked_to_vote ++ agreeing) (hears turn).n bag
  prints_at place turn at_place is = (
    turns turn 0 1,
    at_index place (asked_to_vote ++ agreeing) (turns turn 0 1) at_place,
    prints (hears turn).n (step_of (hears turn)) is,
  )

  pub agree : Agree bag
  agree = record {
    history = asked_to_vote ++ agreeing;
    happens = may_before agreeing may_agree;
    one = prints_at 12 Hears12 refl refl;
    two = prints_at 14 Hears22 refl refl;
    three = prints_at 16 Hears32 refl refl;
  }

  -- ---- site 2 is killed in the call in which it votes

  abbrev two : Owner
  two = owner three three_are 2

  dies : (records : List Record) → AreRecords records → (k : ℕ) → 2 ≤ k → k ≤ 3
      → journal two records ≡ bytes_at (Holds two (r (promised bag) ∷ r (voted bag) ∷ [])) k
      → DiesVoting bag records
  unfolding MayAll new_federation after_all
  dies records are k from to is = record {
    before = asked_to_vote;
    step = step_of (hears Votes2);
    happens =
        may_before (Dies 2 (step_of (hears Votes2)) records ∷ []) (
          (
            serves 2 (hears Votes2).old,
            (member 2 (omega arith) (omega arith), refl),
            takes (hears Votes2) (fits bag request Votes2) (answers bag request Votes2)
                (stands bag request Votes2) then 2 (at_index 7 then.handed _ refl),
            record {
              told = refl;
              bytes = journal two records;
              left = (k, from, to, is);
              says = says two three_are.1 records are;
            },
          ),
          tt,
        );
    would_say = at_index 2 (step_of (hears Votes2)).turn.done.posts (says_vote 3 2 bag) refl;
    down = refl;
    nothing = refl;
  }

  pub killed : DiesVoting bag (r (promised bag) ∷ [])
      × DiesVoting bag (r (promised bag) ∷ r (voted bag) ∷ [])
  killed = (
    dies (r (promised bag) ∷ []) (p, tt) 2 (omega arith) (omega arith) refl,
    dies (r (promised bag) ∷ r (voted bag) ∷ []) (p, (is_v bag request, tt)) 3 (omega arith)
        (omega arith) refl,
  )
    where
      p : IsRecord (r (promised bag))
      p = is_p bag request

  -- ---- site 3 hears a vote again

  abbrev hears_again : List (Happening Disk)
  hears_again =
      turns Votes2 3 0 ∷ turns Hears31 0 0 ∷ turns HearsAgain 0 0 ∷ turns HearsOther 0 1
      ∷ turns HearsLate 0 0 ∷ []

  may_hear : MayAll device three then hears_again
  unfolding new_federation after_all
  may_hear =
      may Votes2 7 3 0 _ _ (omega arith) (omega arith) refl refl (
      may Hears31 11 0 0 _ _ (omega arith) (omega arith) refl refl (
      may HearsAgain 11 0 0 _ _ (omega arith) (omega arith) refl refl (
      may HearsOther 14 0 1 _ _ (omega arith) (omega arith) refl refl (
      may HearsLate 11 0 0 _ _ (omega arith) (omega arith) refl refl (ends _)))))

  pub once : CountsOnce bag
  unfolding known_of
  once = record {
    before = asked_to_vote ++ turns Votes2 3 0 ∷ [];
    first = step_of (hears Hears31);
    again = step_of (hears HearsAgain);
    other = step_of (hears HearsOther);
    late = step_of (hears HearsLate);
    happens = may_before hears_again may_hear;
    one = refl;
    same = refl;
    two = refl;
    same_late = refl;
    quiet = refl;
    unknown = refl;
    known = here refl;
    quiet_late = refl;
    kept = refl;
  }

pub three_sites_agree : ThreeSitesAgree
three_sites_agree bag request = agree bag request

pub killed_in_a_vote : KilledInAVote
killed_in_a_vote bag request = killed bag request

pub a_repeated_vote : ARepeatedVote
a_repeated_vote bag request = once bag request
