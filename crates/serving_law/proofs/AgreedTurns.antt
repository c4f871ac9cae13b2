-- The turns in which three sites hear what leads to an agreement: which message comes, and what
-- comes of it.
use Rattle.std.proofs.Common.{◌≡◌, ◌<◌, ◌^◌, ℕ, Bool, true, false, cond, List, [], ◌∷◌, ◌++◌, take}
use Rattle.std.proofs.Common.{length, Option, None, Some, refl, arith}
use Rattle.std.specs.Prelude.{bytes_eq}
use Rattle.std.specs.List.{cons_option}
use Rattle.std.proofs.lemmas.Slice.Eq.{bytes_eq-Decides}
use Rattle.fed_types.specs.declared.bag_id.BagId.{BagId}
use Rattle.fed_types.specs.declared.vote.Vote.{Vote}
use Rattle.fed_types.specs.Ballots.{ballot_cmp}
use Rattle.fed_types.specs.Lists.{is_in}
use Rattle.fed_types.specs.Sites.{sites_to}
use Rattle.fed_types.specs.Slots.{same_slot}
use Rattle.records.specs.declared.entry.Entry.{Entry}
use Rattle.records.specs.declared.entry.Entry.TheVariants as entry
use Rattle.records.specs.declared.record.Record.{Record}
use Rattle.records.specs.Records.{AreRecords}
use Rattle.records.specs.SlotStates.{known_of, used_of, deposit_of, promised_of, vote_of}
use Rattle.dgram.specs.declared.body.Body.{Body}
use Rattle.dgram.specs.declared.body.Body.TheVariants.{Prepare, Promise, Accept, Accepted}
use Rattle.dgram.specs.Encoding.{datagram_of}
use Rattle.dgram.specs.Messages.{IsMessage}
use Rattle.dgram.specs.Heard.{bodies_of, floor_of, promises_for, promisers, priors, voters_for}
use Rattle.dgram.specs.Heard.{same_vote}
use Rattle.acceptor.specs.Decisions.{prepare_decision, accept_decision}
use Rattle.learner.specs.LearnedBags.{chosen_by}
use Rattle.learner.specs.LearnerStates as ledgers
use Rattle.learner.specs.declared.row.Row.{Row as heard_row}
use Rattle.learner.specs.declared.row.Row.TheVariants as rows
use Rattle.proposer.specs.Proposals.{gathered, highest_prior, proposal}
use Rattle.site.specs.declared.answer.Line.TheVariants as site_lines
use Rattle.site.specs.Arrivals.{on_body, on_arrival}
use Rattle.site.specs.Effects.{Send, to_each}
use Rattle.udp_site.specs.Requests as requests
use Rattle.serving_law.specs.Examples.{Request}
use Rattle.serving_law.specs.ExamplesAgreed.{a, ballot, vote}
use Rattle.serving_law.specs.Rules.{AreBytes}
use Rattle.serving_law.proofs.AgreedMessages.{is_accept, is_accepted_1, is_accepted_2, is_promise_1}
use Rattle.serving_law.proofs.AgreedMessages.{is_promise_2, is_prepare, is_d, is_r, is_p, is_v}
use Rattle.serving_law.proofs.AgreedMessages.{is_k, prepare_fits, promise_fits, accept_fits}
use Rattle.serving_law.proofs.AgreedMessages.{accepted_fits}
use Rattle.serving_law.proofs.Agreement.{State, Hearing, Answers, Stands, Fits, m, r, to_site}
use Rattle.serving_law.proofs.Agreement.{to_all}
use Rattle.serving_law.proofs.Answers.{AreMessages, seals}
use Rattle.serving_law.proofs.Sites.{issued, no_ballot, promised_row, voted_by, counted}
use Rattle.serving_law.proofs.Sites.{stands_idle, stands_issued}
use Rattle.serving_law.proofs.DiskCalls.{IsKept}
use Rattle.serving_law.proofs.Tables.{Rows, records_of}

-- Sites 1 and 2 are asked to promise; site 1 hears both promises, and then proposes; both are asked
-- to vote; and each site hears of the vote of site 1, and then of that of site 2.
pub data Turn : Type 0 where
  Asked1 : Turn
  Asked2 : Turn
  Promised1 : Turn
  Promised2 : Turn
  Votes1 : Turn
  Votes2 : Turn
  Hears11 : Turn
  Hears12 : Turn
  Hears21 : Turn
  Hears22 : Turn
  Hears31 : Turn
  Hears32 : Turn
  -- or site 3 hears of the one vote again, then of the other, and of the one once more
  HearsAgain : Turn
  HearsOther : Turn
  HearsLate : Turn

module _ (bag : BagId) (request : Request 7 a bag) where
  abbrev v : Vote
  v = vote bag

  -- ---- what there is before a turn

  abbrev pub unheard : Rows
  unheard = record { own = no_ballot; heard = rows.Unheard }

  abbrev pub own_rows : List ℕ → heard_row → Rows
  own_rows voters heard = record { own = promised_row voters; heard = heard }

  -- the first records of site 1, and of site 2
  abbrev pub records_1 : ℕ → List Entry
  records_1 count =
      take count
      (entry.Deposit bag ∷ entry.Round 1 ∷ entry.Promise ballot ∷ entry.Vote v ∷ entry.Known bag
      ∷ [])

  abbrev pub records_2 : ℕ → List Entry
  records_2 count = take count (entry.Promise ballot ∷ entry.Vote v ∷ entry.Known bag ∷ [])

  -- the first messages that sites 1, 2 and 3 hear, or site 3 where one is said again
  abbrev heard_1 : ℕ → List Body
  heard_1 count =
      take count
      (Prepare ballot ∷ Promise 1 ballot None ∷ Promise 2 ballot None ∷ Accept v ∷ Accepted 1 v
      ∷ Accepted 2 v ∷ [])

  abbrev heard_2 : ℕ → List Body
  heard_2 count = take count (Prepare ballot ∷ Accept v ∷ Accepted 1 v ∷ Accepted 2 v ∷ [])

  abbrev heard_3 : ℕ → List Body
  heard_3 count = take count (Accepted 1 v ∷ Accepted 2 v ∷ [])

  abbrev heard_again : ℕ → List Body
  heard_again count = take count (Accepted 1 v ∷ Accepted 1 v ∷ Accepted 2 v ∷ Accepted 1 v ∷ [])

  -- site 1, which has issued its ballot, and another, which has none
  abbrev begins_ballot : (records messages : ℕ) → List ℕ → heard_row → State
  begins_ballot records messages voters heard = record {
    es = records_1 records;
    bs = heard_1 messages;
    current = Some issued;
    rows = own_rows voters heard;
    turns = 1;
  }

  abbrev idle : List Entry → List Body → heard_row → State
  idle es bs heard = record {
    es = es;
    bs = bs;
    current = None;
    rows = record { own = no_ballot; heard = heard };
    turns = 0;
  }

  -- ---- what comes of a message

  abbrev on_record : Option Entry → Option Record
  on_record None = None
  on_record (Some said) = Some (r said)

  -- something is recorded or not, and sent
  abbrev sends : (n : ℕ) (old : State) → Body → Option Entry → (voters : Rows) → (posts : List Send)
      → (ms : AreMessages posts) → length (seals 7 posts ms) < 2 ^ 63 → Hearing
  sends n old body said then posts ms few = record {
    n = n;
    old = old;
    body = body;
    commits = on_record said;
    sends = posts;
    line = None;
    bs = old.bs ++ body ∷ [];
    rows = then;
    ms = ms;
    few = few;
  }

  -- a vote is heard of
  abbrev counts : (n : ℕ) (old : State) → Body → heard_row → Hearing
  counts n old body heard =
      sends n old body None (record { own = old.rows.own; heard = heard }) [] tt (omega arith)

  -- and by it the bag is known
  abbrev learns : (n : ℕ) (old : State) → Body → Hearing
  learns n old body = record {
    n = n;
    old = old;
    body = body;
    commits = Some (r (entry.Known bag));
    sends = [];
    line = Some (site_lines.Known a bag);
    bs = old.bs ++ body ∷ [];
    rows = record { own = old.rows.own; heard = rows.Known bag };
    ms = tt;
    few = omega arith;
  }

  abbrev one_vote : heard_row
  one_vote = voted_by bag (1 ∷ [])

  abbrev same_vote_twice : heard_row
  same_vote_twice = voted_by bag (1 ∷ 1 ∷ [])

  abbrev pub hearing : Turn → Hearing
  hearing Asked1 =
      sends 1 (begins_ballot 2 0 [] rows.Unheard) (Prepare ballot) (Some (entry.Promise ballot))
      (own_rows [] rows.Unheard) (to_site 1 (Promise 1 ballot None) ∷ [])
      (is_promise_1 bag request, tt) (omega arith)
  hearing Asked2 =
      sends 2 (idle [] [] rows.Unheard) (Prepare ballot) (Some (entry.Promise ballot)) unheard
      (to_site 1 (Promise 2 ballot None) ∷ []) (is_promise_2 bag request, tt) (omega arith)
  hearing Promised1 =
      sends 1 (begins_ballot 3 1 [] rows.Unheard) (Promise 1 ballot None) None
      (own_rows (1 ∷ []) rows.Unheard) [] tt (omega arith)
  hearing Promised2 =
      let is = is_accept bag request in
      sends 1 (begins_ballot 3 2 (1 ∷ []) rows.Unheard) (Promise 2 ballot None) None
      (own_rows (1 ∷ 2 ∷ []) rows.Unheard) (to_all (Accept v)) (is, (is, (is, tt))) (omega arith)
  hearing Votes1 =
      let is = is_accepted_1 bag request in
      sends 1 (begins_ballot 3 3 (1 ∷ 2 ∷ []) rows.Unheard) (Accept v) (Some (entry.Vote v))
      (own_rows (1 ∷ 2 ∷ []) rows.Unheard) (to_all (Accepted 1 v)) (is, (is, (is, tt)))
      (omega arith)
  hearing Votes2 =
      let is = is_accepted_2 bag request in
      sends 2 (idle (records_2 1) (heard_2 1) rows.Unheard) (Accept v) (Some (entry.Vote v))
      unheard (to_all (Accepted 2 v)) (is, (is, (is, tt))) (omega arith)
  hearing Hears11 = counts 1 (begins_ballot 4 4 (1 ∷ 2 ∷ []) rows.Unheard) (Accepted 1 v) one_vote
  hearing Hears12 = learns 1 (begins_ballot 4 5 (1 ∷ 2 ∷ []) one_vote) (Accepted 2 v)
  hearing Hears21 = counts 2 (idle (records_2 2) (heard_2 2) rows.Unheard) (Accepted 1 v) one_vote
  hearing Hears22 = learns 2 (idle (records_2 2) (heard_2 3) one_vote) (Accepted 2 v)
  hearing Hears31 = counts 3 (idle [] [] rows.Unheard) (Accepted 1 v) one_vote
  hearing Hears32 = learns 3 (idle [] (heard_3 1) one_vote) (Accepted 2 v)
  hearing HearsAgain = counts 3 (idle [] (heard_again 1) one_vote) (Accepted 1 v) same_vote_twice
  hearing HearsOther = learns 3 (idle [] (heard_again 2) same_vote_twice) (Accepted 2 v)
  hearing HearsLate =
      counts 3 (idle (entry.Known bag ∷ []) (heard_again 3) (rows.Known bag)) (Accepted 1 v)
      (rows.Known bag)

  -- ---- what comes of each message by the rules

  -- the vote is the same as itself
  itself : bytes_eq bag.0 bag.0 ≡ true
  itself = (bytes_eq-Decides bag.0 bag.0).1 refl

  pub answers : (turn : Turn) → Answers (hearing turn)
  unfolding on_arrival on_body prepare_decision accept_decision promised_of vote_of to_each sites_to
      is_in same_slot ballot_cmp known_of deposit_of gathered highest_prior proposal promises_for
      promisers priors bodies_of chosen_by voters_for
  answers Hears11 = rw itself refl
  answers Hears12 = rw itself refl
  answers Hears21 = rw itself refl
  answers Hears22 = rw itself refl
  answers Hears31 = rw itself refl
  answers Hears32 = rw itself refl
  answers HearsAgain = rw itself refl
  answers HearsOther = rw itself refl
  answers _ = refl

  -- ---- the tables represent what was heard

  -- of one vote, or of the same twice, the voters are those that were heard
  one : (same : Bool) (n : ℕ)
      → ledgers.voters_or_none (cond same (Some (n ∷ [])) None)
      ≡ cons_option (cond same (Some n) None) []
  one true n = refl
  one false n = refl

  twice : (same : Bool) (n : ℕ)
      → ledgers.voters_or_none (cond same (Some (n ∷ n ∷ [])) None)
      ≡ cons_option (cond same (Some n) None) (cons_option (cond same (Some n) None) [])
  twice true n = refl
  twice false n = refl

  pub stands : (turn : Turn) → Stands (hearing turn)
  unfolding known_of used_of deposit_of voters_for bodies_of floor_of is_in same_slot gathered
      promises_for promisers priors highest_prior
  stands Asked1 =
      stands_issued 1 (records_1 3) (heard_1 1) rows.Unheard refl (λ none u k. refl) refl []
      refl refl refl
  stands Asked2 =
      stands_idle 2 (records_2 1) (heard_2 1) rows.Unheard refl (λ none u k. refl) refl refl
  stands Promised1 =
      stands_issued 1 (records_1 3) (heard_1 2) rows.Unheard refl (λ none u k. refl) refl
      (1 ∷ []) refl refl refl
  stands Promised2 =
      stands_issued 1 (records_1 3) (heard_1 3) rows.Unheard refl (λ none u k. refl) refl
      (1 ∷ 2 ∷ []) refl refl refl
  stands Votes1 =
      stands_issued 1 (records_1 4) (heard_1 4) rows.Unheard refl (λ none u k. refl) refl
      (1 ∷ 2 ∷ []) refl refl refl
  stands Votes2 =
      stands_idle 2 (records_2 2) (heard_2 2) rows.Unheard refl (λ none u k. refl) refl refl
  stands Hears11 =
      stands_issued 1 (records_1 4) (heard_1 5) one_vote refl
      (λ none u k. rw (counted bag (1 ∷ []) u, one (same_vote v u) 1) refl)
      refl (1 ∷ 2 ∷ []) refl refl refl
  stands Hears12 =
      stands_issued 1 (records_1 5) (heard_1 6) (rows.Known bag) refl (λ none. absurd (cc none))
      refl (1 ∷ 2 ∷ []) refl refl refl
  stands Hears21 =
      stands_idle 2 (records_2 2) (heard_2 3) one_vote refl
      (λ none u k. rw (counted bag (1 ∷ []) u, one (same_vote v u) 1) refl) refl refl
  stands Hears22 =
      stands_idle 2 (records_2 3) (heard_2 4) (rows.Known bag) refl (λ none. absurd (cc none)) refl
      refl
  stands Hears31 =
      stands_idle 3 [] (heard_3 1) one_vote refl
      (λ none u k. rw (counted bag (1 ∷ []) u, one (same_vote v u) 1) refl) refl refl
  stands Hears32 =
      stands_idle 3 (entry.Known bag ∷ []) (heard_3 2) (rows.Known bag) refl
      (λ none. absurd (cc none)) refl refl
  stands HearsAgain =
      stands_idle 3 [] (heard_again 2) same_vote_twice refl
      (λ none u k. rw (counted bag (1 ∷ 1 ∷ []) u, twice (same_vote v u) 1) refl) refl refl
  stands HearsOther =
      stands_idle 3 (entry.Known bag ∷ []) (heard_again 3) (rows.Known bag) refl
      (λ none. absurd (cc none)) refl refl
  stands HearsLate =
      stands_idle 3 (entry.Known bag ∷ []) (heard_again 4) (rows.Known bag) refl
      (λ none. absurd (cc none)) refl refl

  -- ---- what is on record, comes and is recorded is well-formed

  abbrev fit : {h : Hearing} → AreRecords (records_of a h.old.es) → IsMessage (m h.body)
      → requests.request_by 0 (m h.body) h.body ≡ requests.Says (m h.body)
      → AreBytes (datagram_of 7 (m h.body)) → IsKept h.commits → Fits h
  fit are is says fits keep =
      record { are = are; is = is; says = says; fits = fits; keep = keep }

  abbrev is_1 : IsMessage (m (Accepted 1 v))
  is_1 = is_accepted_1 bag request

  abbrev is_2 : IsMessage (m (Accepted 2 v))
  is_2 = is_accepted_2 bag request

  fits_1 : AreBytes (datagram_of 7 (m (Accepted 1 v)))
  fits_1 = accepted_fits bag request 1 (omega arith)

  fits_2 : AreBytes (datagram_of 7 (m (Accepted 2 v)))
  fits_2 = accepted_fits bag request 2 (omega arith)

  three_records : AreRecords (records_of a (records_1 3))
  three_records = (is_d bag request, (is_r bag request, (is_p bag request, tt)))

  four_records : AreRecords (records_of a (records_1 4))
  four_records = (is_d bag request, (is_r bag request, (is_p bag request, (is_v bag request, tt))))

  pub fits : (turn : Turn) → Fits (hearing turn)
  fits Asked1 =
      fit (is_d bag request, (is_r bag request, tt)) (is_prepare bag request) refl
      (prepare_fits bag request) (is_p bag request)
  fits Asked2 = fit tt (is_prepare bag request) refl (prepare_fits bag request) (is_p bag request)
  fits Promised1 =
      fit three_records (is_promise_1 bag request) refl (promise_fits bag request 1 (omega arith))
      tt
  fits Promised2 =
      fit three_records (is_promise_2 bag request) refl (promise_fits bag request 2 (omega arith))
      tt
  fits Votes1 =
      fit three_records (is_accept bag request) refl (accept_fits bag request) (is_v bag request)
  fits Votes2 =
      fit (is_p bag request, tt) (is_accept bag request) refl (accept_fits bag request)
      (is_v bag request)
  fits Hears11 = fit four_records is_1 refl fits_1 tt
  fits Hears12 = fit four_records is_2 refl fits_2 (is_k bag request)
  fits Hears21 = fit (is_p bag request, (is_v bag request, tt)) is_1 refl fits_1 tt
  fits Hears22 = fit (is_p bag request, (is_v bag request, tt)) is_2 refl fits_2 (is_k bag request)
  fits Hears31 = fit tt is_1 refl fits_1 tt
  fits Hears32 = fit tt is_2 refl fits_2 (is_k bag request)
  fits HearsAgain = fit tt is_1 refl fits_1 tt
  fits HearsOther = fit tt is_2 refl fits_2 (is_k bag request)
  fits HearsLate = fit (is_k bag request, tt) is_1 refl fits_1 tt
