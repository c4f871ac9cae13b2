-- How deposits stand with a site that has to be opened again, and whom the rounds ask, computed.
use Rattle.std.proofs.Common.{◌≡◌, ℕ, zero, suc, List, [], ◌∷◌, ◌++◌, Option, Some, None}
use Rattle.std.proofs.Common.{refl, sym, inl, inr, append-nil}
use Rattle.dgram.specs.declared.answers.QueryAnswer.TheVariants as query
use Rattle.fed_types.specs.declared.bag_id.BagId.{BagId}
use Rattle.fed_types.specs.Slots.{SlotName}
use Rattle.udp_site.specs.Traffic.{Post, Move, Handed}
use Rattle.site_client.specs.declared.reply.Wanted.TheVariants as wanted
use Rattle.site_client.specs.Replies.{Question, datagram_to, first_reply}
use Rattle.site_client.specs.Exchanges.{handed_if}
use Rattle.site_client.specs.Recoveries.{recovery_of, recovery_datagram}
use Rattle.catch_up.specs.declared.rounds.Target.{Target}
use Rattle.catch_up.specs.Rounds.{question, in_round}
use Rattle.catch_up.specs.Times.{Beat, Read, Paused, pause_after}
use Rattle.deposit_list.specs.declared.entry.Entry.{Entry}
use Rattle.deposit_list.specs.declared.standing.Standing.TheVariants.{Unsent, Unanswered}
use Rattle.deposit_list.specs.declared.standing.Standing.TheVariants.{Registered, Known}
use Rattle.deposit_list.specs.Standings.{after, by_query}
use Rattle.deposit_list.specs.Windows.{path_by, IsStep, IsRound, IsAwaited, AreRounds}
use Rattle.deposit_list.specs.Windows.{AreCutRounds}

-- ---- by the answer to a query

abbrev bag : BagId
bag = record { 0 = 7 ∷ [] }

abbrev other : BagId
other = record { 0 = 8 ∷ [] }

abbrev path : List ℕ
path = 47 ∷ 97 ∷ []

-- A site that has to be opened again answers. What it hasn't registered is sent to it again, and it
-- then refuses that: so the client doesn't ask until its time is over.
pub unanswered_where_it_has_to_be_opened : by_query Unanswered query.NeedsOpen ≡ Unsent
unanswered_where_it_has_to_be_opened = refl

pub unsent_where_it_has_to_be_opened : by_query Unsent query.NeedsOpen ≡ Unsent
unsent_where_it_has_to_be_opened = refl

pub and_is_sent_again : path_by (by_query Unanswered query.NeedsOpen) path ≡ Some path
and_is_sent_again = refl

-- What it has registered isn't. It is the same where it says that a deposit is pending.
pub registered_where_it_has_to_be_opened :
    by_query (Registered bag) query.NeedsOpen ≡ Registered bag
registered_where_it_has_to_be_opened = refl

pub registered_where_pending : by_query (Registered bag) (query.Pending bag) ≡ Registered bag
registered_where_pending = refl

pub unanswered_where_pending : by_query Unanswered (query.Pending bag) ≡ Unsent
unanswered_where_pending = refl

-- where it says that it has nothing, also what it has registered is sent again
pub registered_where_nothing : by_query (Registered bag) query.Nothing ≡ Unsent
registered_where_nothing = refl

-- Where it knows a bag, what it has registered is known. What it hasn't said that it has registered
-- is sent again, since only its answer to a deposit names the bag.
pub registered_where_known : by_query (Registered bag) (query.Known other) ≡ Known other bag
registered_where_known = refl

pub unanswered_where_known : by_query Unanswered (query.Known bag) ≡ Unsent
unanswered_where_known = refl

-- where it doesn't answer, nothing is
pub no_answer : after Unsent None ≡ Unanswered
no_answer = refl

pub no_answer_again : after Unanswered None ≡ Unanswered
no_answer_again = refl

-- ---- whom the rounds ask

-- version 1 of the object `a`
abbrev slot : SlotName
slot = record { object = 97 ∷ []; version = 1 }

-- site 2 of three
abbrev asked : Target
asked = record {
  federation = 7;
  to = 2;
  target = 7002;
  addresses = record { ref_ptr = (0, 0); now = 7001 ∷ 7002 ∷ 7003 ∷ [] };
  round = 0;
}

-- a deposit that was sent there, and nothing came of it
abbrev waiting : Entry
waiting = record {
  deposit = record { ref_ptr = (0, 0); now = record { slot = slot; path = path } };
  standing = Unanswered;
}

-- the question about it after so many rounds
abbrev q : (rounds : ℕ) → Question
q rounds = question (in_round asked rounds) slot

-- the next round hands that out, and a Recover, if it is time for one; and nothing comes
abbrev asks : (rounds : ℕ) → List Move
asks rounds = Handed (7002, datagram_to (q rounds) None) ∷ handed_if (recovery_of (q rounds))

-- its pause
abbrev waits : (rounds : ℕ) → List Beat
waits zero = []
waits (suc pauses) = Read (Some 0) ∷ Paused (pause_after pauses) ∷ []

-- all that so many rounds hand out, and their pauses
abbrev all_asked : (rounds : ℕ) → List Move
all_asked zero = []
all_asked (suc rounds) = all_asked rounds ++ asks rounds

abbrev all_waits : (rounds : ℕ) → List Beat
all_waits zero = []
all_waits (suc rounds) = all_waits rounds ++ waits rounds

-- The first nine hand out no Recover. The tenth has the site itself recover, the next one site 3,
-- and the one after it site 1.
pub the_ninth_asks_alone : asks 8 ≡ Handed (7002, datagram_to (q 8) None) ∷ []
the_ninth_asks_alone = refl

pub the_tenth_has_it_recover : asks 9
    ≡ Handed (7002, datagram_to (q 9) None) ∷ Handed (7002, recovery_datagram (q 9)) ∷ []
the_tenth_has_it_recover = refl

pub the_eleventh_has_the_next_one : asks 10
    ≡ Handed (7002, datagram_to (q 10) None) ∷ Handed (7003, recovery_datagram (q 10)) ∷ []
the_eleventh_has_the_next_one = refl

pub the_twelfth_has_the_first_one : asks 11
    ≡ Handed (7002, datagram_to (q 11) None) ∷ Handed (7001, recovery_datagram (q 11)) ∷ []
the_twelfth_has_the_first_one = refl

-- what a site is handed is no reply
no_reply : (q : Question) (first : Post) (recovery : Option Post)
    → first_reply q wanted.Any (Handed first ∷ handed_if recovery) ≡ None
no_reply q first None = refl
no_reply q first (Some post) = refl

step : (rounds : ℕ) → IsStep (in_round asked rounds) waiting waiting (asks rounds)
step rounds =
    let none = no_reply (q rounds) (7002, datagram_to (q rounds) None) (recovery_of (q rounds)) in
    inr (refl, (([], rw append-nil, tt), rw none))

-- the round after so many asks so
a_round : (rounds : ℕ)
    → IsRound (in_round asked rounds) (waiting ∷ []) (waiting ∷ []) (asks rounds)
a_round rounds =
    (waiting, [], asks rounds, [], refl, sym (append-nil (asks rounds)), step rounds, (refl, refl))

awaited : (rounds : ℕ) → IsAwaited 60 rounds (waiting ∷ []) (waits rounds)
awaited zero = refl
awaited (suc pauses) = (refl, (0, refl, refl))

-- So many rounds ask by these datagrams: each after the ninth has a site recover, and the next one
-- another site.
pub rounds_ask_others_to_recover : (rounds : ℕ) → AreRounds 60 asked rounds (waiting ∷ [])
    (waiting ∷ []) (all_asked rounds) (all_waits rounds)
rounds_ask_others_to_recover zero = (refl, refl, refl)
rounds_ask_others_to_recover (suc rounds) = (
  waiting ∷ [],
  all_asked rounds,
  asks rounds,
  all_waits rounds,
  waits rounds,
  refl,
  refl,
  rounds_ask_others_to_recover rounds,
  awaited rounds,
  a_round rounds,
)

-- also a round that breaks off after its Recover was handed out
pub a_cut_round_asks_to_recover :
    AreCutRounds 60 asked (waiting ∷ []) (all_asked 11) (all_waits 11)
a_cut_round_asks_to_recover = (
  10,
  waiting ∷ [],
  all_asked 10,
  asks 10,
  all_waits 10,
  waits 10,
  refl,
  refl,
  rounds_ask_others_to_recover 10,
  awaited 10,
  inl (refl, (refl, tt)),
)
