-- How long the port of site 2 waits, computed: first 1 ms, and 8 ms at most.
use Rattle.std.proofs.Common.{◌≡◌, ℕ, List, [], ◌∷◌, refl, Some, None, map, replicate}
use Rattle.fed_types.specs.Lists.{is_in}
use Rattle.fed_types.specs.Sites.{membership_of, sites_to}
use Rattle.fed_types.specs.Voters.{with_voter}
use Rattle.udp_site.specs.declared.pace.Pace.{Pace}
use Rattle.udp_site.specs.declared.movement.Sign.TheVariants.{Still, Moves, Decides}
use Rattle.udp_site.specs.Contacts.{nobody_heard}
use Rattle.udp_site.specs.Pace.{begins, idles, hears, registers, listens, hands, wait_at, left}

abbrev fresh : Pace
fresh = begins (record { first = 1; most = 8; prompt = 2 }) None

-- its own port, and another
abbrev own : ℕ
own = 7002

abbrev other : ℕ
other = 7001

-- the beginnings of datagrams, of a Prepare, of an Accept, and of replies to clients
abbrev start : (kind : ℕ) → List ℕ
start kind = 0x42 ∷ 0x50 ∷ 2 ∷ kind ∷ []

abbrev prepare : List ℕ
prepare = start 1

abbrev accept : List ℕ
accept = start 3

-- of federation 7, from site 2, for version 1 of the object `a`: to a deposit, and to a query
abbrev says : (kind code : ℕ) → List ℕ
says kind code = 0x42 ∷ 0x50 ∷ 2 ∷ kind ∷ 0 ∷ 0 ∷ 0 ∷ 0 ∷ 0 ∷ 0 ∷ 0 ∷ 7 ∷ 2 ∷ 1 ∷ 0x61
    ∷ 0 ∷ 0 ∷ 0 ∷ 1 ∷ code ∷ []

abbrev deposit_reply : (code : ℕ) → List ℕ
deposit_reply code = says 32 code

abbrev reply : (code : ℕ) → List ℕ
reply code = says 33 code

-- the wait stays as it is in the two turns that site 2 needs to propose
pub first_wait : left fresh 0 0 ≡ 1000
first_wait = refl

abbrev twice_idle : Pace
twice_idle = idles (idles fresh 1000) 2000

pub second_wait : left (idles fresh 1000) 1000 1000 ≡ 1000
second_wait = refl

pub third_wait : left twice_idle 2000 2000 ≡ 1000
third_wait = refl

-- what is left of a wait, and after it
pub half_way : left fresh 0 600 ≡ 400
half_way = refl

pub over : left fresh 0 1001 ≡ 0
over = refl

-- it has proposed nothing: it rests for 2, 4 and 8 ms, and no longer
abbrev rests : Pace
rests = idles twice_idle 3000

abbrev rested : Pace
rested = idles (idles rests 5000) 9000

pub rests_for_two : left rests 3000 3000 ≡ 2000
rests_for_two = refl

pub longest_wait : left rested 9000 9000 ≡ 8000
longest_wait = refl

pub no_longer : left (idles rested 17000) 17000 17000 ≡ 8000
no_longer = refl

-- where the first wait is longer than the longest one, it stays
pub never_less_than_the_first :
    left (idles (begins (record { first = 10; most = 8; prompt = 0 }) None) 10000) 10000 10000
    ≡ 10000
never_less_than_the_first = refl

-- it proposes, by the Prepare to itself and by no other: from now on it waits for 2 ms, in each of
-- the turns up to the next proposal, and then for 4 ms
abbrev proposed : Pace
proposed = hands twice_idle own own prepare

pub by_its_own_prepare : hands twice_idle own other prepare ≡ twice_idle
by_its_own_prepare = refl

pub twice_as_long : left proposed 2000 2000 ≡ 2000
twice_as_long = refl

abbrev idle_since : Pace
idle_since = idles (idles proposed 4000) 6000

pub not_in_idle_turns : left idle_since 6000 6000 ≡ 2000
not_in_idle_turns = refl

pub after_the_next_proposal : left (hands idle_since own own prepare) 6000 6000 ≡ 4000
after_the_next_proposal = refl

-- promises of a quorum, by the Accept that it sends to any site, bring back the first wait
pub promised : left (hands proposed own other accept) 2000 2000 ≡ 1000
promised = refl

-- a deposit that is registered brings back the first wait, and two turns are idle at once, as site
-- 2 needs; no third
abbrev deposited : Pace
deposited = registers rested

pub by_the_reply : hands rested own 40000 (deposit_reply 0) ≡ deposited
by_the_reply = refl

-- the body's first byte comes after the name, which is of two bytes here
pub of_a_longer_name : hands rested own 40000 (0x42 ∷ 0x50 ∷ 2 ∷ 32 ∷ 0 ∷ 0 ∷ 0 ∷ 0 ∷ 0 ∷ 0 ∷ 0 ∷ 7
    ∷ 2 ∷ 2 ∷ 0x61 ∷ 0x62 ∷ 0 ∷ 0 ∷ 0 ∷ 1 ∷ 0 ∷ []) ≡ deposited
of_a_longer_name = refl

-- one that is refused changes nothing: another was deposited (11) or is known (12), the site can't
-- take it (13 to 15), the folder can't be read (21 to 26), or has no valid bag (41 to 54)
pub refused_is_nothing : map (λ code. hands rested own 40000 (deposit_reply code))
    (11 ∷ 12 ∷ 13 ∷ 14 ∷ 15 ∷ 21 ∷ 26 ∷ 41 ∷ 54 ∷ []) ≡ replicate 9 rested
refused_is_nothing = refl

pub deposit_is_proposed : left deposited 9100 9100 ≡ 0
deposit_is_proposed = refl

pub in_the_second_turn : left (idles deposited 9100) 9100 9100 ≡ 0
in_the_second_turn = refl

pub and_no_third : left (idles (idles deposited 9100) 9200) 9200 9200 ≡ 1000
and_no_third = refl

-- another deposit makes two more; but while no quorum is heard, as here, they wait for the proposal
pub two_deposits : (idles (idles (registers deposited) 9100) 9100).prompt ≡ 2
two_deposits = refl

pub one_proposal_alone : left (idles (idles (registers deposited) 9100) 9100) 9100 9100 ≡ 1000
one_proposal_alone = refl

-- nor are there more than a thousand, in which nothing is taken in
pub thousand_and_no_more : (registers (record deposited { prompt = 999 })).prompt ≡ 1000
thousand_and_no_more = refl

-- after it the wait doesn't grow for two turns, and then it does
pub rests_after_them : left (idles (idles (idles deposited 9100) 9200) 9300) 9300 9300 ≡ 2000
rests_after_them = refl

-- what else moves something brings back the first wait alone
pub waits_again : left (hears rested Moves) 9000 9000 ≡ 1000
waits_again = refl

pub and_takes_no_prompt_turn_away : (hears deposited Moves).prompt ≡ 2
and_takes_no_prompt_turn_away = refl

pub and_rests_on : left (idles (hears rested Moves) 10000) 10000 10000 ≡ 2000
and_rests_on = refl

pub decided : left (hears rested Decides) 9000 9000 ≡ 1000
decided = refl

-- what moves nothing doesn't; but the turn is idle 250 ms after the last that was, whatever comes
pub asked : left (hears rested Still) 9000 9000 ≡ 8000
asked = refl

pub asked_all_the_time : left (hears rested Still) 259000 259000 ≡ 0
asked_all_the_time = refl

-- or after ten first waits, where these are longer, or its wait
pub ten_first_waits :
    left (begins (record { first = 100; most = 100; prompt = 2 }) None) 999999 999999 ≡ 1
ten_first_waits = refl

pub ten_and_no_more :
    left (begins (record { first = 100; most = 100; prompt = 2 }) None) 1000000 1000000 ≡ 0
ten_and_no_more = refl

-- while a proposal is under way no turn is prompt: one is idle 2 ms after the last that came, or
-- 250 ms after the last idle turn
abbrev proposed_at_once : Pace
proposed_at_once = hands deposited own own prepare

pub proposes : left proposed_at_once 9000 9000 ≡ 2000
proposes = refl

pub proposes_and_is_asked : left proposed_at_once 258000 258000 ≡ 1000
proposes_and_is_asked = refl

pub is_idle_at_last : left proposed_at_once 259000 259000 ≡ 0
is_idle_at_last = refl

-- promises, an Accept of another site and one more deposit end no proposal
pub promises_end_no_proposal : left (hands proposed_at_once own other accept) 9000 9000 ≡ 1000
promises_end_no_proposal = refl

pub an_accept_ends_no_proposal : left (hears proposed_at_once Moves) 9000 9000 ≡ 1000
an_accept_ends_no_proposal = refl

pub a_deposit_ends_no_proposal : left (registers proposed_at_once) 9000 9000 ≡ 1000
a_deposit_ends_no_proposal = refl

-- votes: no proposal is under way any more, and the turns that are left are prompt
pub voted : left (hears proposed_at_once Decides) 9000 9000 ≡ 0
voted = refl

-- What a site hands out beside these says nothing: promises, votes, refusals, questions, known bags
-- and a client's requests. Their bodies don't matter. Here they begin with a 1: in the reply to a
-- query that says that the bag is pending.
pub handed_out_is_nothing : map (λ kind. hands proposed_at_once own other (says kind 1))
    (2 ∷ 4 ∷ 5 ∷ 6 ∷ 7 ∷ 16 ∷ 17 ∷ []) ≡ replicate 7 proposed_at_once
handed_out_is_nothing = refl

-- or with a 0: in the reply to a deposit that says that it is registered
pub nor_with_a_zero : map (λ kind. hands proposed_at_once own other (says kind 0))
    (2 ∷ 4 ∷ 5 ∷ 6 ∷ 7 ∷ 16 ∷ 17 ∷ []) ≡ replicate 7 proposed_at_once
nor_with_a_zero = refl

-- or those that end before their bodies
pub nor_without_a_body : map (λ kind. hands proposed_at_once own other (start kind))
    (2 ∷ 4 ∷ 5 ∷ 6 ∷ 7 ∷ 16 ∷ 17 ∷ []) ≡ replicate 7 proposed_at_once
nor_without_a_body = refl

-- Each reply says its own: a 1 in that to a deposit is no question, and a 0 in that to a query
-- registers nothing.
pub each_reply_its_own :
    hands proposed_at_once own 40000 (deposit_reply 1) ∷ hands proposed_at_once own 40000 (reply 0)
    ∷ [] ≡ replicate 2 proposed_at_once
each_reply_its_own = refl

-- A site that has proposed at the moment 0, and waits for a minute.
abbrev alone : Pace
alone = record (begins (record { first = 1; most = 60000; prompt = 2 }) None) {
  wait = 60000;
  under_way = 1;
}

-- a client asks for a bag that is pending: two turns come at once, but not before a second
abbrev questioned : Pace
questioned = hands alone own 40000 (reply 1)

-- a vote that moves the site isn't what it was asked for
pub still_a_question : (hears questioned Decides).asked ≡ 2
still_a_question = refl

-- nor is a deposit; and one question more makes no more turns
pub a_deposit_is_no_answer : (registers questioned).asked ≡ 2
a_deposit_is_no_answer = refl

pub questions_dont_add_up : (hands questioned own 40000 (reply 1)).asked ≡ 2
questions_dont_add_up = refl

pub not_before_a_second : left questioned 300000 400000 ≡ 600000
not_before_a_second = refl

pub but_then : left questioned 300000 1000000 ≡ 0
but_then = refl

pub and_in_the_next : left (idles questioned 1000000) 1000000 1000000 ≡ 0
and_in_the_next = refl

-- there is no third, nor a second once it has proposed: it waits for its minute
pub and_no_third_turn :
    left (idles (idles questioned 1000000) 1000000) 1000000 1000000 ≡ 60000000
and_no_third_turn = refl

pub a_proposal_answers : left (hands (idles questioned 1000000) own own prepare) 2000000 2000000
    ≡ 59000000
a_proposal_answers = refl

-- before any question, and whatever comes, it waits for its minute
pub waits_for_a_minute : left alone 300000 400000 ≡ 59600000
waits_for_a_minute = refl

-- where a deposit has turns that are prompt, these don't wait for the second
pub prompt_before_the_second : left (registers (hears questioned Decides)) 400000 400000 ≡ 0
prompt_before_the_second = refl

pub asked_again_it_takes_a_second :
    left (hands (hands (idles (idles questioned 1000000) 1000000) own own prepare) own 40000
    (reply 1)) 1000000 1000000 ≡ 1000000
asked_again_it_takes_a_second = refl

-- a bag that is known, or that it hasn't, is no question for it
pub known_is_no_question : hands alone own 40000 (reply 0) ≡ alone
known_is_no_question = refl

pub nothing_is_no_question : hands alone own 40000 (reply 2) ≡ alone
nothing_is_no_question = refl

-- Site 2 of three that waits for a minute: while another was heard lately it waits for half a
-- second.
abbrev of_three : Pace
of_three = record alone { contacts = Some (nobody_heard (membership_of 7 (1 ∷ 1 ∷ 1 ∷ [])) 2) }

abbrev heard_at_nine : Pace
heard_at_nine = listens of_three 9000000 (Some 3)

pub nobody_is_heard : wait_at of_three 9000000 ≡ 60000
unfolding with_voter sites_to is_in
nobody_is_heard = refl

pub a_quorum_is_heard : wait_at heard_at_nine 9000000 ≡ 500
unfolding with_voter sites_to is_in
a_quorum_is_heard = refl

pub in_the_span_after : wait_at heard_at_nine 19999999 ≡ 500
unfolding with_voter sites_to is_in
in_the_span_after = refl

pub no_longer_then : wait_at heard_at_nine 20000000 ≡ 60000
unfolding with_voter sites_to is_in
no_longer_then = refl

-- one other of five is too few; a site that is a quorum by its weight needs none
pub too_few : wait_at (listens (record alone {
  contacts = Some (nobody_heard (membership_of 7 (1 ∷ 1 ∷ 1 ∷ 1 ∷ 1 ∷ [])) 2);
}) 9000000 (Some 3)) 9000000 ≡ 60000
unfolding with_voter sites_to is_in
too_few = refl

pub heavy : wait_at (record alone {
  contacts = Some (nobody_heard (membership_of 7 (1 ∷ 5 ∷ 1 ∷ [])) 2);
}) 9000000 ≡ 500
unfolding with_voter sites_to is_in
heavy = refl
