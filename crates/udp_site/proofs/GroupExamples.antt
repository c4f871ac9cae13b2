-- Proposals that site 2 of three makes together, computed: its first wait is 1 ms.
use Rattle.std.proofs.Common.{◌≡◌, ℕ, zero, suc, [], ◌∷◌, refl, Some, map}
use Rattle.fed_types.specs.Lists.{is_in}
use Rattle.fed_types.specs.Sites.{membership_of, sites_to}
use Rattle.fed_types.specs.Voters.{with_voter}
use Rattle.udp_site.specs.declared.pace.Pace.{Pace}
use Rattle.udp_site.specs.declared.movement.Sign.TheVariants.{Decides}
use Rattle.udp_site.specs.Contacts.{nobody_heard}
use Rattle.udp_site.specs.Pace.{begins, idles, hears, listens, registers, awaits_turns, proposes}
use Rattle.udp_site.specs.Pace.{left, alone_for}

-- it has heard nobody; and it has heard site 3
abbrev cut_off : Pace
cut_off =
    begins (record { first = 1; most = 60000; prompt = 2 })
    (Some (nobody_heard (membership_of 7 (1 ∷ 1 ∷ 1 ∷ [])) 2))

abbrev connected : Pace
connected = listens cut_off 100 (Some 3)

abbrev three_deposits : Pace → Pace
three_deposits pace = registers (registers (registers pace))

-- so many turns are idle at this moment
pub idle : ℕ → Pace → Pace
idle zero pace = pace
idle (suc n) pace = idles (idle n pace) 200

-- how long it waits after them
abbrev waits : ℕ → Pace → ℕ
waits turns pace = left (idle turns pace) 200 200

-- six turns are idle at once, for three proposals, and no seventh; and these don't make it rest
pub six_at_once : map (λ n. waits n (three_deposits connected)) (0 ∷ 1 ∷ 2 ∷ 3 ∷ 4 ∷ 5 ∷ [])
    ≡ 0 ∷ 0 ∷ 0 ∷ 0 ∷ 0 ∷ 0 ∷ []
unfolding idle with_voter sites_to is_in
six_at_once = refl

pub no_seventh : waits 6 (three_deposits connected) ≡ 1000
unfolding idle with_voter sites_to is_in
no_seventh = refl

-- while no quorum is heard there are two, for one proposal
pub two_alone : map (λ n. waits n (three_deposits cut_off)) (0 ∷ 1 ∷ 2 ∷ [])
    ≡ 0 ∷ 0 ∷ 1000 ∷ []
unfolding idle with_voter sites_to is_in
two_alone = refl

-- The three proposals are handed out. They make it wait twice as long once, and it doesn't wait
-- longer for their answers.
abbrev together : Pace
together = proposes (proposes (proposes (idle 6 (three_deposits connected))))

pub three_are_under_way : together.under_way ≡ 3
unfolding idle with_voter sites_to is_in
three_are_under_way = refl

pub twice_as_long_once : left together 200 200 ≡ 2000
unfolding idle with_voter sites_to is_in
twice_as_long_once = refl

pub none_is_late : together.answer_wait ≡ 1
unfolding idle with_voter sites_to is_in
none_is_late = refl

-- the next that it makes after an idle turn outbids one of them, and their answers were late
pub then_they_are_late : (proposes (idles together 300)).answer_wait ≡ 2
unfolding idle with_voter sites_to is_in
then_they_are_late = refl

pub one_after_them : (proposes (idles together 300)).under_way ≡ 1
unfolding idle with_voter sites_to is_in
one_after_them = refl

-- So does one that is handed out behind a `registered`: that comes of the same batch, and of a turn
-- after which one was idle.
pub registered_before_it : (proposes (registers (idles together 300))).answer_wait ≡ 2
unfolding idle with_voter sites_to is_in
registered_before_it = refl

pub one_behind_registered : (proposes (registers (idles together 300))).under_way ≡ 1
unfolding idle with_voter sites_to is_in
one_behind_registered = refl

-- A recovery of a later batch isn't made together with them either.
pub one_of_a_later_batch : (proposes (awaits_turns together 0)).under_way ≡ 1
unfolding idle with_voter sites_to is_in
one_of_a_later_batch = refl

pub waits_longer_for_it : left (proposes (awaits_turns together 0)) 200 200 ≡ 4000
unfolding idle with_voter sites_to is_in
waits_longer_for_it = refl

-- no more are counted than it makes together
pub no_more_are_counted : (proposes (record together { under_way = 32 })).under_way ≡ 32
unfolding idle with_voter sites_to is_in
no_more_are_counted = refl

-- Another deposit is proposed at once when each of the three has got a vote, and no earlier.
pub voted : ℕ → Pace
voted zero = registers together
voted (suc n) = hears (voted n) Decides

pub waits_for_all_votes : map (λ n. left (voted n) 200 200) (0 ∷ 1 ∷ 2 ∷ 3 ∷ [])
    ≡ 1000 ∷ 1000 ∷ 1000 ∷ 0 ∷ []
unfolding idle voted with_voter sites_to is_in
waits_for_all_votes = refl

-- one more vote than it has proposals changes nothing
pub none_is_left : (hears (voted 3) Decides).under_way ≡ 0
unfolding idle voted with_voter sites_to is_in
none_is_left = refl

-- After a batch it is known how many deposits wait: so many turns are prompt, two for each.
pub two_wait : (awaits_turns connected 2).prompt ≡ 4
unfolding with_voter sites_to is_in
two_wait = refl

-- none does, though one was registered: it was there before, and its proposal may be under way
pub none_waits : waits 0 (awaits_turns (registers connected) 0) ≡ 1000
unfolding idle with_voter sites_to is_in
none_waits = refl

-- no more than 32 are proposed together, and no more than a thousand turns are prompt
pub thirty_two_together : (awaits_turns connected 33).prompt ≡ 64
unfolding with_voter sites_to is_in
thirty_two_together = refl

abbrev site_63 : Pace
site_63 = record connected { waits = record { first = 1; most = 60000; prompt = 63 } }

pub a_thousand_turns : (awaits_turns site_63 32).prompt ≡ 1000
unfolding with_voter sites_to is_in
a_thousand_turns = refl

-- Under load all turns that are idle are prompt. Once a second there are two more than the deposits
-- need, so that the round goes on to one that was proposed before.
abbrev under_load : Pace
under_load = registers connected

pub not_before_a_second : (idles under_load 999999).prompt ≡ 1
unfolding with_voter sites_to is_in
not_before_a_second = refl

pub after_a_second : (idles under_load 1000000).prompt ≡ 3
unfolding with_voter sites_to is_in
after_a_second = refl

pub and_in_the_next_turn_no_more : (idles (idles under_load 1000000) 1000000).prompt ≡ 2
unfolding with_voter sites_to is_in
and_in_the_next_turn_no_more = refl

-- if it waits longer for answers, the round goes on after that time
abbrev waits_for_answers : Pace
waits_for_answers = record under_load { answer_wait = 1600 }

pub not_after_a_second : (idles waits_for_answers 1000000).prompt ≡ 1
unfolding with_voter sites_to is_in
not_after_a_second = refl

pub after_that_time : (idles waits_for_answers 1600000).prompt ≡ 3
unfolding with_voter sites_to is_in
after_that_time = refl

-- any turn that isn't prompt goes round as well
pub other_turns_go_round : (idles (registers (idles connected 600000)) 1000000).prompt ≡ 1
unfolding with_voter sites_to is_in
other_turns_go_round = refl

-- a prompt one doesn't
pub prompt_turns_do_not : (idles (registers (idles (registers connected) 600000)) 1000000).prompt
    ≡ 4
unfolding with_voter sites_to is_in
prompt_turns_do_not = refl

-- ---- for how long it has heard no quorum

-- it hears site 3, whom it heard within ten seconds
pub none_now : alone_for (idles connected 300) 9999999 ≡ 0
unfolding with_voter sites_to is_in
none_now = refl

-- since its last idle turn in which it heard one
pub since_then : alone_for (idles (idles connected 5000000) 25000000) 26000000 ≡ 21000
unfolding with_voter sites_to is_in
since_then = refl

-- it has heard nobody since it began
pub since_it_began : alone_for (idles cut_off 5000000) 26000999 ≡ 26000
unfolding with_voter sites_to is_in
since_it_began = refl

pub at_once : alone_for cut_off 10 ≡ 1
unfolding with_voter sites_to is_in
at_once = refl
