-- How long site 2 of three waits where answers are late, computed: first 100 ms, and a minute at
-- most. Its disk is slow, or those of the others, or it is cut off.
use Rattle.std.proofs.Common.{◌≡◌, ℕ, List, [], ◌∷◌, refl, Some, None}
use Rattle.fed_types.specs.Lists.{is_in}
use Rattle.fed_types.specs.Sites.{membership_of, sites_to}
use Rattle.fed_types.specs.Voters.{with_voter}
use Rattle.udp_site.specs.declared.pace.Pace.{Pace}
use Rattle.udp_site.specs.declared.movement.Sign.TheVariants.{Still, Moves, Decides}
use Rattle.udp_site.specs.declared.movement.Signal.{Signal}
use Rattle.udp_site.specs.Contacts.{nobody_heard}
use Rattle.udp_site.specs.Pace.{begins, idles, hears, takes, proposes, registers, hands, wait_at}
use Rattle.udp_site.specs.Pace.{between, pause_left}

abbrev fresh : (weights : List ℕ) → Pace
fresh weights =
    begins (record { first = 100; most = 60000; prompt = 2 })
    (Some (nobody_heard (membership_of 7 weights) 2))

abbrev of_three : Pace
of_three = fresh (1 ∷ 1 ∷ 1 ∷ [])

-- a promise of site 3, and what the site says to itself
abbrev promise : Signal
promise = record { sign = Still; sender = Some 3 }

abbrev own : Signal
own = record { sign = Still; sender = None }

-- It proposes after an idle turn
abbrev next : Pace → Pace
next pace = proposes (idles pace 9000000)

-- and a promise comes; and so two and three times. With the next proposal it was late.
abbrev late : Pace → Pace
late pace = takes (next pace) 9000000 promise

abbrev thrice : Pace → Pace
thrice pace = late (late (late pace))

-- After three proposals in vain it waits for half a second, as where none is late; after the fourth
-- and the fifth longer; and so up to a minute.
pub after_three : wait_at (thrice of_three) 9000000 ≡ 500
unfolding with_voter sites_to is_in
after_three = refl

abbrev four : Pace
four = late (thrice of_three)

abbrev five : Pace
five = late four

pub after_four : wait_at four 9000000 ≡ 800
unfolding with_voter sites_to is_in
after_four = refl

pub after_five : wait_at five 9000000 ≡ 1600
unfolding with_voter sites_to is_in
after_five = refl

pub after_ten : wait_at (late (thrice (late five))) 9000000 ≡ 51200
unfolding with_voter sites_to is_in
after_ten = refl

pub after_eleven : wait_at (thrice (thrice five)) 9000000 ≡ 60000
unfolding with_voter sites_to is_in
after_eleven = refl

-- and so long is it to the next idle turn, whatever comes
pub whatever_comes_after_four : between four 9000000 ≡ 1000
unfolding with_voter sites_to is_in
whatever_comes_after_four = refl

pub whatever_comes_after_five : between five 9000000 ≡ 1600
unfolding with_voter sites_to is_in
whatever_comes_after_five = refl

-- a question brings the next proposal after a second, or after as long as answers may take
pub asked_after_four : pause_left four 0 ≡ 1000000
unfolding with_voter sites_to is_in
asked_after_four = refl

pub asked_after_five : pause_left five 0 ≡ 1600000
unfolding with_voter sites_to is_in
asked_after_five = refl

-- Its own disk is slower still: not even what it has said to itself comes between two proposals.
abbrev busy : Pace
busy = next (next (next (next (next of_three))))

pub nothing_comes : busy.answer_wait ≡ 1600
unfolding with_voter sites_to is_in
nothing_comes = refl

-- It is cut off, and what it says to itself is all that comes: answers aren't late. As long as a
-- quorum counts as heard it waits for half a second, and a question brings a proposal a second.
abbrev cut_off : Pace → Pace
cut_off pace = takes (next pace) 9000000 own

abbrev alone : Pace
alone = cut_off (cut_off (cut_off (cut_off (cut_off (late of_three)))))

pub grows_once : alone.answer_wait ≡ 200
unfolding with_voter sites_to is_in
grows_once = refl

pub half_a_second_still : wait_at alone 9000000 ≡ 500
unfolding with_voter sites_to is_in
half_a_second_still = refl

pub asked_each_second : pause_left alone 0 ≡ 1000000
unfolding with_voter sites_to is_in
asked_each_second = refl

-- One of five others isn't a quorum with it: these two may go on promising each other.
pub too_few : (thrice (thrice (fresh (1 ∷ 1 ∷ 1 ∷ 1 ∷ 1 ∷ [])))).answer_wait ≡ 100
unfolding with_voter sites_to is_in
too_few = refl

-- Two others of five are one, though one promise comes after the other.
abbrev promise_of_four : Signal
promise_of_four = record { sign = Still; sender = Some 4 }

pub two_of_five : (next (takes (takes (next (fresh (1 ∷ 1 ∷ 1 ∷ 1 ∷ 1 ∷ []))) 9000000
    promise) 9000001 promise_of_four)).answer_wait ≡ 200
unfolding with_voter sites_to is_in
two_of_five = refl

-- Where no quorum is heard any more it waits for its wait.
pub nobody_is_heard : wait_at five 30000000 ≡ 3200
unfolding with_voter sites_to is_in
nobody_is_heard = refl

-- So it does where answers would take longer: late ones don't make its wait longer then. Something
-- has moved, and brought back its first wait.
pub nobody_is_heard_and_something_moves : wait_at (hears five Moves) 30000000 ≡ 100
unfolding with_voter sites_to is_in
nobody_is_heard_and_something_moves = refl

-- while a quorum is heard they do
pub a_quorum_is_heard_and_something_moves : wait_at (hears five Moves) 9000000 ≡ 1600
unfolding with_voter sites_to is_in
a_quorum_is_heard_and_something_moves = refl

-- Promises of a quorum and a deposit bring back the first wait, but it waits for answers as before:
-- for votes, too. These bring back the first wait for answers, and are none that were late.
pub promised : wait_at (hands five 7002 7001 (0x42 ∷ 0x50 ∷ 2 ∷ 3 ∷ [])) 9000000 ≡ 1600
unfolding with_voter sites_to is_in
promised = refl

pub voted : wait_at (hears five Decides) 9000000 ≡ 100
unfolding with_voter sites_to is_in
voted = refl

pub voted_and_proposes : (next (hears five Decides)).answer_wait ≡ 100
unfolding with_voter sites_to is_in
voted_and_proposes = refl

pub deposited : wait_at (registers five) 9000000 ≡ 1600
unfolding with_voter sites_to is_in
deposited = refl
