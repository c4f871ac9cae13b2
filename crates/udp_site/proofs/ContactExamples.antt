-- Whom site 2 has heard lately, computed: of three sites, and of five, each of weight 1. Its wait
-- has grown to a minute, and is half a second while a quorum is heard.
use Rattle.std.proofs.Common.{◌≡◌, ℕ, List, [], ◌∷◌, refl, Some, None}
use Rattle.fed_types.specs.Lists.{is_in}
use Rattle.fed_types.specs.Sites.{membership_of, sites_to}
use Rattle.fed_types.specs.Voters.{with_voter}
use Rattle.udp_site.specs.declared.pace.Pace.{Pace}
use Rattle.udp_site.specs.declared.movement.Sign.TheVariants.{Still, Moves}
use Rattle.udp_site.specs.Contacts.{nobody_heard}
use Rattle.udp_site.specs.Pace.{begins, takes, listens, wait_at}

abbrev grown : (weights : List ℕ) → Pace
grown weights =
    record (begins (record { first = 1; most = 60000; prompt = 2 })
    (Some (nobody_heard (membership_of 7 weights) 2))) {
      wait = 60000;
    }

abbrev of_three : Pace
of_three = grown (1 ∷ 1 ∷ 1 ∷ [])

abbrev of_five : Pace
of_five = grown (1 ∷ 1 ∷ 1 ∷ 1 ∷ 1 ∷ [])

-- A site is heard by what moves nothing, too; and what nobody says is nobody's.
abbrev heard_at_nine : Pace
heard_at_nine = takes of_three 9000000 (record { sign = Still; sender = Some 3 })

pub heard_by_what_moves_nothing : wait_at heard_at_nine 9000000 ≡ 500
unfolding with_voter sites_to is_in
heard_by_what_moves_nothing = refl

pub a_client_is_nobody :
    wait_at (takes of_three 9000000 (record { sign = Still; sender = None })) 9000000 ≡ 60000
unfolding with_voter sites_to is_in
a_client_is_nobody = refl

-- and what moves something brings back the first wait, whoever says it
pub moved_by_a_client :
    wait_at (takes of_three 9000000 (record { sign = Moves; sender = None })) 9000000 ≡ 1
unfolding with_voter sites_to is_in
moved_by_a_client = refl

pub moved_by_a_site :
    wait_at (takes of_three 9000000 (record { sign = Moves; sender = Some 3 })) 9000000 ≡ 1
unfolding with_voter sites_to is_in
moved_by_a_site = refl

-- A wait of less than half a second stays as it is, and so does a first wait of more.
pub short_wait : wait_at (record heard_at_nine { wait = 8 }) 9000000 ≡ 8
unfolding with_voter sites_to is_in
short_wait = refl

pub long_first_wait : wait_at
    (record heard_at_nine { waits = record { first = 1000; most = 60000; prompt = 2 } }) 9000000
    ≡ 1000
unfolding with_voter sites_to is_in
long_first_wait = refl

-- heard again in the next span, though it is still among those that were heard lately
pub heard_again : wait_at (listens heard_at_nine 15000000 (Some 3)) 29999999 ≡ 500
unfolding with_voter sites_to is_in
heard_again = refl

-- two of five, each in a span of its own: both were heard lately until the first is too old
abbrev heard_both : Pace
heard_both = listens (listens of_five 9000000 (Some 3)) 11000000 (Some 4)

pub two_of_five : wait_at heard_both 11000000 ≡ 500
unfolding with_voter sites_to is_in
two_of_five = refl

pub until_the_span_ends : wait_at heard_both 19999999 ≡ 500
unfolding with_voter sites_to is_in
until_the_span_ends = refl

pub then_one_is_too_old : wait_at heard_both 20000000 ≡ 60000
unfolding with_voter sites_to is_in
then_one_is_too_old = refl

-- both in the next span, while the one before it still counts
pub heard_in_the_second_span :
    wait_at (listens (listens heard_both 12000000 (Some 3)) 13000000 (Some 4)) 29999999 ≡ 500
unfolding with_voter sites_to is_in
heard_in_the_second_span = refl

-- not two that were never heard lately at once, nor one that was heard twice, nor the site itself,
-- nor one that is no member
pub too_far_apart :
    wait_at (listens (listens of_five 9000000 (Some 3)) 25000000 (Some 4)) 25000000 ≡ 60000
unfolding with_voter sites_to is_in
too_far_apart = refl

pub one_heard_twice :
    wait_at (listens (listens of_five 9000000 (Some 3)) 9000001 (Some 3)) 9000001 ≡ 60000
unfolding with_voter sites_to is_in
one_heard_twice = refl

pub itself : wait_at (listens of_three 9000000 (Some 2)) 9000000 ≡ 60000
unfolding with_voter sites_to is_in
itself = refl

pub no_member : wait_at (listens of_three 9000000 (Some 4)) 9000000 ≡ 60000
unfolding with_voter sites_to is_in
no_member = refl
