-- The example of three sites of which one is down, computed.
use Rattle.std.proofs.Common.{ℕ, ◌≡◌, refl, sym, List, [], ◌∷◌, Option, None, Some, ◌∙◌}
use Rattle.fed_types.specs.Ballots.{BallotNumber, ballot_cmp}
use Rattle.fed_types.specs.Lists.{Has, here, is_in}
use Rattle.fed_types.specs.Sites.{sites_to}
use Rattle.fed_types.specs.Slots.{same_slot}
use Rattle.records.specs.SlotStates.{promised_of, vote_of, used_of, deposit_of, known_of}
use Rattle.dgram.specs.Heard.{bodies_of, promises_for, promisers, priors, voters_for, floor_of}
use Rattle.acceptor.specs.Decisions.{prepare_decision, accept_decision}
use Rattle.learner.specs.LearnedBags.{chosen_by}
use Rattle.proposer.specs.Proposals.{next_ballot, gathered, highest_prior, proposal}
use Rattle.site.specs.Arrivals.{on_body, on_arrival}
use Rattle.site.specs.Calls.{on_deposit, on_propose}
use Rattle.site.specs.Effects.{to_each}
use Rattle.world_law.specs.Networks.{Up, new_site, new_network, outcome, happens, run}
use Rattle.reach_law.specs.Running.{records_at, volatile_at}
use Rattle.reach_law.specs.Undisturbed.{begun, in_the_end}
use Rattle.reach_law.specs.Examples.{three, a, deposited, arrive, CanBeUndisturbedByTwo}
use Rattle.reach_law.proofs.Arriving.{of_two, undisturbed_each, has_each_among}

abbrev numbers : List ℕ
numbers = 1 ∷ 2 ∷ 4 ∷ 5 ∷ 6 ∷ 7 ∷ 9 ∷ 10 ∷ 12 ∷ 13 ∷ []

pub can_be_undisturbed_by_two : CanBeUndisturbedByTwo
unfolding ballot_cmp is_in sites_to same_slot promised_of vote_of used_of deposit_of known_of
    bodies_of promises_for promisers priors voters_for floor_of prepare_decision accept_decision
    chosen_by next_ballot gathered highest_prior proposal on_body on_arrival on_deposit on_propose
    to_each new_site new_network outcome happens run
can_be_undisturbed_by_two = record {
  can = record {
    ready = record {
      up = of_two (λ n. (deposited.sites n).mode ≡ Up (volatile_at deposited n)) 1 2 refl refl;
      runs = here refl;
      unknown = refl;
      deposit = refl;
    };
    ballot = record { round = 1; site = 1 };
    next = refl;
    above = λ n c h e. absurd (none (sym (nothing_promised n h) ∙ e));
  };
  all = record {
    no_others = undisturbed_each three (1 ∷ 2 ∷ []) a (begun three deposited a 1) numbers refl;
    each_one = λ number d l e same runs.
        has_each_among (1 ∷ 2 ∷ []) a numbers
        (in_the_end three deposited a 1 (arrive numbers)).sent number d refl e same runs;
  };
}
  where
    none : {c : BallotNumber} → ◌≡◌ {A = Option BallotNumber} None (Some c) → ⊥
    none g = cc

    nothing_promised : (n : ℕ) → Has n (1 ∷ 2 ∷ []) → promised_of a (records_at deposited n) ≡ None
    nothing_promised = of_two (λ n. promised_of a (records_at deposited n) ≡ None) 1 2 refl refl
