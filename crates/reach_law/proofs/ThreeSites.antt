-- The example of three sites, computed.
use Rattle.std.proofs.Common.{ℕ, ◌≡◌, refl, sym, [], ◌∷◌, length, Option, None, Some, ◌∙◌, arith}
use Rattle.fed_types.specs.Ballots.{BallotNumber, ballot_cmp}
use Rattle.fed_types.specs.Lists.{Has, here, is_in}
use Rattle.fed_types.specs.Sites.{sites_to}
use Rattle.fed_types.specs.Slots.{same_slot}
use Rattle.records.specs.SlotStates.{promised_of, vote_of, used_of, deposit_of, known_of}
use Rattle.dgram.specs.Heard.{bodies_of, promises_for, promisers, priors, voters_for, floor_of}
use Rattle.acceptor.specs.Decisions.{prepare_decision, accept_decision}
use Rattle.learner.specs.LearnedBags.{chosen_by}
use Rattle.proposer.specs.Proposals.{next_ballot, gathered, highest_prior, proposal}
use Rattle.site.specs.Arrivals.{on_body, on_arrival}
use Rattle.site.specs.Calls.{on_deposit, on_propose}
use Rattle.site.specs.Effects.{to_each}
use Rattle.world_law.specs.Networks.{Up, new_site, new_network, outcome, happens, run}
use Rattle.reach_law.specs.Running.{records_at, volatile_at}
use Rattle.reach_law.specs.Undisturbed.{begun, in_the_end}
use Rattle.reach_law.specs.Examples.{three, a, deposited, arrivals, CanBeUndisturbed}
use Rattle.reach_law.proofs.Arriving.{of_three, undisturbed, has_each}

eighteen : length (in_the_end three deposited a 1 (arrivals 0 18)).sent ≡ 18
unfolding ballot_cmp is_in sites_to same_slot promised_of vote_of used_of deposit_of known_of
    bodies_of promises_for promisers priors voters_for floor_of prepare_decision accept_decision
    chosen_by next_ballot gathered highest_prior proposal on_body on_arrival on_deposit on_propose
    to_each new_site new_network outcome happens run
eighteen = refl

pub can_be_undisturbed : CanBeUndisturbed
unfolding ballot_cmp is_in sites_to same_slot promised_of vote_of used_of deposit_of known_of
    bodies_of promises_for promisers priors voters_for floor_of prepare_decision accept_decision
    chosen_by next_ballot gathered highest_prior proposal on_body on_arrival on_deposit on_propose
    to_each new_site new_network outcome happens run
can_be_undisturbed = record {
  can = record {
    ready = record {
      up = of_three (λ n. (deposited.sites n).mode ≡ Up (volatile_at deposited n)) refl refl refl;
      runs = here refl;
      unknown = refl;
      deposit = refl;
    };
    ballot = record { round = 1; site = 1 };
    next = refl;
    above = λ n c h e. absurd (none (sym (nothing_promised n h) ∙ e));
  };
  all = record {
    no_others =
        undisturbed three (1 ∷ 2 ∷ 3 ∷ []) a 0 (begun three deposited a 1) 0 18 (omega arith) refl;
    each_one = λ number d l e of_slot h.
        has_each (in_the_end three deposited a 1 (arrivals 0 18)).sent 0 18 number d eighteen l e;
  };
}
  where
    none : {c : BallotNumber} → ◌≡◌ {A = Option BallotNumber} None (Some c) → ⊥
    none g = cc

    nothing_promised : (n : ℕ) → Has n (1 ∷ 2 ∷ 3 ∷ [])
        → promised_of a (records_at deposited n) ≡ None
    nothing_promised = of_three (λ n. promised_of a (records_at deposited n) ≡ None) refl refl refl
