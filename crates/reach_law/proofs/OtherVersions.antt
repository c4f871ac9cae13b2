-- The example of a ballot of two sites while calls and datagrams of another version go on,
-- computed.
use Rattle.std.proofs.Common.{ℕ, ◌≡◌, ◌<◌, refl, ap, inr, List, [], ◌∷◌, ◌++◌, arith}
use Rattle.fed_types.specs.Ballots.{ballot_cmp}
use Rattle.fed_types.specs.Lists.{Has, is_in}
use Rattle.fed_types.specs.Sites.{sites_to}
use Rattle.fed_types.specs.Slots.{SlotName, same_slot}
use Rattle.fed_types.specs.Laws.Lists.{has_right}
use Rattle.records.specs.SlotStates.{promised_of, vote_of, used_of, deposit_of, known_of}
use Rattle.dgram.specs.declared.body.Body.TheVariants.{Prepare}
use Rattle.dgram.specs.Heard.{bodies_of, promises_for, promisers, priors, voters_for, floor_of}
use Rattle.acceptor.specs.Decisions.{prepare_decision, accept_decision}
use Rattle.learner.specs.LearnedBags.{chosen_by}
use Rattle.proposer.specs.Proposals.{next_ballot, gathered, highest_prior, proposal}
use Rattle.site.specs.Arrivals.{on_body, on_arrival}
use Rattle.site.specs.Calls.{on_deposit, on_propose, on_recover, on_ask}
use Rattle.site.specs.Effects.{Send, to_each}
use Rattle.world_law.specs.Networks.{new_site, new_network, outcome, happens, run}
use Rattle.reach_law.specs.Undisturbed.{AreUndisturbed, begun, in_the_end}
use Rattle.reach_law.specs.Examples.{three, a, next_version, deposited, at_two, at_third, arrive}
use Rattle.reach_law.specs.Examples.{IsUndisturbedByOthers}
use Rattle.reach_law.proofs.Arriving.{of_two, undisturbed_each, has_each_among}

abbrev running : List ℕ
running = 1 ∷ 2 ∷ []

abbrev numbers : List ℕ
numbers = 1 ∷ 2 ∷ 12 ∷ 13 ∷ 14 ∷ 15 ∷ 17 ∷ 18 ∷ 20 ∷ 21 ∷ []

-- the other version isn't this one, and the third isn't one of the two
apart : next_version ≡ a → ⊥
apart e = let same : 2 ≡ 1 = ap (λ (s : SlotName). s.version) e in absurd (omega (arith, same))

isnt_third : Has 3 running → ⊥
isnt_third h =
    let less : 3 < 3 = of_two (λ n. n < 3) 1 2 (omega arith) (omega arith) 3 h in
    absurd (omega (arith, less))

-- of the other version, the second member's Prepare to this one
abbrev prepare_to : ℕ → Send
prepare_to n = record {
  to = n;
  message = record { slot = next_version; body = Prepare (record { round = 1; site = 2 }) };
}

pub undisturbed_by_others : IsUndisturbedByOthers
unfolding AreUndisturbed ballot_cmp is_in sites_to same_slot promised_of vote_of used_of deposit_of
    known_of bodies_of promises_for promisers priors voters_for floor_of prepare_decision
    accept_decision chosen_by next_ballot gathered highest_prior proposal on_body on_arrival
    on_deposit on_propose on_recover on_ask to_each new_site new_network outcome happens run
undisturbed_by_others = record {
  no_others = (
    inr (apart, λ h. refl),
    (
      inr (apart, λ h. refl),
      (
        inr (apart, λ h. refl),
        (
          inr (apart, λ h. refl),
          (
            inr (prepare_to 1, refl, apart, λ h. refl),
            (
              inr tt,
              (
                inr tt,
                (
                  inr tt,
                  (
                    inr isnt_third,
                    (
                      inr isnt_third,
                      (
                        inr (apart, λ h. absurd (isnt_third h)),
                        (
                          inr (apart, λ h. absurd (isnt_third h)),
                          (
                            inr (apart, λ h. absurd (isnt_third h)),
                            (
                              inr (apart, λ h. absurd (isnt_third h)),
                              (
                                inr (prepare_to 3, refl, apart, λ h. absurd (isnt_third h)),
                                undisturbed_each three running a
                                    (run three (begun three deposited a 1) (at_two ++ at_third))
                                    numbers refl,
                              ),
                            ),
                          ),
                        ),
                      ),
                    ),
                  ),
                ),
              ),
            ),
          ),
        ),
      ),
    ),
  );
  each_one = λ number d l e same runs.
      has_right at_two (has_right at_third
      (has_each_among running a numbers
      (in_the_end three deposited a 1 (at_two ++ at_third ++ arrive numbers)).sent number d refl e
      same runs));
}
