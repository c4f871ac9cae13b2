-- Which deposit a site proposes, in which idle turn, and whom it asks: site 2 of three, computed.
use Rattle.std.proofs.Common.{◌≡◌, ℕ, List, [], ◌∷◌, ◌++◌, refl, Some, None, Err}
use Rattle.fed_types.specs.declared.bag_id.BagId.{BagId}
use Rattle.fed_types.specs.Sites.{membership_of, sites_to}
use Rattle.fed_types.specs.Slots.{same_slot}
use Rattle.records.specs.declared.entry.Entry.{Entry}
use Rattle.records.specs.declared.entry.Entry.TheVariants as entry
use Rattle.records.specs.declared.owner.Owner.{Owner}
use Rattle.records.specs.declared.record.Record.{Record}
use Rattle.records.specs.SlotStates.{known_of}
use Rattle.cell_device.specs.Devices.{Device}
use Rattle.proposer.specs.VolatileStates.{VolatileState}
use Rattle.site.specs.Sites.{OpenSite}
use Rattle.site.specs.declared.fault.SiteFault.TheVariants as faults
use Rattle.site.specs.Calls.{Input}
use Rattle.site.specs.Contents.{deposits_of}
use Rattle.udp_site.specs.Rounds.{next_waiting}
use Rattle.udp_site.specs.Status.{waiting_before, waiting_from, counts_of}
use Rattle.udp_site.specs.Turns.{Serving, Done, idles, proposes_next, proposes, tries, begins}
use Rattle.udp_site.specs.Turns.{others, proposal_notices, recovery_notices}

abbrev said : (object : ℕ) → Entry → Record
said object body = record { slot = record { object = object ∷ []; version = 1 }; body = body }

abbrev bag : BagId
bag = record { 0 = 7 ∷ [] }

-- three deposits, one of them voted for, and then a bag is known for the first
abbrev deposits : List Record
deposits =
    said 98 (entry.Deposit bag) ∷ said 97 (entry.Deposit bag) ∷ said 98 (entry.Round 3)
    ∷ said 99 (entry.Deposit bag) ∷ []

abbrev first_known : List Record
first_known = deposits ++ said 98 (entry.Known bag) ∷ []

-- one after the other, and then the first again: none waits for another to be decided
pub in_their_order : next_waiting deposits 0 ≡ Some 0
unfolding next_waiting deposits_of same_slot known_of
in_their_order = refl

pub the_second : next_waiting deposits 1 ≡ Some 1
unfolding next_waiting deposits_of same_slot known_of
the_second = refl

pub the_last : next_waiting deposits 2 ≡ Some 2
unfolding next_waiting deposits_of same_slot known_of
the_last = refl

pub and_the_first_again : next_waiting deposits 3 ≡ Some 0
unfolding next_waiting deposits_of same_slot known_of
and_the_first_again = refl

-- what the site counts: all records, no bag that is known, three deposits that wait; and then one
-- bag that is known, and two
pub three_wait : counts_of deposits ≡ record { records = 4; known = 0; pending = 3 }
unfolding waiting_before deposits_of same_slot known_of
three_wait = refl

pub two_wait : counts_of first_known ≡ record { records = 5; known = 1; pending = 2 }
unfolding waiting_before deposits_of same_slot known_of
two_wait = refl

-- those that come from a place on: the port is told how many, up to 32
pub three_come : waiting_from deposits 0 ≡ 3
unfolding waiting_before deposits_of same_slot known_of
three_come = refl

pub the_last_comes : waiting_from deposits 2 ≡ 1
unfolding waiting_before deposits_of same_slot known_of
the_last_comes = refl

pub none_comes : waiting_from deposits 3 ≡ 0
unfolding waiting_before deposits_of same_slot known_of
none_comes = refl

pub known_does_not_come : waiting_from first_known 0 ≡ 2
unfolding waiting_before deposits_of same_slot known_of
known_does_not_come = refl

-- not one whose bag is known
pub known_is_left_out : next_waiting first_known 0 ≡ Some 1
unfolding next_waiting deposits_of same_slot known_of
known_is_left_out = refl

pub known_is_left_out_again : next_waiting first_known 3 ≡ Some 1
unfolding next_waiting deposits_of same_slot known_of
known_is_left_out_again = refl

-- a deposit before the one that was tried last is found though those after it are known
abbrev last_known : List Record
last_known = first_known ++ said 99 (entry.Known bag) ∷ []

pub the_one_before : next_waiting last_known 2 ≡ Some 1
unfolding next_waiting deposits_of same_slot known_of
the_one_before = refl

-- and none where all are known, or nothing was deposited
pub none_waits : next_waiting (last_known ++ said 97 (entry.Known bag) ∷ []) 2 ≡ None
unfolding next_waiting deposits_of same_slot known_of
none_waits = refl

pub nothing_deposited : next_waiting (said 97 (entry.Round 3) ∷ []) 0 ≡ None
unfolding next_waiting deposits_of same_slot known_of
nothing_deposited = refl

-- site 2 of a federation of three
abbrev owner : Owner
owner = record { members = membership_of 7 (1 ∷ 1 ∷ 1 ∷ []); site = 2 }

-- a site begins to serve with no idle turn, and tries its first deposit first
module _ {C : Type 0} (site : OpenSite C) (volatile : VolatileState) where
  pub begins_with_no_idle_turn : (begins site volatile).idle ≡ 0
  begins_with_no_idle_turn = refl

  pub begins_with_its_first_deposit : (begins site volatile).tried ≡ 0
  begins_with_its_first_deposit = refl

module _ {C : Type 0} (device : C → Device) (addresses : List ℕ) (s : Serving C) where
  -- after so many idle turns
  abbrev after : ℕ → Serving C
  after idle = record s {
    site = record s.site { book = record s.site.book { owner = owner } };
    idle = idle;
  }

  -- in each second idle turn it proposes, and in no other
  pub not_in_the_first : (done : Done) (new : Serving C) → idles device addresses (after 0) done new
      → done ≡ record { posts = []; notices = [] }
  not_in_the_first done new idle = idle.0

  pub in_the_second : (done : Done) (new : Serving C) → idles device addresses (after 1) done new
      → proposes_next device addresses (after 2) done new
  in_the_second done new idle = idle

  pub not_in_the_third : (done : Done) (new : Serving C) → idles device addresses (after 2) done new
      → done ≡ record { posts = []; notices = [] }
  not_in_the_third done new idle = idle.0

  pub in_the_fourth : (done : Done) (new : Serving C) → idles device addresses (after 3) done new
      → proposes_next device addresses (after 4) done new
  in_the_fourth done new idle = idle

  -- it proposes nothing where no deposit waits
  pub nothing_waits : (done : Done) (new : Serving C)
      → proposes device addresses (after 2) None None done new
      → done ≡ record { posts = []; notices = [] }
  nothing_waits done new idle = idle.0

  -- after the first deposit it tries the second
  pub goes_on : next_waiting deposits (tries (after 1) 0).tried ≡ Some 1
  unfolding next_waiting deposits_of same_slot known_of
  goes_on = refl

  -- it asks both others, and not itself
  pub both_others : others (after 0) ≡ 1 ∷ 3 ∷ []
  unfolding sites_to
  both_others = refl

-- that no round is left isn't said in each turn
pub spent_rounds_are_not_said : (input : Input)
    → proposal_notices 2 input (Err faults.RoundsSpent) ≡ []
spent_rounds_are_not_said input = refl

-- nor is it of a recovery that a client asks for
pub spent_rounds_of_a_recovery : (input : Input)
    → recovery_notices 2 input (Err faults.RoundsSpent) ≡ []
spent_rounds_of_a_recovery input = refl

-- nor, of one, that a bag is known or there is nothing to recover
pub known_is_not_said : (input : Input) → recovery_notices 2 input (Err faults.AlreadyKnown) ≡ []
known_is_not_said input = refl

pub nothing_is_not_said : (input : Input)
    → recovery_notices 2 input (Err faults.NothingToRecover) ≡ []
nothing_is_not_said input = refl
