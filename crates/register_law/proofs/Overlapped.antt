-- Two turns that overlap, computed.
use Rattle.std.proofs.Common.{ℕ, inl, inr, refl, ◌==◌, List, [], ◌∷◌, ◌++◌, None, arith}
use Rattle.std.proofs.lemmas.Bool.{cases_Bool, eqb-true}
use Rattle.fed_types.specs.declared.bag_id.BagId.{BagId}
use Rattle.fed_types.specs.Lists.{Has, here, there}
use Rattle.fed_types.specs.Sites.{members_of}
use Rattle.dgram.specs.declared.body.Body.TheVariants.{Prepare, Promise}
use Rattle.dgram.specs.Encoding.{datagram_of}
use Rattle.udp_site.specs.Traffic.{Post}
use Rattle.serving_law.specs.Disks.{Disk, device}
use Rattle.serving_law.specs.Examples.{Request, reply_to}
use Rattle.serving_law.specs.ExamplesAgreed.{three, a, ballot}
use Rattle.serving_law.specs.Federations.{Down, Federation, Happening, Turns, new_federation}
use Rattle.serving_law.proofs.Agreed.{asked, has_deposit, deposit_step, deposits, propose_step}
use Rattle.serving_law.proofs.Agreed.{proposes, started, none_heard, member, hears, turns}
use Rattle.serving_law.proofs.AgreedMessages.{come}
use Rattle.serving_law.proofs.AgreedTurns.{Asked2, answers, stands, fits}
use Rattle.serving_law.proofs.Agreement.{three_are, m, Hearing, step_of, serves, takes}
use Rattle.serving_law.proofs.NewSites.{may_start}
use Rattle.serving_law.proofs.Tables.{tables}
use Rattle.register_law.specs.Overlaps.{Moment, Begins, HandsOut, begun, at_member, MayHappenTo}
use Rattle.register_law.specs.Overlaps.{IsAccount, AreInTime}
use Rattle.register_law.specs.ExamplesOverlapped.{at_first, Overlap, TurnsOverlap}

module _ (bag : BagId) (request : Request 7 a bag) where
  -- ---- the happenings, and the datagrams

  abbrev depositing : Happening Disk
  depositing = Turns 1 (deposit_step bag request) 1 0

  abbrev proposing : Happening Disk
  proposing = Turns 1 (propose_step bag request) 3 0

  abbrev its : Hearing
  its = hears bag request Asked2

  abbrev promising : Happening Disk
  promising = turns bag request Asked2 1 0

  abbrev answer : Post
  answer = reply_to 7 request.address a bag

  abbrev prepare : (site : ℕ) → Post
  prepare site = (site, datagram_of 7 (m (Prepare ballot)))

  abbrev promise : Post
  promise = (1, datagram_of 7 (m (Promise 2 ballot None)))

  abbrev before : List (Moment Disk)
  before =
      Begins (started bag request 1) ∷ Begins (started bag request 2) ∷ Begins depositing
      ∷ HandsOut answer ∷ []

  abbrev overlapped : List (Moment Disk)
  overlapped =
      Begins proposing ∷ HandsOut (prepare 1) ∷ HandsOut (prepare 2) ∷ Begins promising
      ∷ HandsOut promise ∷ HandsOut (prepare 3) ∷ []

  abbrev moments : List (Moment Disk)
  moments = before ++ overlapped

  -- ---- time

  goes_in_time : AreInTime three (answer ∷ [])
      (depositing ∷ started bag request 2 ∷ started bag request 1 ∷ []) overlapped
  unfolding AreInTime
  goes_in_time = (
    tt,
    (
      (proposing, here refl, here refl),
      (
        (proposing, here refl, there (here refl)),
        (
          ((fits bag request Asked2).fits, λ message e is. (2, there (there (here refl)))),
          (
            (promising, here refl, here refl),
            ((proposing, there (here refl), there (there (here refl))), tt),
          ),
        ),
      ),
    ),
  )

  in_time : AreInTime three at_first.handed [] moments
  unfolding AreInTime new_federation
  in_time = (tt, (tt, (come bag request, ((depositing, here refl, here refl), goes_in_time))))

  -- ---- the accounts

  one_is : Has 1 (members_of three)
  one_is = member bag request 1 (omega arith) (omega arith)

  two_is : Has 2 (members_of three)
  two_is = member bag request 2 (omega arith) (omega arith)

  -- where it was handed out, site 2 may take what it hears
  abbrev handed_then : Federation Disk
  handed_then = record { members = at_first.members; handed = prepare 2 ∷ [] }

  starts : (n : ℕ) → Has n (members_of three)
      → MayHappenTo device three (Down []) (started bag request n)
  starts n has f is may =
      may_start three three_are n (tables a three n (none_heard bag request)) f has is

  account_1 : IsAccount device three (Down []) (started bag request 1 ∷ depositing ∷ proposing ∷ [])
  unfolding IsAccount
  account_1 = (
    starts 1 one_is,
    (
      λ f is may. (
        asked bag request,
        (one_is, is),
        record { may_come = may; comes = deposits bag request },
        refl,
      ),
      (
        λ f is may. (
          has_deposit bag request,
          (one_is, is),
          record { may_come = may; comes = proposes bag request },
          refl,
        ),
        tt,
      ),
    ),
  )

  account_2 : IsAccount device three (Down []) (started bag request 2 ∷ promising ∷ [])
  unfolding IsAccount
  account_2 = (
    starts 2 two_is,
    (
      λ f is may. (
        serves 2 its.old,
        (two_is, is),
        record {
          may_come = may;
          comes =
              (takes its (fits bag request Asked2) (answers bag request Asked2)
              (stands bag request Asked2) handed_then 2 (here refl)).comes;
        },
        refl,
      ),
      tt,
    ),
  )

  accounts : (n : ℕ)
      → IsAccount device three (at_first.members n) (at_member n (begun moments))
  unfolding IsAccount at_member begun new_federation
  accounts n = elim (cases_Bool (n == 1)) [
    | inl one ↦ rw (eqb-true n 1 one) account_1
    | inr not_one ↦ elim (cases_Bool (n == 2)) [
      | inl two ↦ rw (eqb-true n 2 two) account_2
      | inr not_two ↦ rw (not_one, not_two) tt
    ]
  ]

  pub overlap : Overlap bag
  overlap = record {
    before = before;
    proposing = propose_step bag request;
    to_one = prepare 1;
    to_two = prepare 2;
    promising = step_of its;
    reply = promise;
    to_three = prepare 3;
    posts = refl;
    takes = refl;
    replies = refl;
    are = record { accounts = accounts; in_time = in_time };
  }

pub turns_overlap : TurnsOverlap
turns_overlap bag request = overlap bag request
