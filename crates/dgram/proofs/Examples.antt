-- What the words give of a few messages about three slots, and the bytes of one of them.
use Rattle.std.proofs.Common.{◌≡◌, ℕ, List, [], ◌∷◌, ◌++◌, length, Some, None, refl, take, drop}
use Rattle.fed_types.specs.declared.bag_id.BagId.{BagId}
use Rattle.fed_types.specs.declared.vote.Vote.{Vote}
use Rattle.fed_types.specs.Ballots.{BallotNumber}
use Rattle.fed_types.specs.Slots.{SlotName, same_slot}
use Rattle.dgram.specs.declared.body.Body.{Body}
use Rattle.dgram.specs.declared.body.Body.TheVariants.{Prepare, Promise, Accept, Accepted, Refused}
use Rattle.dgram.specs.declared.body.Body.TheVariants.{Ask, Known, Query, Recover}
use Rattle.dgram.specs.declared.message.Message.{Message}
use Rattle.fields.specs.Checksums.{checksum}
use Rattle.sha2.specs.Sha256.{sha256, digest_bytes, hash_after, compress, rounds, schedule}
use Rattle.sha2.specs.Sha256.{first_words}
use Rattle.dgram.specs.Encoding.{message_bytes}
use Rattle.dgram.specs.Decoded.{message_of}
use Rattle.dgram.specs.Heard.{bodies_of, PromiseFrom, promises_for, promisers, priors, voters_for}
use Rattle.dgram.specs.Heard.{floor_of, known_bags}

-- two versions of one object, and another object
abbrev a1 : SlotName
a1 = record { object = 97 ∷ []; version = 1 }

abbrev a2 : SlotName
a2 = record { object = 97 ∷ []; version = 2 }

abbrev b1 : SlotName
b1 = record { object = 98 ∷ []; version = 1 }

abbrev bag : ℕ → BagId
bag n = record { 0 = n ∷ [] }

abbrev ballot : ℕ → ℕ → BallotNumber
ballot round site = record { round = round; site = site }

abbrev vote : BallotNumber → ℕ → Vote
vote b n = record { ballot = b; bag = bag n }

abbrev at : SlotName → Body → Message
at slot body = record { slot = slot; body = body }

-- Site 1 proposes in its ballots of the rounds 2 and 4: of a1 promises, votes and refusals of
-- several ballots, and among them the same about other slots.
abbrev heard : List Message
heard =
    at a1 (Prepare (ballot 1 3)) ∷ at a1 (Promise 2 (ballot 2 1) None)
    ∷ at a2 (Promise 3 (ballot 2 1) (Some (vote (ballot 1 2) 9)))
    ∷ at a1 (Promise 3 (ballot 2 1) (Some (vote (ballot 1 3) 7)))
    ∷ at a1 (Promise 3 (ballot 2 3) (Some (vote (ballot 2 2) 8)))
    ∷ at a1 (Refused 2 (ballot 2 1) (ballot 3 2)) ∷ at b1 (Refused 2 (ballot 2 1) (ballot 9 2))
    ∷ at a1 (Refused 3 (ballot 2 1) (ballot 2 3)) ∷ at a1 (Promise 4 (ballot 4 1) None)
    ∷ at a1 (Accepted 2 (vote (ballot 3 2) 7)) ∷ at a1 (Accepted 3 (vote (ballot 3 2) 8))
    ∷ at a1 (Accepted 4 (vote (ballot 3 3) 7)) ∷ at b1 (Accepted 5 (vote (ballot 3 2) 7))
    ∷ at a1 (Accepted 2 (vote (ballot 3 2) 7)) ∷ at a1 (Accepted 6 (vote (ballot 3 2) 7))
    ∷ at a1 (Accept (vote (ballot 3 2) 7)) ∷ at a1 (Ask 4) ∷ at a1 Query ∷ at a1 Recover
    ∷ at a2 (Known 2 (bag 9)) ∷ at a1 (Known 5 (bag 7)) ∷ []

-- of each slot what is about it alone
bodies : (length (bodies_of a1 heard) ≡ 17) × (length (bodies_of a2 heard) ≡ 2)
    × (bodies_of b1 heard ≡ Refused 2 (ballot 2 1) (ballot 9 2) ∷ Accepted 5 (vote (ballot 3 2) 7)
    ∷ [])
unfolding bodies_of same_slot
bodies = (refl, refl, refl)

-- the promises for a ballot: not those for another ballot of the site, nor for another site's
abbrev promises : List PromiseFrom
promises = promises_for (ballot 2 1) (bodies_of a1 heard)

who_promises : promisers promises ≡ 2 ∷ 3 ∷ []
unfolding bodies_of promises_for promisers same_slot
who_promises = refl

-- a promise that names no vote gives none
votes_they_name : priors promises ≡ vote (ballot 1 3) 7 ∷ []
unfolding bodies_of promises_for priors same_slot
votes_they_name = refl

-- a promise that was heard twice is there twice
promised_twice : promisers (promises_for (ballot 2 1)
    (Promise 2 (ballot 2 1) None ∷ Promise 2 (ballot 2 1) None ∷ [])) ≡ 2 ∷ 2 ∷ []
unfolding promises_for promisers
promised_twice = refl

-- the voters of a ballot for a bag: not those for another bag, nor in another ballot, and no Accept
who_votes : voters_for (vote (ballot 3 2) 7) (bodies_of a1 heard) ≡ 2 ∷ 2 ∷ 6 ∷ []
unfolding bodies_of voters_for same_slot
who_votes = refl

-- the greatest round in the way, whichever came last; 0 where there was no refusal
floors : (floor_of (bodies_of a1 heard) ≡ 3) × (floor_of (bodies_of b1 heard) ≡ 9)
    × (floor_of (bodies_of a2 heard) ≡ 0)
unfolding bodies_of floor_of same_slot
floors = (refl, refl, refl)

-- the bags that are said to be known
known : (known_bags (bodies_of a1 heard) ≡ bag 7 ∷ []) × (known_bags (bodies_of b1 heard) ≡ [])
unfolding bodies_of known_bags same_slot
known = (refl, refl)

-- ---- a datagram: a Query about a1, of federation 7
abbrev before : List ℕ
before =
    0x42 ∷ 0x50 ∷ 2 ∷ 17 ∷ 0 ∷ 0 ∷ 0 ∷ 0 ∷ 0 ∷ 0 ∷ 0 ∷ 7 ∷ 0 ∷ 1 ∷ 97 ∷ 0 ∷ 0 ∷ 0 ∷ 1 ∷ []

abbrev sum : List ℕ
sum = 0x9a ∷ 0x94 ∷ 0x46 ∷ 0x1b ∷ 0xad ∷ 0xd1 ∷ 0xee ∷ 0x50 ∷ []

encoded : message_bytes 7 (at a1 Query) ≡ before
encoded = refl

-- a Recover has its kind alone otherwise
encoded_recover : message_bytes 7 (at a1 Recover) ≡ take 3 before ++ 18 ∷ drop 4 before
encoded_recover = refl

summed : checksum before ≡ sum
unfolding checksum sha256 digest_bytes hash_after compress rounds schedule first_words
summed = refl

-- bytes of another federation, of another layout, or too short have no message
others : (message_of 8 (before ++ sum) ≡ None)
    × (message_of 7 (66 ∷ 80 ∷ 1 ∷ drop 3 (before ++ sum)) ≡ None)
    × (message_of 7 (take 11 (before ++ sum)) ≡ None)
unfolding message_of
others = (refl, refl, refl)
