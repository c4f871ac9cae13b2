-- What was gathered, and the floor, with one message more.
use Rattle.std.proofs.Common.{◌≡◌, ◌≤◌, max, refl, List, [], ◌∷◌, ◌++◌, length, drop, Option, None}
use Rattle.std.proofs.Common.{Some, append-nil}
use Rattle.std.specs.List.{fold, filter_map, cons_option}
use Rattle.std.proofs.lemmas.List.Elements.{filter_map-append}
use Rattle.std.proofs.lemmas.List.Sums.{fold-append}
use Rattle.std.proofs.lemmas.List.{drop-append-le}
use Rattle.fed_types.specs.Ballots.{BallotNumber}
use Rattle.fed_types.specs.Slots.{SlotName}
use Rattle.records.specs.SlotStates.{with_one, if_some}
use Rattle.dgram.specs.declared.body.Body.{Body}
use Rattle.dgram.specs.declared.message.Message.{Message}
use Rattle.dgram.specs.Heard.{body_in, bodies_of, promise_in, promises_for, refused_round, floor_of}
use Rattle.proposer.specs.Proposals.{Current, gathered}

-- a list of what is there, or of nothing
abbrev pub one_of : {X : Type 0} → Option X → List X
one_of None = []
one_of (Some x) = x ∷ []

as_one : {X : Type 0} (o : Option X) → cons_option o [] ≡ one_of o
as_one None = refl
as_one (Some x) = refl

pub fold_one : {A X : Type 0} (step : A → X → A) (a : A) (o : Option X)
    → fold step a (cons_option o []) ≡ with_one step a o
fold_one step a None = refl
fold_one step a (Some x) = refl

pub bodies-push : (slot : SlotName) (heard : List Message) (m : Message)
    → bodies_of slot (heard ++ m ∷ []) ≡ bodies_of slot heard ++ one_of (body_in slot m)
unfolding bodies_of
bodies-push slot heard m =
    rw (filter_map-append (body_in slot) heard (m ∷ []), as_one (body_in slot m))

promises-push : (b : BallotNumber) (bodies : List Body) (o : Option Body)
    → promises_for b (bodies ++ one_of o)
    ≡ promises_for b bodies ++ one_of (if_some (promise_in b) o)
unfolding promises_for
promises-push b bodies None = simp append-nil
promises-push b bodies (Some body) =
    rw (filter_map-append (promise_in b) bodies (body ∷ []), as_one (promise_in b body))

-- one message more adds the promise for the ballot that it is, if it is one
pub gathered-push : (slot : SlotName) (c : Current) (heard : List Message) (m : Message)
    → c.heard_before ≤ length heard
    → gathered slot c (heard ++ m ∷ [])
    ≡ gathered slot c heard ++ one_of (if_some (promise_in c.ballot) (body_in slot m))
unfolding gathered
gathered-push slot c heard m within =
    let before = drop c.heard_before heard in
    rw (drop-append-le c.heard_before heard (m ∷ []) within, bodies-push slot before m)
    (promises-push c.ballot (bodies_of slot before) (body_in slot m))

floor-push_one : (bodies : List Body) (o : Option Body)
    → floor_of (bodies ++ one_of o)
    ≡ with_one max (floor_of bodies) (if_some refused_round o)
unfolding floor_of
floor-push_one bodies None = simp append-nil
floor-push_one bodies (Some body) =
    rw (filter_map-append refused_round bodies (body ∷ []), fold-append)
    (fold_one max (fold max 0 (filter_map refused_round bodies)) (refused_round body))

-- and raises the floor where it is a refusal
pub floor-push : (slot : SlotName) (heard : List Message) (m : Message)
    → floor_of (bodies_of slot (heard ++ m ∷ []))
    ≡ with_one max (floor_of (bodies_of slot heard)) (if_some refused_round (body_in slot m))
floor-push slot heard m =
    rw (bodies-push slot heard m) (floor-push_one (bodies_of slot heard) (body_in slot m))
