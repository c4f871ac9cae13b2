-- What a batch takes in, one after another.
use Rattle.std.proofs.Common.{◌≡◌, ◌≤◌, ◌+◌, List, [], ◌∷◌, ◌++◌, length, map, take, Option, Some}
use Rattle.std.proofs.Common.{None, Result, Ok, Err, ap, arith, append_assoc, append-nil}
use Rattle.std.proofs.Common.{length-append, IfOk, option_to_list}
use Rattle.std.proofs.Math.Seq.{take-append_seam}
use Rattle.std.proofs.lemmas.List.{length-map, map-append, take-map}
use Rattle.udp_site.specs.declared.turn.Turn.{Turn}
use Rattle.udp_site.specs.Traffic.{Taken, Move, Took, Grows, taken}
use Rattle.udp_site.specs.BatchTurns.{AreTogether, MOST_TURNS}
use Rattle.udp_site.specs.inner.Batched.{TakesFirst, TakesIn, JoinsMore, JoinsLater, carried_of}
use Rattle.udp_site.specs.declared.fault.ServeFault.{ServeFault}
use Rattle.udp_site.specs.inner.Receipts.{Receives}
use Rattle.udp_site.proofs.Growth.{Grows-trans}

-- this joins too
pub one_joined : (a b c : Option (List Move)) (old so_far now : List Turn) (turn : Turn)
    → JoinsMore a b old so_far None → Grows b c (Took (taken turn) ∷ [])
    → now ≡ so_far ++ turn ∷ [] → JoinsMore a c old now None
one_joined a b c old so_far now turn (more, are, grows) took is = (
  more ++ taken turn ∷ [],
  rw (is, map-append, are, append_assoc),
  rw (append-nil, map-append) (Grows-trans _ _ _ _ _ (rw append-nil at grows) took),
)

-- the first turn, and those that joined it
pub all_taken_in : (a b c : Option (List Move)) (old carried : Option Turn) (turn : Turn)
    (first batch : List Turn) → first ≡ turn ∷ [] → TakesFirst a b old turn
    → JoinsMore b c first batch carried
    → length batch + length (option_to_list (carried_of carried)) ≤ MOST_TURNS
    → TakesIn a c old carried batch
all_taken_in a b c old carried turn first batch is (came, begins, grows) (more, are, took) most =
    let rest = option_to_list (carried_of carried) in
    let batch_is : map taken batch ≡ taken turn ∷ more = rw (are, is) in (
      came ++ (more ++ rest),
      rw (
        ← append_assoc (option_to_list (carried_of old)) came (more ++ rest),
        begins,
        batch_is,
      ),
      rw batch_is (omega (arith, most, ap length batch_is, length-map batch taken)),
      rw (map-append Took came (more ++ rest)) (Grows-trans _ _ _ _ _ grows took),
    )

-- nothing was carried, and this was received
pub received_first : (a b : Option (List Move)) (old : Option Turn)
    (result : Result Turn ServeFault)
    → old ≡ None → Receives a b result → IfOk result (λ turn. TakesFirst a b old turn)
received_first a b old (Ok turn) none grows = (taken turn ∷ [], rw none, grows)
received_first a b old (Err fault) none grows = tt

-- ---- what joins a batch whose turns were taken

-- those before them are the first
pub first_taken : (a b : Option (List Move)) (old new : List Turn) (carried : Option Turn)
    → JoinsMore a b old new carried → map taken old ≡ map taken (take (length old) new)
first_taken a b old new carried (more, are, grows) =
    rw (
      ← take-map taken (length old) new,
      are,
      ← length-map old taken,
      take-append_seam (map taken old) more,
    )

-- and no fewer are there then
pub no_fewer : (a b : Option (List Move)) (old new : List Turn) (carried : Option Turn)
    → JoinsMore a b old new carried → length old ≤ length new
no_fewer a b old new carried (more, are, grows) =
    omega (
      arith,
      ap length are,
      length-map new taken,
      length-map old taken,
      length-append (map taken old) more,
    )

joins_together : (xs more : List Taken) → AreTogether xs → length (xs ++ more) ≤ MOST_TURNS
    → AreTogether (xs ++ more)
joins_together [] more together most = absurd together
joins_together (x ∷ xs) more together most = omega (arith, most)

-- all of it was taken in, for a batch that isn't too long
pub taken_in_later : (a b c : Option (List Move)) (old was carried : Option Turn)
    (batch new : List Turn) → TakesIn a b old was batch → JoinsLater b c was carried batch new
    → length new ≤ MOST_TURNS → TakesIn a c old carried new
taken_in_later a b c old None carried batch new (came, begins, together, grows) joined most =
    let more = joined.0 in
    let rest = option_to_list (carried_of carried) in (
      came ++ (more ++ rest),
      rw (
        ← append_assoc (option_to_list (carried_of old)) came (more ++ rest),
        begins,
        append-nil (map taken batch),
        joined.1,
        append_assoc (map taken batch) more rest,
      ),
      rw joined.1
          (joins_together (map taken batch) more together
          (omega (arith, most, ap length joined.1, length-map new taken))),
      rw (map-append Took came (more ++ rest)) (Grows-trans _ _ _ _ _ grows joined.2),
    )
taken_in_later a b c old (Some turn) carried batch new (came, begins, together, grows)
    (same, kept, none) most =
    let moved = Grows-trans _ _ _ _ _ grows none in
    rw (same, kept) (came, begins, together, rw (← append-nil (map Took came)) moved)

-- and it has a turn at least
pub some_later : (a b : Option (List Move)) (was carried : Option Turn) (batch new : List Turn)
    → JoinsLater a b was carried batch new → length batch ≤ length new
some_later a b None carried batch new joined = no_fewer a b batch new carried joined
some_later a b (Some turn) carried batch new (same, kept, none) =
    omega (arith, ap length same)
