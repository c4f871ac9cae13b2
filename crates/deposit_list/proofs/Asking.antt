-- A round: deposits one after another; and rounds, one after another.
use Rattle.std.proofs.Common.{◌≡◌, ℕ, zero, suc, ◌+◌, ◌-◌, ◌≤◌, ◌<◌, Bool, true, false, List, []}
use Rattle.std.proofs.Common.{◌∷◌, ◌++◌, length, take, drop, get_or, Option, Some, Ok, Err}
use Rattle.std.proofs.Common.{refl, sym, ap, subst, ◌∙◌, arith, append_assoc, append-nil, inl, inr}
use Rattle.std.proofs.lemmas.List.{take_more, take_more_set, take_all, drop-set-lt, map-append}
use Rattle.std.proofs.lemmas.List.{length-map, take_at, take-append-drop}
use Rattle.std.proofs.Math.ListN.{set}
use Rattle.std.specs.Prelude.{◌≢◌}
use Rattle.std.specs.declared.alloc.AllocError.{AllocError}
use Rattle.site_client.specs.declared.reply.ClientReply.{ClientReply}
use Rattle.site_client.specs.Exchanges.{IsAskedAbout}
use Rattle.udp_site.specs.Traffic.{Move, Grows}
use Rattle.udp_site.proofs.Growth.{Grows-trans, Grows-none}
use Rattle.catch_up.specs.declared.rounds.Target.{Target}
use Rattle.catch_up.specs.Rounds.{in_round, question}
use Rattle.catch_up.specs.Times.{Beat, Read, Paused, Beats, WaitsForRound, most_rounds}
use Rattle.catch_up.specs.Times.{pause_after}
use Rattle.catch_up.proofs.Paces.{Beats-none, Beats-trans}
use Rattle.catch_up.proofs.Versions.{drop_next, same_at}
use Rattle.deposit_list.specs.declared.aim.Aim.{Aim}
use Rattle.deposit_list.specs.declared.aim.Aim.TheVariants as aims
use Rattle.deposit_list.specs.declared.deposit.Deposit.{Deposit}
use Rattle.deposit_list.specs.declared.entry.Entry.{Entry}
use Rattle.deposit_list.specs.declared.standing.Standing.{Standing}
use Rattle.deposit_list.specs.declared.standing.Standing.TheVariants.{Unsent}
use Rattle.deposit_list.specs.Standings.{is_settled, after}
use Rattle.deposit_list.specs.Windows.{IsStep, IsRound, AreFresh, are_settled, IsAwaited}
use Rattle.deposit_list.specs.Windows.{AreRounds, deadline_by, IsWindow}
use Rattle.deposit_list.specs.Windows.{path_to_send, AsksAbout, IsCutRound, AreCutRounds}
use Rattle.deposit_list.specs.inner.Progress.{IsStepped, IsAsked, IsNext, AreAsked, IsCut}

-- ---- one after another

round_then : (asked : Target) (xs ys : List Entry) (m : List Move) (x y : Entry) (n : List Move)
    → IsRound asked xs ys m → IsStep asked x y n
    → IsRound asked (xs ++ x ∷ []) (ys ++ y ∷ []) (m ++ n)
round_then asked [] ys m x y n (none, idle) step =
    (y, [], n, [], rw none, rw (idle, append-nil n), step, (refl, refl))
round_then asked (e ∷ es) ys m x y n (now, others, first, rest, is, moves, one, more) step = (
  now,
  others ++ y ∷ [],
  first,
  rest ++ n,
  rw is,
  rw (moves, append_assoc first rest n),
  one,
  round_then asked es others rest x y n more step,
)

-- and one that breaks off at the next
round_cut : (asked : Target) (xs ys : List Entry) (m : List Move) (x : Entry) (zs : List Entry)
    (n : List Move) → IsRound asked xs ys m → AsksAbout asked x n
    → IsCutRound asked (xs ++ x ∷ zs) (m ++ n)
round_cut asked [] ys m x zs n (none, idle) asks = inl (rw idle asks)
round_cut asked (e ∷ es) ys m x zs n (now, others, first, rest, is, moves, one, more) asks =
    let cut = round_cut asked es others rest x zs n more asks in
    inr (now, first, rest ++ n, rw (moves, append_assoc first rest n), one, cut)

-- what was done for those before a place
abbrev pub SoFar : Target → (old now : List Entry) → (place : ℕ)
    → (before after : Option (List Move)) → Type 0
SoFar asked old now place before after =
    (moves : List Move) × Grows before after moves
    × IsRound asked (take place old) (take place now) moves
    × (drop place now ≡ drop place old)

module _ (asked : Target) (old : List Entry) (a : Option (List Move)) where
  pub at_first : SoFar asked old old 0 a a
  at_first = ([], Grows-none a, (refl, refl), refl)

  pub one_more : (now : List Entry) (place : ℕ) (d next : Entry) (b c : Option (List Move))
      → place < length old → place < length now
      → IsStepped asked (get_or now place d) next b c (Ok tt) → SoFar asked old now place a b
      → SoFar asked old (set now place next) (place + 1) a c
  one_more now place d next b c within within_now (more, goes, step) (moves, grows, are, drops) =
      let is_old : take (place + 1) old ≡ take place old ++ get_or now place d ∷ [] =
      cc (take_more old place d within, same_at now old place d drops) in (
        moves ++ more,
        Grows-trans a b c moves more grows goes,
        rw (is_old, take_more_set now place next within_now)
            (round_then asked (take place old) (take place now) moves _ next more are step),
        drop-set-lt (place + 1) now place next (omega arith) ∙ drop_next now old place drops,
      )

  pub stopped : (now : List Entry) (place : ℕ) (d : Entry) (b c : Option (List Move))
      → place < length old
      → (more : List Move) × Grows b c more × AsksAbout asked (get_or now place d) more
      → SoFar asked old now place a b
      → (moves : List Move) × Grows a c moves × IsCutRound asked old moves
  stopped now place d b c within (more, goes, asks) (moves, grows, are, drops) =
      let first = take place old in
      let x = get_or now place d in
      let zs = drop (place + 1) old in
      let joined : (first ++ x ∷ []) ++ zs ≡ first ++ x ∷ zs = append_assoc first (x ∷ []) zs in
      let parts : old ≡ first ++ x ∷ zs =
      cc (
        joined,
        take_more old place d within,
        same_at now old place d drops,
        take-append-drop (place + 1) old,
      ) in (
        moves ++ more,
        Grows-trans a b c moves more grows goes,
        rw parts (round_cut asked first (take place now) moves x zs more are asks),
      )

  pub at_end : (now : List Entry) (place : ℕ) (b : Option (List Move)) → length old ≤ place
      → length now ≤ place → SoFar asked old now place a b → IsAsked asked old now a b (Ok tt)
  at_end now place b all all_now (moves, grows, are, drops) =
      (moves, grows, rw (take_all place old all, take_all place now all_now) at are)

-- ---- one deposit

module _ (asked : Target) (old : Entry) (a : Option (List Move)) where
  pub settled_before : is_settled old.standing ≡ true → IsStepped asked old old a a (Ok tt)
  settled_before settled = ([], Grows-none a, inl (settled, refl, refl))

  -- it is sent or asked for, and this comes
  pub stepped : (path : Option (List ℕ)) (reply : Option ClientReply) (standing : Standing)
      (b : Option (List Move)) → is_settled old.standing ≡ false → path ≡ path_to_send old
      → IsAskedAbout (question asked old.deposit.now.slot) path a b (Ok reply)
      → standing ≡ after old.standing reply
      → IsStepped asked old (record old { standing = standing }) a b (Ok tt)
  stepped path reply standing b not is (moves, grows, asks, first) stands =
      (moves, grows, inr (not, (rw is at asks, rw (stands, first, is))))

  -- memory ran out for its reply
  pub went : (path : Option (List ℕ)) (b : Option (List Move)) (fault : AllocError)
      → path ≡ path_to_send old
      → IsAskedAbout (question asked old.deposit.now.slot) path a b (Err fault)
      → (moves : List Move) × Grows a b moves × AsksAbout asked old moves
  went path b fault is (moves, grows, asks) = (moves, grows, rw is at asks)

  -- or before it was sent
  pub nothing_gone : (moves : List Move) × Grows a a moves × AsksAbout asked old moves
  nothing_gone = ([], Grows-none a, tt)

-- ---- where memory ran out

-- rounds were asked, and one more in part
abbrev pub AreCutBy : (deadline : ℕ) → Target → (entries : List Entry)
    → (since until : Option (List Beat)) → (before after : Option (List Move)) → Type 0
AreCutBy deadline asked entries since until before after =
    (moves : List Move) × (beats : List Beat) × Grows before after moves
    × Beats since until beats × AreCutRounds deadline asked entries moves beats

-- a window was sent in part
abbrev pub IsCutBy : Aim → Target → List Deposit → (since until : Option (List Beat))
    → (before after : Option (List Move)) → Type 0
IsCutBy aim asked window since until before after =
    (moves : List Move) × (beats : List Beat) × Grows before after moves
    × Beats since until beats × IsCut aim asked window moves beats

pub none_gone_on : (aim : Aim) (asked : Target) (window : List Deposit) (t : Option (List Beat))
    (a : Option (List Move)) → IsCutBy aim asked window t t a a
none_gone_on aim asked window t a = ([], [], Grows-none a, Beats-none t, inl (refl, refl))

-- ---- a window

pub none_fresh : AreFresh [] []
none_fresh = (refl, refl)

-- one deposit more
pub one_fresh : (window : List Deposit) (place : ℕ) (d : Deposit) (fresh : List Entry)
    (entry : Entry) → place < length window → entry.deposit.now ≡ get_or window place d
    → entry.standing ≡ Unsent → AreFresh (take place window) fresh
    → AreFresh (take (place + 1) window) (fresh ++ entry ∷ [])
one_fresh window place d fresh entry within is unsent (deposits, standings) =
    rw (take_more window place d within) (
      rw (map-append, deposits, is),
      rw (map-append (λ (e : Entry). e.standing) fresh (entry ∷ []), standings, unsent, map-append),
    )

fresh_length : (window : List Deposit) (fresh : List Entry) → AreFresh window fresh
    → length fresh ≡ length window
fresh_length window fresh (deposits, standings) =
    sym (length-map fresh (λ (e : Entry). e.deposit.now)) ∙ ap length deposits

-- a round leaves as many as there were
round_length : (asked : Target) (xs ys : List Entry) (m : List Move) → IsRound asked xs ys m
    → length ys ≡ length xs
round_length asked [] ys m (none, idle) = ap length none
round_length asked (e ∷ es) ys m (now, others, first, rest, is, moves, one, more) =
    let longer : length ys ≡ length (now ∷ others) = ap length is in
    omega (arith, longer, round_length asked es others rest more)

rounds_length : (s : ℕ) (asked : Target) (rounds : ℕ) (old new : List Entry) (m : List Move)
    (w : List Beat) → AreRounds s asked rounds old new m w → length new ≡ length old
rounds_length s asked zero old new m w (is, idle, none) = ap length is
rounds_length s asked (suc rounds) old new m w
    (before, earlier, last, since, wait, moves, beats, are, awaited, round) =
    round_length (in_round asked rounds) before new last round
    ∙ rounds_length s asked rounds old before earlier since are

-- a window was asked for
abbrev pub IsDone : Aim → Target → List Deposit → List Entry → (since until : Option (List Beat))
    → (before after : Option (List Move)) → Type 0
IsDone aim asked window entries since until before after =
    (moves : List Move) × (beats : List Beat) × Grows before after moves
    × Beats since until beats × IsWindow aim asked window entries moves beats
    × (length entries ≡ length window)

-- a list that was lent takes back as many as it had
module _ (aim : Aim) (asked : Target) (window : List Deposit) (fresh now : List Entry)
    (are : AreFresh window fresh) (room : ℕ) (spare : List Entry) (full : length fresh ≡ room)
  where
    taken_back : (t u : Option (List Beat)) (a b : Option (List Move)) → length now ≡ length fresh
        → IsDone aim asked window now t u a b
        → IsDone aim asked window (take room (now ++ spare)) t u a b
    taken_back t u a b same done = rw (take_at now spare room (same ∙ full)) done

    -- asked once
    pub asked_once : aim ≡ aims.Registered → (t : Option (List Beat)) (a b : Option (List Move))
        → IsAsked (in_round asked 0) fresh now a b (Ok tt)
        → IsDone aim asked window (take room (now ++ spare)) t t a b
    asked_once is t a b (moves, grows, round) =
        let same : length now ≡ length fresh =
        round_length (in_round asked 0) fresh now moves round in
        taken_back t t a b same (
          moves,
          [],
          grows,
          Beats-none t,
          rw is (fresh, are, (round, refl)),
          same ∙ fresh_length window fresh are,
        )

    -- asked in rounds
    pub asked_in_rounds : (seconds deadline : ℕ) → aim ≡ aims.Known seconds
        → (t u v : Option (List Beat)) (a b : Option (List Move))
        → (time : Option ℕ) × Beats t u (Read time ∷ []) × (deadline ≡ deadline_by seconds time)
        → AreAsked deadline asked fresh now u v a b (Ok tt)
        → IsDone aim asked window (take room (now ++ spare)) t v a b
    asked_in_rounds seconds deadline aim_is t u v a b (time, begun, is)
        (moves, beats, grows, beaten, all) =
        let same : length now ≡ length fresh =
        rounds_length deadline asked all.0 fresh now moves all.1 all.5 in
        taken_back t v a b same (
          moves,
          Read time ∷ beats,
          grows,
          Beats-trans t u v (Read time ∷ []) beats begun beaten,
          rw aim_is (fresh, are, (time, beats, refl, rw is at all)),
          same ∙ fresh_length window fresh are,
        )

module _ (aim : Aim) (asked : Target) (window : List Deposit) (fresh : List Entry)
    (are : AreFresh window fresh) where
  -- memory ran out while each was sent once
  pub once_gone_on : aim ≡ aims.Registered → (t : Option (List Beat)) (a b : Option (List Move))
      → (moves : List Move) × Grows a b moves × IsCutRound (in_round asked 0) fresh moves
      → IsCutBy aim asked window t t a b
  once_gone_on is t a b (moves, grows, cut) =
      (moves, [], grows, Beats-none t, inr (fresh, are, rw is (cut, refl)))

  -- or, after the time was read, in rounds
  pub later_gone_on : (seconds deadline : ℕ) → aim ≡ aims.Known seconds
      → (t u v : Option (List Beat)) (a b : Option (List Move))
      → (time : Option ℕ) × Beats t u (Read time ∷ []) × (deadline ≡ deadline_by seconds time)
      → AreCutBy deadline asked fresh u v a b → IsCutBy aim asked window t v a b
  later_gone_on seconds deadline aim_is t u v a b (time, begun, is)
      (moves, beats, grows, beaten, cut) = (
        moves,
        Read time ∷ beats,
        grows,
        Beats-trans t u v (Read time ∷ []) beats begun beaten,
        inr (fresh, are, rw aim_is (time, beats, refl, rw is at cut)),
      )

-- ---- rounds

-- so many rounds were done
abbrev pub RoundsSoFar : (deadline : ℕ) → Target → (rounds : ℕ) → (old now : List Entry)
    → (since until : Option (List Beat)) → (before after : Option (List Move)) → Type 0
RoundsSoFar deadline asked rounds old now since until before after =
    (moves : List Move) × (beats : List Beat) × Grows before after moves
    × Beats since until beats × AreRounds deadline asked rounds old now moves beats

module _ (s : ℕ) (asked : Target) (old : List Entry) (t : Option (List Beat))
    (a : Option (List Move)) where
  pub no_rounds : RoundsSoFar s asked 0 old old t t a a
  no_rounds = ([], [], Grows-none a, Beats-none t, (refl, refl, refl))

  pub one_round : (rounds : ℕ) (now next : List Entry) (u v : Option (List Beat))
      (b c : Option (List Move)) → IsNext s rounds now u v true
      → IsAsked (in_round asked rounds) now next b c (Ok tt)
      → RoundsSoFar s asked rounds old now t u a b
      → RoundsSoFar s asked (rounds + 1) old next t v a c
  one_round rounds now next u v b c (wait, waits, awaited) (last, goes, round)
      (moves, beats, grows, beaten, are) =
      let is : rounds + 1 ≡ suc rounds = omega arith in (
        moves ++ last,
        beats ++ wait,
        Grows-trans a b c moves last grows goes,
        Beats-trans t u v beats wait beaten waits,
        rw is (now, moves, last, beats, wait, refl, refl, are, awaited, round),
      )

  pub round_stopped : (rounds : ℕ) (now : List Entry) (u v : Option (List Beat))
      (b c : Option (List Move)) → IsNext s rounds now u v true
      → (last : List Move) × Grows b c last × IsCutRound (in_round asked rounds) now last
      → RoundsSoFar s asked rounds old now t u a b → AreCutBy s asked old t v a c
  round_stopped rounds now u v b c (wait, waits, awaited) (last, goes, cut)
      (moves, beats, grows, beaten, are) = (
        moves ++ last,
        beats ++ wait,
        Grows-trans a b c moves last grows goes,
        Beats-trans t u v beats wait beaten waits,
        (rounds, now, moves, last, beats, wait, refl, refl, are, awaited, cut),
      )

  pub no_other : (rounds : ℕ) (now : List Entry) (u v : Option (List Beat))
      (b : Option (List Move)) → IsNext s rounds now u v false
      → RoundsSoFar s asked rounds old now t u a b → AreAsked s asked old now t v a b (Ok tt)
  no_other rounds now u v b (some, (last, ends, why)) (moves, beats, grows, beaten, are) = (
    moves,
    beats ++ last,
    grows,
    Beats-trans t u v beats last beaten ends,
    (rounds, beats, last, some, refl, are, why),
  )

  pub most : (rounds : ℕ) (now : List Entry) (u : Option (List Beat)) (b : Option (List Move))
      → rounds ≡ most_rounds → RoundsSoFar s asked rounds old now t u a b
      → AreAsked s asked old now t u a b (Ok tt)
  most rounds now u b is (moves, beats, grows, beaten, are) =
      let some : 1 ≤ rounds = omega (arith, is) in
      let none = sym (append-nil beats) in
      (moves, beats, grows, beaten, (rounds, beats, [], some, none, are, inr (inr (is, refl))))

-- ---- whether there is another

module _ (s rounds : ℕ) (entries : List Entry) where
  pub is_first : (t : Option (List Beat)) → rounds ≡ 0 → IsNext s rounds entries t t true
  is_first t is = rw is ([], Beats-none t, refl)

  module _ (some : rounds ≢ 0) where
    pub nothing_left : (t : Option (List Beat)) → are_settled entries ≡ true
        → IsNext s rounds entries t t false
    nothing_left t all = (omega (arith, some), ([], Beats-none t, inl (all, refl)))

    pub some_left : (t u : Option (List Beat)) (goes : Bool) → are_settled entries ≡ false
        → WaitsForRound s (rounds - 1) t u goes → IsNext s rounds entries t u goes
    some_left t u true left (passed, beats, isnt) =
        let is : suc (rounds - 1) ≡ rounds = omega (arith, some) in
        let waits = Read (Some passed) ∷ Paused (pause_after (rounds - 1)) ∷ [] in (
          waits,
          beats,
          subst (λ (k : ℕ). IsAwaited s k entries waits) is (left, (passed, refl, isnt)),
        )
    some_left t u false left (last, beats, over) =
        (omega (arith, some), (last, beats, inr (inl (left, over))))
