-- A window of deposits, which a site is sent in turn and asked for, round after round.
use Rattle.std.specs.Prelude.{◌≡◌, ◌⊎◌, ◌≤◌, ℕ, zero, suc, ◌+◌, ◌*◌, min, Bool, true, false}
use Rattle.std.specs.Prelude.{List, [], ◌∷◌, ◌++◌, length, map, Option, Some, None}
use Rattle.std.specs.List.{list_all}
use Rattle.udp_site.specs.Traffic.{Move}
use Rattle.site_client.specs.Replies.{datagram_to, first_reply}
use Rattle.site_client.specs.Exchanges.{Asks, HasAsked, wanted_about}
use Rattle.site_client.specs.Recoveries.{recovery_of}
use Rattle.catch_up.specs.declared.rounds.Target.{Target}
use Rattle.catch_up.specs.Rounds.{question, in_round}
use Rattle.catch_up.specs.Times.{Beat, Read, Paused, is_over, pause_after, ReadsOver, most_rounds}
use Rattle.deposit_list.specs.declared.deposit.Deposit.{Deposit}
use Rattle.deposit_list.specs.declared.entry.Entry.{Entry}
use Rattle.deposit_list.specs.declared.aim.Aim.{Aim}
use Rattle.deposit_list.specs.declared.aim.Aim.TheVariants as aims
use Rattle.deposit_list.specs.declared.standing.Standing.{Standing}
use Rattle.deposit_list.specs.declared.standing.Standing.TheVariants.{Unsent}
use Rattle.deposit_list.specs.Standings.{after, is_settled}

-- ---- one question

-- a folder's path, if it has to be sent
abbrev pub path_by : Standing → List ℕ → Option (List ℕ)
path_by Unsent path = Some path
path_by standing path = None

abbrev pub path_to_send : Entry → Option (List ℕ)
path_to_send entry = path_by entry.standing entry.deposit.now.path

-- the site is sent the deposit, or asked for its bag; after enough rounds each brings a Recover
abbrev pub HasAskedAbout : Target → Entry → List Move → Type 0
HasAskedAbout asked entry moves =
    let q = question asked entry.deposit.now.slot in
    HasAsked (asked.target, datagram_to q (path_to_send entry)) (recovery_of q) moves

-- the same, as far as there is memory for its datagrams
abbrev pub AsksAbout : Target → Entry → List Move → Type 0
AsksAbout asked entry moves =
    let q = question asked entry.deposit.now.slot in
    Asks (asked.target, datagram_to q (path_to_send entry)) (recovery_of q) moves

-- the first of these, and how it stands by the first reply to that
abbrev pub IsAnswered : Target → (old new : Entry) → List Move → Type 0
IsAnswered asked old new moves =
    HasAskedAbout asked old moves
    × (new ≡ record old {
      standing = after old.standing
          (first_reply (question asked old.deposit.now.slot) (wanted_about (path_to_send old))
          moves);
    })

-- the same, if something is to be waited for
abbrev pub IsStep : Target → (old new : Entry) → List Move → Type 0
IsStep asked old new moves =
    ((is_settled old.standing ≡ true) × (new ≡ old) × (moves ≡ []))
    ⊎ ((is_settled old.standing ≡ false) × IsAnswered asked old new moves)

-- ---- rounds

-- one step for each, in order
abbrev pub IsRound : Target → (old new : List Entry) → List Move → Type 0
IsRound asked [] new moves = (new ≡ []) × (moves ≡ [])
IsRound asked (entry ∷ entries) new moves =
    (now : Entry) × (others : List Entry) × (first : List Move) × (rest : List Move)
    × (new ≡ now ∷ others) × (moves ≡ first ++ rest) × IsStep asked entry now first
    × IsRound asked entries others rest

-- a round that breaks off: so many steps, and one more question at most
abbrev pub IsCutRound : Target → (entries : List Entry) → List Move → Type 0
IsCutRound asked [] moves = moves ≡ []
IsCutRound asked (entry ∷ entries) moves =
    AsksAbout asked entry moves
    ⊎ ((now : Entry) × (first : List Move) × (rest : List Move) × (moves ≡ first ++ rest)
    × IsStep asked entry now first × IsCutRound asked entries rest)

abbrev pub are_settled : List Entry → Bool
are_settled entries = list_all (λ entry. is_settled entry.standing) entries

-- what is waited for before the round after so many: nothing before the first; before each other
-- something is to be waited for, and it is read that the time isn't over
abbrev pub IsAwaited : (deadline rounds : ℕ) → List Entry → List Beat → Type 0
IsAwaited deadline zero entries beats = beats ≡ []
IsAwaited deadline (suc pauses) entries beats =
    (are_settled entries ≡ false)
    × ((passed : ℕ) × (beats ≡ Read (Some passed) ∷ Paused (pause_after pauses) ∷ [])
    × (is_over deadline (Some passed) ≡ false))

-- so many rounds, one after the other
abbrev pub AreRounds : (deadline : ℕ) → Target → (rounds : ℕ) → (old new : List Entry)
    → List Move → List Beat → Type 0
AreRounds deadline asked zero old new moves beats = (new ≡ old) × (moves ≡ []) × (beats ≡ [])
AreRounds deadline asked (suc rounds) old new moves beats =
    (before : List Entry) × (earlier : List Move) × (last : List Move)
    × (since : List Beat) × (wait : List Beat)
    × (moves ≡ earlier ++ last) × (beats ≡ since ++ wait)
    × AreRounds deadline asked rounds old before earlier since
    × IsAwaited deadline rounds before wait
    × IsRound (in_round asked rounds) before new last

-- rounds, the last of which breaks off
abbrev pub AreCutRounds : (deadline : ℕ) → Target → (entries : List Entry) → List Move → List Beat
    → Type 0
AreCutRounds deadline asked entries moves beats =
    (rounds : ℕ) × (before : List Entry) × (earlier : List Move) × (last : List Move)
    × (since : List Beat) × (wait : List Beat)
    × (moves ≡ earlier ++ last) × (beats ≡ since ++ wait)
    × AreRounds deadline asked rounds entries before earlier since
    × IsAwaited deadline rounds before wait
    × IsCutRound (in_round asked rounds) before last

-- why there is no other round: nothing is to be waited for; or the time is over; or no more rounds
-- can be counted
abbrev pub IsLast : (deadline rounds : ℕ) → List Entry → List Beat → Type 0
IsLast deadline rounds entries beats =
    ((are_settled entries ≡ true) × (beats ≡ []))
    ⊎ (((are_settled entries ≡ false) × ReadsOver deadline beats)
    ⊎ ((rounds ≡ most_rounds) × (beats ≡ [])))

-- rounds, one at least, until there is no other
abbrev pub AreAllRounds : (deadline : ℕ) → Target → (old new : List Entry) → List Move
    → List Beat → Type 0
AreAllRounds deadline asked old new moves beats =
    (rounds : ℕ) × (since : List Beat) × (last : List Beat) × (1 ≤ rounds)
    × (beats ≡ since ++ last) × AreRounds deadline asked rounds old new moves since
    × IsLast deadline rounds new last

-- ---- a window

-- none of these has been sent
abbrev pub AreFresh : List Deposit → List Entry → Type 0
AreFresh deposits entries =
    (map (λ entry. entry.deposit.now) entries ≡ deposits)
    × (map (λ entry. entry.standing) entries ≡ map (λ deposit. Unsent) deposits)

-- when so many seconds will have passed; at once if the time can't be read
abbrev pub deadline_by : (seconds : ℕ) → Option ℕ → ℕ
deadline_by seconds None = 0
deadline_by seconds (Some passed) = min (passed + seconds) 18446744073709551615

-- One round alone, where the site is to register them; else rounds, for so many seconds from now on
-- at most.
abbrev pub IsAskedFor : Aim → Target → (old new : List Entry) → List Move → List Beat → Type 0
IsAskedFor aims.Registered asked old new moves beats =
    IsRound (in_round asked 0) old new moves × (beats ≡ [])
IsAskedFor (aims.Known seconds) asked old new moves beats =
    (time : Option ℕ) × (others : List Beat) × (beats ≡ Read time ∷ others)
    × AreAllRounds (deadline_by seconds time) asked old new moves others

-- the same, and it breaks off
abbrev pub IsCutAsked : Aim → Target → (entries : List Entry) → List Move → List Beat → Type 0
IsCutAsked aims.Registered asked entries moves beats =
    IsCutRound (in_round asked 0) entries moves × (beats ≡ [])
IsCutAsked (aims.Known seconds) asked entries moves beats =
    (time : Option ℕ) × (others : List Beat) × (beats ≡ Read time ∷ others)
    × AreCutRounds (deadline_by seconds time) asked entries moves others

-- how many deposits are under way at most
abbrev pub window_size : Aim → ℕ
window_size aims.Registered = 1
window_size (aims.Known seconds) = 32

-- these are sent and asked for, and so they stand at the end
abbrev pub IsWindow : Aim → Target → List Deposit → List Entry → List Move → List Beat → Type 0
IsWindow aim asked window entries moves beats =
    (fresh : List Entry) × AreFresh window fresh × IsAskedFor aim asked fresh entries moves beats

-- The window of the first of these is sent and asked for, which breaks off; or nothing is done.
abbrev pub IsCutWindow : Aim → Target → List Deposit → List Move → List Beat → Type 0
IsCutWindow aim asked deposits moves beats =
    ((moves ≡ []) × (beats ≡ []))
    ⊎ ((window : List Deposit) × (later : List Deposit) × (deposits ≡ window ++ later)
    × (length window ≤ window_size aim) × ((fresh : List Entry) × AreFresh window fresh
    × IsCutAsked aim asked fresh moves beats))

-- So many windows, one after the other, and how the deposits stand at their ends. Each but the last
-- is full.
abbrev pub AreWindows : Aim → Target → (windows : ℕ) → List Deposit → List Entry → List Move
    → List Beat → Type 0
AreWindows aim asked zero deposits entries moves beats =
    (deposits ≡ []) × (entries ≡ []) × (moves ≡ []) × (beats ≡ [])
AreWindows aim asked (suc windows) deposits entries moves beats =
    (before : List Deposit) × (window : List Deposit) × (ended : List Entry) × (now : List Entry)
    × (earlier : List Move) × (last : List Move) × (since : List Beat) × (others : List Beat)
    × ((deposits ≡ before ++ window) × (length before ≡ windows * window_size aim)
    × (1 ≤ length window) × (length window ≤ window_size aim))
    × ((entries ≡ ended ++ now) × (moves ≡ earlier ++ last) × (beats ≡ since ++ others))
    × AreWindows aim asked windows before ended earlier since
    × IsWindow aim asked window now last others
