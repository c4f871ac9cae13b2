-- How far deposits were sent, and what was written of them.
use Rattle.std.specs.Prelude.{◌≡◌, ◌⊎◌, ◌≤◌, ℕ, Bool, true, false, List, [], ◌++◌}
use Rattle.std.specs.Prelude.{length, Option, Result, Ok, Err, Vec}
use Rattle.std.specs.Global.{Global}
use Rattle.std.specs.Io.KnownBytes.{Appends}
use Rattle.std.specs.declared.alloc.AllocError.{AllocError}
use Rattle.udp_site.specs.Traffic.{Move, Grows}
use Rattle.catch_up.specs.declared.rounds.Target.{Target}
use Rattle.catch_up.specs.Times.{Beat, Beats}
use Rattle.catch_up.specs.inner.Progress.{AppendsPart}
use Rattle.deposit_list.specs.declared.deposit.Deposit.{Deposit}
use Rattle.deposit_list.specs.declared.entry.Entry.{Entry}
use Rattle.deposit_list.specs.declared.aim.Aim.{Aim}
use Rattle.catch_up.specs.declared.said_answers.AskFault.{AskFault}
use Rattle.catch_up.specs.declared.said_answers.AskFault.TheVariants.{Memory, Output}
use Rattle.deposit_list.specs.Windows.{IsStep, IsRound, IsAwaited, IsLast, AreAllRounds, IsWindow}
use Rattle.deposit_list.specs.Windows.{AreWindows, AsksAbout, IsCutRound, AreCutRounds, AreFresh}
use Rattle.deposit_list.specs.Windows.{IsCutAsked, IsCutWindow}
use Rattle.deposit_list.specs.Reports.{report, entry_lines}

-- one step was done
abbrev pub IsStepped : Target → (old new : Entry) → (before after : Option (List Move))
    → Result (Unit {0}) AllocError → Type 0
IsStepped asked old new before after (Ok done) =
    (moves : List Move) × Grows before after moves × IsStep asked old new moves
IsStepped asked old new before after (Err fault) =
    (moves : List Move) × Grows before after moves × AsksAbout asked old moves

-- a round was
abbrev pub IsAsked : Target → (old new : List Entry) → (before after : Option (List Move))
    → Result (Unit {0}) AllocError → Type 0
IsAsked asked old new before after (Ok done) =
    (moves : List Move) × Grows before after moves × IsRound asked old new moves
IsAsked asked old new before after (Err fault) =
    (moves : List Move) × Grows before after moves × IsCutRound asked old moves

-- whether there is another round after so many, and what is waited for it
abbrev pub IsNext : (deadline rounds : ℕ) → List Entry → (since until : Option (List Beat))
    → Bool → Type 0
IsNext deadline rounds entries since until true =
    (beats : List Beat) × Beats since until beats × IsAwaited deadline rounds entries beats
IsNext deadline rounds entries since until false =
    (1 ≤ rounds)
    × ((beats : List Beat) × Beats since until beats × IsLast deadline rounds entries beats)

-- all rounds were
abbrev pub AreAsked : (deadline : ℕ) → Target → (old new : List Entry)
    → (since until : Option (List Beat)) → (before after : Option (List Move))
    → Result (Unit {0}) AllocError → Type 0
AreAsked deadline asked old new since until before after (Ok done) =
    (moves : List Move) × (beats : List Beat) × Grows before after moves
    × Beats since until beats × AreAllRounds deadline asked old new moves beats
AreAsked deadline asked old new since until before after (Err fault) =
    (moves : List Move) × (beats : List Beat) × Grows before after moves
    × Beats since until beats × AreCutRounds deadline asked old moves beats

-- a window was sent and asked for in part, or not at all
abbrev pub IsCut : Aim → Target → List Deposit → List Move → List Beat → Type 0
IsCut aim asked window moves beats =
    ((moves ≡ []) × (beats ≡ []))
    ⊎ ((fresh : List Entry) × AreFresh window fresh × IsCutAsked aim asked fresh moves beats)

-- a window was
abbrev pub IsWindowAsked : Aim → Target → List Deposit → (since until : Option (List Beat))
    → (before after : Option (List Move)) → Result (Vec Entry Global) AllocError → Type 0
IsWindowAsked aim asked window since until before after (Ok entries) =
    (moves : List Move) × (beats : List Beat) × Grows before after moves
    × Beats since until beats × IsWindow aim asked window entries.items moves beats
    × (length entries.items ≡ length window)
IsWindowAsked aim asked window since until before after (Err fault) =
    (moves : List Move) × (beats : List Beat) × Grows before after moves
    × Beats since until beats × IsCut aim asked window moves beats

-- ---- all windows

-- these were sent, and their lines written
abbrev pub AreDone : Aim → Target → (windows : ℕ) → List Deposit → List Entry
    → (since until : Option (List Beat)) → (before after : Option (List Move))
    → (old new : Option (List ℕ)) → Type 0
AreDone aim asked windows sent entries since until before after old new =
    (moves : List Move) × (beats : List Beat) × Grows before after moves
    × Beats since until beats × AreWindows aim asked windows sent entries moves beats
    × Appends old new (entry_lines asked.to entries)

-- what was sent and asked after the windows: nothing, unless memory ran out
abbrev pub OnlyMemory : Aim → Target → (rest : List Deposit) → AskFault → List Move → List Beat
    → Type 0
OnlyMemory aim asked rest Memory others later = IsCutWindow aim asked rest others later
OnlyMemory aim asked rest Output others later = (others ≡ []) × (later ≡ [])

-- and what is written then
abbrev pub AreReported : Aim → Target → List Deposit → (since until : Option (List Beat))
    → (before after : Option (List Move)) → (old new : Option (List ℕ)) → Result ℕ AskFault
    → Type 0
AreReported aim asked deposits since until before after old new (Ok status) =
    (windows : ℕ) × (entries : List Entry) × (moves : List Move) × (beats : List Beat)
    × Grows before after moves × Beats since until beats
    × AreWindows aim asked windows deposits entries moves beats
    × (status ≡ (report aim asked.to (length deposits) entries).status)
    × Appends old new (report aim asked.to (length deposits) entries).text
AreReported aim asked deposits since until before after old new (Err fault) =
    (windows : ℕ) × (sent : List Deposit) × (rest : List Deposit) × (entries : List Entry)
    × (moves : List Move) × (others : List Move) × (beats : List Beat) × (later : List Beat)
    × Grows before after (moves ++ others) × Beats since until (beats ++ later)
    × (deposits ≡ sent ++ rest) × AreWindows aim asked windows sent entries moves beats
    × OnlyMemory aim asked rest fault others later
    × AppendsPart old new (report aim asked.to (length deposits) entries).text
