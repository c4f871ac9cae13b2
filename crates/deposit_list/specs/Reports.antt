-- What is written of deposits.
use Rattle.std.specs.Prelude.{◌≡◌, ◌⊎◌, ℕ, List, [], ◌++◌, length, filter, Option, Result, OnOk}
use Rattle.std.specs.List.{flat_map}
use Rattle.outcomes.specs.declared.fault.ProgramFault.{ProgramFault}
use Rattle.outcomes.specs.Outcomes.{Outcome}
use Rattle.udp_site.specs.Traffic.{Move, Grows}
use Rattle.site_client.specs.Answers.{IsWritten}
use Rattle.catch_up.specs.declared.rounds.Target.{Target}
use Rattle.catch_up.specs.Lines.{count_line}
use Rattle.catch_up.specs.Reports.{status_of, cut_short}
use Rattle.catch_up.specs.Times.{Beat, Beats}
use Rattle.deposit_list.specs.declared.deposit.Deposit.{Deposit}
use Rattle.deposit_list.specs.declared.entry.Entry.{Entry}
use Rattle.deposit_list.specs.declared.aim.Aim.{Aim}
use Rattle.deposit_list.specs.Standings.{is_reached}
use Rattle.deposit_list.specs.Lines.{entry_line}
use Rattle.deposit_list.specs.Windows.{AreWindows, IsCutWindow}

-- of how many has come what was to come
unfoldable pub reached_in : Aim → List Entry → ℕ
reached_in aim entries = length (filter (λ entry. is_reached aim entry.standing) entries)

-- a line for each
unfoldable pub entry_lines : (site : ℕ) → List Entry → List ℕ
entry_lines site entries = flat_map (λ entry. entry_line site entry) entries

-- a line for each, in order, and of how many of how many has come what was to come; the status is 0
-- where that is all
abbrev pub report : Aim → (site : ℕ) → (count : ℕ) → List Entry → Outcome
report aim site count entries =
    let reached = reached_in aim entries in
    record {
      status = status_of reached count;
      text = entry_lines site entries ++ count_line reached count;
    }

-- The deposits are sent, and the report of them is written; or the output fails, after a prefix of
-- the report of those that were sent until then.
abbrev pub IsReported : Aim → Target → List Deposit → (since until : Option (List Beat))
    → (before after : Option (List Move)) → (old new : Option (List ℕ)) → Result ℕ ProgramFault
    → Type 0
IsReported aim asked deposits since until before after old new result =
    (windows : ℕ) × (sent : List Deposit) × (rest : List Deposit) × (entries : List Entry)
    × (moves : List Move) × (beats : List Beat)
    × Grows before after moves × Beats since until beats × (deposits ≡ sent ++ rest)
    × OnOk result (rest ≡ []) × AreWindows aim asked windows sent entries moves beats
    × IsWritten old new result (report aim asked.to (length deposits) entries)

-- Memory runs out, while a window is sent, which breaks off, or a line is made: a prefix of the
-- report of the windows before it is written, and the line `memory`.
abbrev pub IsCutShort : Aim → Target → List Deposit → (since until : Option (List Beat))
    → (before after : Option (List Move)) → (old new : Option (List ℕ)) → Result ℕ ProgramFault
    → Type 0
IsCutShort aim asked deposits since until before after old new result =
    (windows : ℕ) × (sent : List Deposit) × (rest : List Deposit) × (entries : List Entry)
    × (moves : List Move) × (others : List Move) × (beats : List Beat) × (later : List Beat)
    × Grows before after (moves ++ others) × Beats since until (beats ++ later)
    × (deposits ≡ sent ++ rest) × AreWindows aim asked windows sent entries moves beats
    × IsCutWindow aim asked rest others later
    × ((n : ℕ)
    × IsWritten old new result (cut_short n (report aim asked.to (length deposits) entries)))

abbrev pub AreSent : Aim → Target → List Deposit → (since until : Option (List Beat))
    → (before after : Option (List Move)) → (old new : Option (List ℕ)) → Result ℕ ProgramFault
    → Type 0
AreSent aim asked deposits since until before after old new result =
    IsReported aim asked deposits since until before after old new result
    ⊎ IsCutShort aim asked deposits since until before after old new result
