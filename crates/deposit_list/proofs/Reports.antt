-- What is written of deposits.
use Rattle.std.proofs.Common.{◌≡◌, ℕ, ◌+◌, ◌<◌, ◌≤◌, List, [], ◌∷◌, ◌++◌, length, take, drop}
use Rattle.std.proofs.Common.{get_or, min, arith, Option, Result, Ok, Err, refl, append-nil}
use Rattle.std.proofs.Common.{inl, inr}
use Rattle.std.proofs.KnownBytes.{Appends-trans}
use Rattle.std.proofs.lemmas.List.{take_more, take-append-drop}
use Rattle.std.specs.Prelude.{IfOk, OnOk, OnErr}
use Rattle.std.specs.Io.KnownBytes.{Appends}
use Rattle.outcomes.specs.declared.fault.ProgramFault.{ProgramFault}
use Rattle.outcomes.specs.declared.fault.ProgramFault.TheVariants as faults
use Rattle.outcomes.specs.Outcomes.{no_memory}
use Rattle.udp_site.specs.Traffic.{Move}
use Rattle.udp_site.proofs.Growth.{Grows-trans}
use Rattle.catch_up.specs.declared.rounds.Target.{Target}
use Rattle.catch_up.specs.Lines.{count_line}
use Rattle.catch_up.specs.Reports.{status_of}
use Rattle.catch_up.specs.Times.{Beat}
use Rattle.catch_up.specs.inner.Progress.{AppendsPart}
use Rattle.catch_up.proofs.Paces.{Beats-trans}
use Rattle.catch_up.proofs.Parts.{whole_part, part_of_both, then_part}
use Rattle.catch_up.proofs.Reports.{then_memory}
use Rattle.deposit_list.specs.declared.aim.Aim.{Aim}
use Rattle.deposit_list.specs.declared.deposit.Deposit.{Deposit}
use Rattle.deposit_list.specs.declared.entry.Entry.{Entry}
use Rattle.catch_up.specs.declared.said_answers.AskFault.{AskFault}
use Rattle.catch_up.specs.declared.said_answers.AskFault.TheVariants.{Memory, Output}
use Rattle.deposit_list.specs.Lines.{entry_line}
use Rattle.deposit_list.specs.Windows.{IsCutWindow, window_size}
use Rattle.deposit_list.specs.Reports.{report, entry_lines, AreSent}
use Rattle.deposit_list.specs.inner.Progress.{IsCut, OnlyMemory, AreReported}
use Rattle.deposit_list.proofs.Asking.{IsCutBy}
use Rattle.deposit_list.proofs.Windows.{AreSentTo, AreSentBut, lines_both}

-- ---- the lines of a window

module _ (to : ℕ) (entries : List Entry) (place : ℕ) (d : Entry) (within : place < length entries)
  where
    its_line : entry_lines to (get_or entries place d ∷ []) ≡ entry_line to (get_or entries place d)
    unfolding entry_lines
    its_line = append-nil (entry_line to (get_or entries place d))

    lines_at : entry_lines to (take (place + 1) entries)
        ≡ entry_lines to (take place entries) ++ entry_line to (get_or entries place d)
    lines_at =
        let this = get_or entries place d ∷ [] in
        rw (take_more entries place d within, lines_both to (take place entries) this, its_line)

    pub one_more_line : (a b c : Option (List ℕ))
        → Appends a b (entry_lines to (take place entries))
        → Appends b c (entry_line to (get_or entries place d))
        → Appends a c (entry_lines to (take (place + 1) entries))
    one_more_line a b c p q = rw lines_at (Appends-trans a b c _ _ p q)

    pub line_cut : (a b c : Option (List ℕ)) → Appends a b (entry_lines to (take place entries))
        → AppendsPart b c (entry_line to (get_or entries place d))
        → AppendsPart a c (entry_lines to entries)
    line_cut a b c p q =
        let first = take (place + 1) entries in
        let rest = drop (place + 1) entries in
        rw (← take-append-drop (place + 1) entries, lines_both to first rest)
        (part_of_both a c (entry_lines to first) _ (rw lines_at (then_part a b c _ _ p q)))

-- ---- all of them

only_none : (aim : Aim) (asked : Target) (rest : List Deposit) (fault : AskFault)
    → OnlyMemory aim asked rest fault [] []
only_none aim asked rest Memory = inl (refl, refl)
only_none aim asked rest Output = (refl, refl)

-- a window that breaks off is that of the first of those that are left
cut_first : (aim : Aim) (asked : Target) (rest window after : List Deposit) (moves : List Move)
    (beats : List Beat) → rest ≡ window ++ after → length window ≤ window_size aim
    → IsCut aim asked window moves beats → IsCutWindow aim asked rest moves beats
cut_first aim asked rest window after moves beats parts short (inl none) = inl none
cut_first aim asked rest window after moves beats parts short (inr (fresh, are, cut)) =
    inr (window, after, parts, short, (fresh, are, cut))

module _ (aim : Aim) (asked : Target) (deposits : List Deposit) (t u v : Option (List Beat))
    (a b c : Option (List Move)) (o n : Option (List ℕ)) where
  -- memory ran out while a window was sent
  pub window_stopped : (rest window after : List Deposit) (reached : ℕ) → rest ≡ window ++ after
      → length window ≡ min (window_size aim) (length rest)
      → AreSentTo aim asked deposits rest reached t u a b o n
      → IsCutBy aim asked window u v b c
      → AreReported aim asked deposits t v a c o n (Err Memory)
  window_stopped rest window after reached parts long
      (windows, sent, entries, all, _, _, _, (moves, beats, grows, beaten, are, said))
      (others, later, goes, waits, cut) = (
        windows,
        sent,
        rest,
        entries,
        moves,
        others,
        beats,
        later,
        Grows-trans a b c moves others grows goes,
        Beats-trans t u v beats later beaten waits,
        all,
        are,
        cut_first aim asked rest window after others later parts (omega (arith, long)) cut,
        part_of_both o n (entry_lines asked.to entries) _ (whole_part o n _ said),
      )

module _ (aim : Aim) (asked : Target) (deposits : List Deposit) (t v : Option (List Beat))
    (a c : Option (List Move)) (o n : Option (List ℕ)) where
  -- a line of it wasn't written
  pub lines_stopped : (after : List Deposit) (reached : ℕ) (now : List Entry)
      (q : Option (List ℕ)) (fault : AskFault)
      → AreSentBut aim asked deposits after reached now t v a c o n
      → AppendsPart n q (entry_lines asked.to now)
      → AreReported aim asked deposits t v a c o q (Err fault)
  lines_stopped after reached now q fault
      (windows, sent, entries, all, _, _, _, (moves, beats, grows, beaten, are), said) part = (
        windows,
        sent,
        after,
        entries,
        moves,
        [],
        beats,
        [],
        rw append-nil grows,
        rw append-nil beaten,
        all,
        are,
        only_none aim asked after fault,
        part_of_both o q (entry_lines asked.to entries) _
            (rw said.1 (then_part o n q said.0 _ said.2 part)),
      )

  -- all are sent, and the count is written or not
  pub counted_all : (rest : List Deposit) (reached : ℕ) (q : Option (List ℕ))
      (result : Result ℕ AskFault) → rest ≡ []
      → AreSentTo aim asked deposits rest reached t v a c o n
      → IfOk result (λ status. status ≡ status_of reached (length deposits))
      → OnOk result (Appends n q (count_line reached (length deposits)))
      → OnErr result (AppendsPart n q (count_line reached (length deposits)))
      → AreReported aim asked deposits t v a c o q result
  counted_all rest reached q (Ok given) none
      (windows, sent, entries, all, _, counted, _, (moves, beats, grows, beaten, are, said))
      status ok err = (
        windows,
        entries,
        moves,
        beats,
        grows,
        beaten,
        rw (all, none, append-nil) are,
        rw counted at status,
        Appends-trans o n q _ _ said (rw counted at ok),
      )
  counted_all rest reached q (Err fault) none
      (windows, sent, entries, all, _, counted, _, (moves, beats, grows, beaten, are, said))
      status ok err = (
        windows,
        sent,
        rest,
        entries,
        moves,
        [],
        beats,
        [],
        rw append-nil grows,
        rw append-nil beaten,
        all,
        are,
        only_none aim asked rest fault,
        then_part o n q _ _ said (rw counted at err),
      )

-- ---- what the command ends with

module _ (aim : Aim) (asked : Target) (deposits : List Deposit) (t u : Option (List Beat))
    (a b : Option (List Move)) (o n : Option (List ℕ)) where
  pub memory_ran_out : (p : Option (List ℕ)) (result : Result ℕ ProgramFault)
      → AreReported aim asked deposits t u a b o n (Err Memory)
      → IfOk result (λ given. (given ≡ 1) × Appends n p no_memory.text)
      → OnErr result ((result ≡ Err faults.Output) × AppendsPart n p no_memory.text)
      → AreSent aim asked deposits t u a b o p result
  memory_ran_out p result (
    windows,
    sent,
    rest,
    entries,
    moves,
    others,
    beats,
    later,
    grows,
    beaten,
    all,
    are,
    only,
    (count, part),
  ) ok err =
      let text = report aim asked.to (length deposits) entries in
      inr (
        windows,
        sent,
        rest,
        entries,
        moves,
        others,
        beats,
        later,
        grows,
        beaten,
        all,
        are,
        only,
        (count, then_memory text o n p count result part ok err),
      )
