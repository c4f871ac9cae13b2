-- Windows, one after another.
use Rattle.std.proofs.Common.{◌≡◌, ℕ, suc, ◌+◌, ◌*◌, ◌≤◌, ◌<◌, min, List, [], ◌∷◌, ◌++◌, length}
use Rattle.std.proofs.Common.{Option, Ok, refl, sym, ap, ◌∙◌}
use Rattle.std.proofs.Common.{arith, Bool, true, false, eqb, cond, not, append_assoc}
use Rattle.std.proofs.Common.{length-append, inl, inr, take, get_or}
use Rattle.std.proofs.KnownBytes.{Appends-nil, Appends-trans}
use Rattle.std.proofs.lemmas.Bool.{eqb-true}
use Rattle.std.proofs.lemmas.List.Elements.{filter-append}
use Rattle.std.proofs.lemmas.List.{length-take}
use Rattle.std.proofs.lemmas.List.Filters.{length-filter_both, length-filter_more}
use Rattle.std.proofs.lemmas.Grind.{flat_map-append}
use Rattle.std.specs.Prelude.{◌≢◌, ◌⊎◌, Vec}
use Rattle.std.specs.Global.{Global}
use Rattle.std.specs.Io.KnownBytes.{Appends}
use Rattle.udp_site.specs.Traffic.{Move, Grows}
use Rattle.udp_site.proofs.Growth.{Grows-trans, Grows-none}
use Rattle.catch_up.specs.declared.rounds.Target.{Target}
use Rattle.catch_up.specs.Times.{Beat, Beats}
use Rattle.catch_up.proofs.Paces.{Beats-none, Beats-trans}
use Rattle.deposit_list.specs.declared.aim.Aim.{Aim}
use Rattle.deposit_list.specs.declared.aim.Aim.TheVariants as aims
use Rattle.deposit_list.specs.declared.deposit.Deposit.{Deposit}
use Rattle.deposit_list.specs.declared.entry.Entry.{Entry}
use Rattle.deposit_list.specs.Standings.{is_reached}
use Rattle.deposit_list.specs.Lines.{entry_line}
use Rattle.deposit_list.specs.Windows.{window_size, AreWindows}
use Rattle.deposit_list.specs.Reports.{reached_in, entry_lines}
use Rattle.deposit_list.specs.inner.Progress.{AreDone, IsWindowAsked}

-- ---- what is counted and said of some, and of others

pub reached_both : (aim : Aim) (xs ys : List Entry)
    → reached_in aim (xs ++ ys) ≡ reached_in aim xs + reached_in aim ys
unfolding reached_in
reached_both aim xs ys =
    rw (filter-append (λ entry. is_reached aim entry.standing) xs ys) (length-append _ _)

pub lines_both : (to : ℕ) (xs ys : List Entry)
    → entry_lines to (xs ++ ys) ≡ entry_lines to xs ++ entry_lines to ys
unfolding entry_lines
lines_both to xs ys = flat_map-append (λ entry. entry_line to entry) xs ys

pub none_reached : (aim : Aim) → 0 ≡ reached_in aim []
unfolding reached_in
none_reached aim = refl

pub no_lines : (to : ℕ) → entry_lines to [] ≡ []
unfolding entry_lines
no_lines to = refl

-- no more are counted than there are
reached_bound : (aim : Aim) (entries : List Entry) → reached_in aim entries ≤ length entries
unfolding reached_in
reached_bound aim entries =
    let counts = λ (e : Entry). is_reached aim e.standing in
    omega (arith, length-filter_both counts (λ e. not (counts e)) (λ _. refl) entries)

pub reached_at : (aim : Aim) (entries : List Entry) (place : ℕ)
    → reached_in aim (take place entries) ≤ place
reached_at aim entries place =
    omega (arith, reached_bound aim (take place entries), length-take place entries)

reached_more : (aim : Aim) (entries : List Entry) (place : ℕ) (d : Entry) → place < length entries
    → reached_in aim (take (place + 1) entries)
    ≡ reached_in aim (take place entries)
    + cond (is_reached aim (get_or entries place d).standing) 1 0
unfolding reached_in
reached_more aim entries place d within =
    length-filter_more (λ (e : Entry). is_reached aim e.standing) entries place d within

-- with one entry more, which is counted or not
pub reached_next : (aim : Aim) (entries : List Entry) (place : ℕ) (d : Entry) (reached now : ℕ)
    (counts : Bool) → place < length entries → d ≡ get_or entries place d
    → reached ≡ reached_in aim (take place entries) → is_reached aim d.standing ≡ counts
    → now ≡ reached + cond counts 1 0 → now ≡ reached_in aim (take (place + 1) entries)
reached_next aim entries place d reached now counts within is so_far said more =
    let one : is_reached aim (get_or entries place d).standing ≡ counts = rw (← is) said in
    cc (reached_more aim entries place d within)

-- ---- how long windows are

some_size : (aim : Aim) → 1 ≤ window_size aim
some_size aims.Registered = omega arith
some_size (aims.Known seconds) = omega arith

one_window : (aim : Aim) (windows : ℕ)
    → suc windows * window_size aim ≡ windows * window_size aim + window_size aim
one_window aims.Registered windows = omega arith
one_window (aims.Known seconds) windows = omega arith

-- ---- those that were sent

-- so many windows were sent, and this is left
abbrev pub AreSentTo : Aim → Target → List Deposit → (rest : List Deposit) → (reached : ℕ)
    → (since until : Option (List Beat)) → (before after : Option (List Move))
    → (old new : Option (List ℕ)) → Type 0
AreSentTo aim asked deposits rest reached since until before after old new =
    (windows : ℕ) × (sent : List Deposit) × (entries : List Entry)
    × (deposits ≡ sent ++ rest)
    × ((rest ≡ []) ⊎ (length sent ≡ windows * window_size aim))
    × (reached ≡ reached_in aim entries) × (length entries ≡ length sent)
    × AreDone aim asked windows sent entries since until before after old new

module _ (aim : Aim) (asked : Target) (deposits : List Deposit) (t : Option (List Beat))
    (a : Option (List Move)) (o : Option (List ℕ)) where
  pub none_sent : AreSentTo aim asked deposits deposits 0 t t a a o o
  none_sent =
      let lines : Appends o o (entry_lines asked.to []) =
      rw (no_lines asked.to) (Appends-nil o) in (
        0,
        [],
        [],
        refl,
        inr (omega arith),
        none_reached aim,
        refl,
        ([], [], Grows-none a, Beats-none t, (refl, refl, refl, refl), lines),
      )

-- the same, but the lines of the last window aren't written
abbrev pub AreSentBut : Aim → Target → List Deposit → (rest : List Deposit) → (reached : ℕ)
    → (now : List Entry) → (since until : Option (List Beat))
    → (before after : Option (List Move)) → (old new : Option (List ℕ)) → Type 0
AreSentBut aim asked deposits rest reached now since until before after old new =
    (windows : ℕ) × (sent : List Deposit) × (entries : List Entry)
    × (deposits ≡ sent ++ rest)
    × ((rest ≡ []) ⊎ (length sent ≡ windows * window_size aim))
    × (reached ≡ reached_in aim entries) × (length entries ≡ length sent)
    × ((moves : List Move) × (beats : List Beat) × Grows before after moves
    × Beats since until beats × AreWindows aim asked windows sent entries moves beats)
    × ((said : List ℕ) × (entry_lines asked.to entries ≡ said ++ entry_lines asked.to now)
    × Appends old new said)

pub none_left : (rest : List Deposit) → true ≡ eqb (length rest) 0 → rest ≡ []
none_left [] is = refl
none_left (d ∷ rest) is =
    let long : suc (length rest) ≡ 0 = eqb-true (suc (length rest)) 0 (sym is) in
    absurd (omega arith)

some_left : (rest : List Deposit) → false ≡ eqb (length rest) 0 → rest ≢ []
some_left rest is none = absurd (cc (rw none at is))

some_first : (rest : List Deposit) → rest ≢ [] → 1 ≤ length rest
some_first [] some = absurd (some refl)
some_first (d ∷ rest) some = omega arith

module _ (aim : Aim) (asked : Target) (deposits : List Deposit) (t u v : Option (List Beat))
    (a b c : Option (List Move)) (o n : Option (List ℕ)) where
  -- a window more
  pub one_more_window : (rest window after : List Deposit) (reached : ℕ)
      (now : Vec Entry Global) → false ≡ eqb (length rest) 0 → rest ≡ window ++ after
      → length window ≡ min (window_size aim) (length rest)
      → AreSentTo aim asked deposits rest reached t u a b o n
      → IsWindowAsked aim asked window u v b c (Ok now)
      → AreSentBut aim asked deposits after (reached + reached_in aim now.items) now.items t v a c
      o n
  one_more_window rest window after reached now more parts long
      (windows, sent, entries, all, full, counted, equal, (moves, beats, grows, beaten, are, said))
      (last, others, goes, waits, its, count) =
      let size = some_size aim in
      let some = some_left rest more in
      let first = some_first rest some in
      let whole : length sent ≡ windows * window_size aim =
      elim full [ inl none ↦ absurd (some none) | inr whole ↦ whole ] in
      let sizes : length rest ≡ length window + length after =
      rw parts (length-append window after) in (
        suc windows,
        sent ++ window,
        entries ++ now.items,
        rw (all, parts, append_assoc sent window after),
        goes_on after whole sizes,
        rw (counted, reached_both aim entries now.items),
        simp length-append (cc),
        (
          moves ++ last,
          beats ++ others,
          Grows-trans a b c moves last grows goes,
          Beats-trans t u v beats others beaten waits,
          (
            sent,
            window,
            entries,
            now.items,
            moves,
            last,
            beats,
            others,
            (refl, whole, omega (arith, long, size, first), omega (arith, long)),
            (refl, refl, refl),
            are,
            its,
          ),
        ),
        (entry_lines asked.to entries, lines_both asked.to entries now.items, said),
      )
    where
      goes_on : (xs : List Deposit) → length sent ≡ windows * window_size aim
          → length rest ≡ length window + length xs
          → (xs ≡ []) ⊎ (length (sent ++ window) ≡ suc windows * window_size aim)
      goes_on [] whole sizes = inl refl
      goes_on (x ∷ xs) whole sizes =
          inr (length-append sent window
          ∙ (omega (arith, whole, long, sizes) ∙ sym (one_window aim windows)))

module _ (aim : Aim) (asked : Target) (deposits : List Deposit) (t v : Option (List Beat))
    (a c : Option (List Move)) (o n : Option (List ℕ)) where
  -- its lines are written
  pub lines_written : (after : List Deposit) (reached : ℕ) (now : List Entry)
      (q : Option (List ℕ)) → Appends n q (entry_lines asked.to now)
      → AreSentBut aim asked deposits after reached now t v a c o n
      → AreSentTo aim asked deposits after reached t v a c o q
  lines_written after reached now q wrote
      (count, sent, entries, all, full, counted, equal, (moves, beats, grows, beaten, are), said) =
      let lines : Appends o q (entry_lines asked.to entries) =
      rw said.1 (Appends-trans o n q said.0 _ said.2 wrote) in
      (count, sent, entries, all, full, counted, equal, (moves, beats, grows, beaten, are, lines))

pub no_overflow : (aim : Aim) (asked : Target) (deposits rest : List Deposit) (reached : ℕ)
    (now : List Entry) (t v : Option (List Beat)) (a c : Option (List Move))
    (o n : Option (List ℕ)) → AreSentBut aim asked deposits rest reached now t v a c o n
    → reached + length rest ≤ length deposits
no_overflow aim asked deposits rest reached now t v a c o n
    (windows, sent, entries, all, full, counted, lengths, others, said) =
    omega (
      arith,
      counted,
      lengths,
      reached_bound aim entries,
      ap length all,
      length-append sent rest,
    )
