-- The deposits of a list, line by line.
use Rattle.std.proofs.Common.{◌≡◌, ℕ, ◌+◌, ◌-◌, ◌≤◌, ◌<◌, List, [], ◌∷◌, ◌++◌, length}
use Rattle.std.proofs.Common.{Option, Some, None, Bool, true, false, not, ◌||◌, refl, ap}
use Rattle.std.proofs.Common.{◌∙◌, arith, append_assoc, append-nil, length-append}
use Rattle.std.proofs.Math.Bool.{or-false}
use Rattle.std.proofs.lemmas.List.{take_at, map-append}
use Rattle.std.proofs.lemmas.List.Elements.{filter_map-append}
use Rattle.std.proofs.lemmas.List.Folds.{list_all-append, list_any-append}
use Rattle.std.specs.Option.{option_to_list}
use Rattle.std.specs.List.{cons_option, list_all}
use Rattle.std.specs.Prelude.{filter_map, is_some, ◌&&◌}
use Rattle.std.specs.Str.Lines.{lines}
use Rattle.fed_types.specs.Slots.{SlotName, same_slot}
use Rattle.fed_types.specs.Laws.Slots.{same_slot_equivalence}
use Rattle.slot_table.specs.Listings.{AreListed}
use Rattle.slot_table.specs.Rows.{Rows, row_at}
use Rattle.deposit_list.specs.declared.deposit.Deposit.{Deposit}
use Rattle.deposit_list.specs.Lists.{deposit_of, is_line, are_lines, slots_of, has_slot, repeats}
use Rattle.deposit_list.specs.Lists.{is_of_one, may_follow, HasOtherLine}

single : {Y : Type 0} (o : Option Y) → cons_option o [] ≡ option_to_list o
single None = refl
single (Some y) = refl

-- what one line more gives
one_more : (done : List (List ℕ)) (line : List ℕ)
    → filter_map deposit_of done ++ option_to_list (deposit_of line)
    ≡ filter_map deposit_of (done ++ line ∷ [])
one_more done line = rw (filter_map-append, single)

-- ---- one deposit more, and one line more

pub slots_both : (xs ys : List Deposit) → slots_of (xs ++ ys) ≡ slots_of xs ++ slots_of ys
slots_both xs ys = map-append (λ (d : Deposit). d.slot) xs ys

-- the table of the versions knows which one is there
pub has_by : (deposits : List Deposit) (rows : Rows Bool) (slot : SlotName)
    → AreListed (slots_of deposits) rows → is_some (row_at rows slot) ≡ has_slot deposits slot
unfolding has_slot
has_by deposits rows slot all = all slot

has_more : (xs : List Deposit) (y : Deposit) (slot : SlotName)
    → has_slot (xs ++ y ∷ []) slot ≡ (has_slot xs slot || (same_slot slot y.slot || false))
unfolding has_slot
has_more xs y slot =
    rw (slots_both xs (y ∷ [])) (list_any-append (same_slot slot) (slots_of xs) (y.slot ∷ []))

sorted : (a b c d : Bool) → ((a || (b || false)) || (c || d)) ≡ ((a || c) || (b || d))
sorted true b c d = refl
sorted false true true d = refl
sorted false true false d = refl
sorted false false c d = refl

-- a deposit at the end repeats one, or those before it do
repeats_more : (xs : List Deposit) (y : Deposit)
    → repeats (xs ++ y ∷ []) ≡ (repeats xs || has_slot xs y.slot)
unfolding has_slot
repeats_more [] y = refl
repeats_more (x ∷ xs) y =
    rw (has_more xs y x.slot, repeats_more xs y, same_slot_equivalence.symm x.slot y.slot)
    (sorted (has_slot xs x.slot) (same_slot y.slot x.slot) (repeats xs) (has_slot xs y.slot))

repeats_by : (xs : List Deposit) (o : Option Deposit)
    → repeats (xs ++ option_to_list o) ≡ (repeats xs || is_of_one xs o)
repeats_by xs None = rw (append-nil, or-false)
repeats_by xs (Some y) = repeats_more xs y

joined : (a b r s : Bool) → ((a && (b && true)) && not (r || s)) ≡ ((a && not r) && (b && not s))
joined false b r s = refl
joined true true true s = refl
joined true true false s = refl
joined true false true s = refl
joined true false false s = refl

lines_more : (done : List (List ℕ)) (line : List ℕ)
    → are_lines (done ++ line ∷ [])
    ≡ (are_lines done && may_follow (filter_map deposit_of done) line)
lines_more done line =
    let before = filter_map deposit_of done in
    rw (
      list_all-append is_line done (line ∷ []),
      ← one_more done line,
      repeats_by before (deposit_of line),
    )
    (joined (list_all is_line done) (is_line line) (repeats before)
    (is_of_one before (deposit_of line)))

-- ---- a text, line by line

-- these lines were read, and these deposits found
pub record IsRead (text rest : List ℕ) (number : ℕ) (found : List Deposit) : Type 0 where
  pub done : List (List ℕ)
  pub lines_are : lines text ≡ done ++ lines rest
  pub number_is : number ≡ 1 + length done
  pub fine : are_lines done ≡ true
  pub deposits_are : found ≡ filter_map deposit_of done
  pub short : number + length rest ≤ length text + 1

-- whether the lines are fine with one more
with_next : (done : List (List ℕ)) (line : List ℕ) (found : List Deposit) (b : Bool)
    → are_lines done ≡ true → found ≡ filter_map deposit_of done → may_follow found line ≡ b
    → are_lines (done ++ line ∷ []) ≡ b
with_next done line found b fine are is = rw (lines_more done line, fine, ← are) is

pub next_line : (text rest line after : List ℕ) (number : ℕ) (mid new : List Deposit)
    → IsRead text rest number mid → lines rest ≡ line ∷ lines after
    → length after < length rest → may_follow mid line ≡ true
    → new ≡ mid ++ option_to_list (deposit_of line) → IsRead text after (number + 1) new
next_line text rest line after number mid new read first shorter is deposits = record {
  done = read.done ++ line ∷ [];
  lines_are = rw (read.lines_are, first, append_assoc);
  number_is = omega (arith, read.number_is, length-append read.done (line ∷ []));
  fine = with_next read.done line mid true read.fine read.deposits_are is;
  deposits_are = rw (deposits, read.deposits_are) (one_more read.done line);
  short = omega (arith, read.short, shorter);
}

pub other_line : (text rest line after : List ℕ) (number : ℕ) (found : List Deposit)
    → IsRead text rest number found → lines rest ≡ line ∷ lines after
    → may_follow found line ≡ false → HasOtherLine text number
other_line text rest line after number found read first other =
    let all : lines text ≡ read.done ++ line ∷ lines after = rw (read.lines_are, first) in
    let before : length read.done ≡ number - 1 = omega (arith, read.number_is) in
    let one : lines text ≡ (read.done ++ line ∷ []) ++ lines after = rw (all, append_assoc) in
    let longer : length (read.done ++ line ∷ []) ≡ number =
    length-append read.done (line ∷ []) ∙ omega (arith, read.number_is) in (
      omega (arith, read.number_is),
      omega (
        arith,
        read.number_is,
        ap length all,
        length-append read.done (line ∷ lines after),
      ),
      rw (all, take_at read.done (line ∷ lines after) (number - 1) before) read.fine,
      rw (one, take_at (read.done ++ line ∷ []) (lines after) number longer)
          (with_next read.done line found false read.fine read.deposits_are other),
    )
