-- Printed lines are read again, and a printed schedule as a whole.
use Rattle.std.proofs.Common.{◌≡◌, ℕ, zero, suc, ◌+◌, ◌-◌, ◌<◌, Bool, true, false, not, eqb, List}
use Rattle.std.proofs.Common.{[], ◌∷◌, ◌++◌, length, get_or, map, All, Option, Some, None, Ok}
use Rattle.std.proofs.Common.{replicate, refl, sym, ap, ◌∙◌, inl, inr, append_assoc, take, arith}
use Rattle.std.specs.Prelude.{IfSome, filter, codes}
use Rattle.std.specs.Fmt.{decimal}
use Rattle.std.specs.List.{AllByRecursion, slice_split, join_with_byte, flat_map}
use Rattle.std.specs.Str.Lines.{lines, lines_of_parts, strip_carriage_return}
use Rattle.std.proofs.lemmas.Bool.{ne_eqb, cases_lt}
use Rattle.std.proofs.lemmas.List.{get_or_past, take_more, flat_map_more}
use Rattle.std.proofs.lemmas.List.Elements.{All-nil, All-cons, All-append, All-weaker}
use Rattle.std.proofs.lemmas.List.Splits.{slice_split_none, slice_split_at, length-slice_split}
use Rattle.fed_types.specs.Sites.{Membership, count_of}
use Rattle.fed_types.specs.Values.{IsMembership}
use Rattle.schedule.specs.declared.call.Call.{Call}
use Rattle.schedule.specs.declared.call.Call.TheVariants.{Deliver}
use Rattle.schedule.specs.declared.command.Command.{Command}
use Rattle.schedule.specs.declared.command.Command.TheVariants as commands
use Rattle.schedule.specs.declared.fate.DeviceCall.TheVariants.{Append, Sync}
use Rattle.schedule.specs.declared.fate.Fate.{Fate}
use Rattle.schedule.specs.declared.fate.Fate.TheVariants.{StopsIn, FailsIn}
use Rattle.tokens.specs.Words.{words_of}
use Rattle.schedule.specs.Lines.{call_tokens, fate_tokens, command_tokens}
use Rattle.schedule.specs.Plans.{Plan, is_skipped, later_line, later_lines, plan_after, plan_of}
use Rattle.schedule.specs.Schedules.{IsCommand, IsPlan}
use Rattle.schedule.specs.Texts.{words_for, federation_words, federation_line, printed_line}
use Rattle.schedule.specs.Texts.{printed_weights, schedule_text}
use Rattle.schedule.specs.inner.Printed.{IsWord}
use Rattle.tokens.proofs.EscapeLemmas.{IsAbove}
use Rattle.tokens.proofs.GrammarLemmas.{HasWords-words_of}
use Rattle.tokens.proofs.LineLemmas.{ends_line, lines_of_more_parts}
use Rattle.schedule.proofs.PlanLemmas.{plan_after-skipped, plan_after-federation}
use Rattle.schedule.proofs.PrintedFederation.{AreWords-federation, federation_of-printed}
use Rattle.schedule.proofs.SaysLemmas.{later_line-from, no_skip-words}
use Rattle.schedule.proofs.TokenLemmas.{are_plain, are_plain-append, AreWordsFor-printed}
use Rattle.schedule.proofs.TokenLemmas.{AreWords-printed}

-- no CR and no LF
abbrev pub IsInLine : ℕ → Type 0
IsInLine b = 31 < b

abbrev splits_words : ℕ → Bool
splits_words b = eqb b 32

-- a word has no space
no_space : (word : List ℕ) → IsWord word → All (λ b. splits_words b ≡ false) word
no_space word is =
    All-weaker IsAbove (λ b. splits_words b ≡ false) (λ b above. ne_eqb b 32 (λ e. omega arith))
    word is.1

-- a word isn't dropped
kept : (word : List ℕ) (more : List (List ℕ)) → IsWord word
    → filter (λ w. not (eqb (length w) 0)) (word ∷ more)
    ≡ word ∷ filter (λ w. not (eqb (length w) 0)) more
kept word more is =
    rw (ne_eqb (length word) 0 (λ e. omega (arith, is.0)))

-- the words of a line that was made of words
pub words_of-join : (words : List (List ℕ)) → AllByRecursion IsWord words
    → words_of (join_with_byte 32 words) ≡ words
unfolding words_of
words_of-join [] are = refl
words_of-join (word ∷ []) are =
    rw (slice_split_none splits_words word (no_space word are.0)) (kept word [] are.0)
words_of-join (word ∷ next ∷ more) are =
    let rest = join_with_byte 32 (next ∷ more) in
    rw (slice_split_at splits_words word 32 rest (no_space word are.0) refl)
    (kept word (slice_split splits_words rest) are.0
    ∙ ap (λ (ws : List (List ℕ)). word ∷ ws) (words_of-join (next ∷ more) are.1))

-- such a line has no CR and no LF
pub in_line : (words : List (List ℕ)) → AllByRecursion IsWord words
    → All IsInLine (join_with_byte 32 words)
in_line [] are = All-nil IsInLine
in_line (word ∷ []) are = All-weaker IsAbove IsInLine (λ b above. omega arith) word are.0.1
in_line (word ∷ next ∷ more) are =
    All-append IsInLine word (32 ∷ join_with_byte 32 (next ∷ more))
    (All-weaker IsAbove IsInLine (λ b above. omega arith) word are.0.1)
    (All-cons IsInLine 32 (join_with_byte 32 (next ∷ more)) (omega arith)
    (in_line (next ∷ more) are.1))

-- it ends in no CR
strip_carriage_return-in_line : (line : List ℕ) → All IsInLine line
    → strip_carriage_return line ≡ line
strip_carriage_return-in_line line are =
    let last : eqb (get_or line (length line - 1) 0) 13 ≡ false =
    ne_eqb (get_or line (length line - 1) 0) 13 (λ e. elim (cases_lt 0 (length line)) [
      | inl some ↦ omega (arith, are (length line - 1) 0 (omega arith))
      | inr none ↦ omega (arith, get_or_past line (length line - 1) 0 (omega arith))
    ]) in
    rw last

-- the first line of lines that LF ends
pub lines-line : (line rest : List ℕ) → All IsInLine line
    → lines ((line ++ 10 ∷ []) ++ rest) ≡ line ∷ lines rest
lines-line line rest are =
    let no_end =
    All-weaker IsInLine (λ b. ends_line b ≡ false) (λ b in_it. ne_eqb b 10 (λ e. omega arith)) line
    are in
    ap lines (append_assoc line (10 ∷ []) rest)
    ∙ ap lines_of_parts (slice_split_at ends_line line 10 rest no_end refl)
    ∙ lines_of_more_parts line (slice_split ends_line rest)
    (omega (arith, length-slice_split ends_line rest))
    ∙ ap (λ (l : List ℕ). l ∷ lines rest) (strip_carriage_return-in_line line are)

-- each keyword is a word, and each range fits
plain_fate : (fate : Fate) → are_plain (fate_tokens fate) ≡ true
plain_fate (StopsIn Append kept) = refl
plain_fate (StopsIn Sync kept) = refl
plain_fate (FailsIn Append kept) = refl
plain_fate (FailsIn Sync kept) = refl
plain_fate _ = refl

plain_call : (call : Call) → are_plain (call_tokens call) ≡ true
plain_call (Deliver k) = refl
plain_call _ = refl

plain_command : (command : Command) → are_plain (command_tokens command) ≡ true
plain_command (commands.Call call fate) =
    are_plain-append (call_tokens call) (fate_tokens fate) (plain_call call) (plain_fate fate)
plain_command _ = refl

-- the words of a command
AreWords-command : (command : Command) → IsCommand command
    → AllByRecursion IsWord (words_for command)
AreWords-command command is =
    AreWords-printed (command_tokens command) (plain_command command) is

-- the line of a command
later_line-command : (command : Command) → IsCommand command
    → later_line (join_with_byte 32 (words_for command)) ≡ Some (Some command)
later_line-command command is =
    let line = join_with_byte 32 (words_for command) in
    let has =
    HasWords-words_of line (words_for command)
    (words_of-join (words_for command) (AreWords-command command is)) in
    later_line-from line (Some command) (
      words_for command,
      has,
      AreWordsFor-printed (command_tokens command) (plain_command command) is,
    )

-- the line of a federation isn't skipped
federation_goes_on : (m : Membership) → IsMembership m
    → is_skipped (join_with_byte 32 (federation_words m)) ≡ false
unfolding federation_words
federation_goes_on m is =
    let line = join_with_byte 32 (federation_words m) in
    let has =
    HasWords-words_of line (federation_words m)
    (words_of-join (federation_words m) (AreWords-federation m is)) in
    no_skip-words line (codes "federation")
    (decimal m.federation ∷ decimal (count_of m) ∷ map decimal (printed_weights m.weights)) has refl

-- an empty line
pub later_line-empty : later_line [] ≡ Some None
unfolding later_line words_of
later_line-empty = refl

-- the lines after the federation's
pub later_lines-printed : (number : ℕ) (said : List (Option Command))
    → AllByRecursion (λ s. IfSome s IsCommand) said
    → later_lines number (lines (flat_map printed_line said)) ≡ Ok said
unfolding later_lines
later_lines-printed number [] are = refl
later_lines-printed number (None ∷ more) are =
    rw (lines-line [] (flat_map printed_line more) (All-nil IsInLine), later_line-empty)
    (rw (later_lines-printed (number + 1) more are.1))
later_lines-printed number (Some command ∷ more) are =
    let line = join_with_byte 32 (words_for command) in
    let is_line = in_line (words_for command) (AreWords-command command are.0) in
    rw (lines-line line (flat_map printed_line more) is_line, later_line-command command are.0)
    (rw (later_lines-printed (number + 1) more are.1))

-- empty lines
empty_is_skipped : is_skipped [] ≡ true
unfolding words_of
empty_is_skipped = refl

pub plan_after-blank : (blank skipped : ℕ) (rest : List ℕ)
    → plan_after skipped (lines (replicate blank 10 ++ rest))
    ≡ plan_after (skipped + blank) (lines rest)
plan_after-blank zero skipped rest = ap (λ (k : ℕ). plan_after k (lines rest)) (omega arith)
plan_after-blank (suc blank) skipped rest =
    ap (plan_after skipped) (lines-line [] (replicate blank 10 ++ rest) (All-nil IsInLine))
    ∙ plan_after-skipped skipped [] (lines (replicate blank 10 ++ rest)) empty_is_skipped
    ∙ plan_after-blank blank (skipped + 1) rest
    ∙ ap (λ (k : ℕ). plan_after k (lines rest)) (omega arith)

-- a printed schedule
pub plan_of-schedule_text : (plan : Plan) → IsPlan plan → plan_of (schedule_text plan) ≡ Ok plan
unfolding plan_of schedule_text
plan_of-schedule_text plan is =
    let m = plan.members in
    let line = join_with_byte 32 (federation_words m) in
    let rest = flat_map printed_line plan.lines in
    let are = AreWords-federation m is.members in
    let words = words_of-join (federation_words m) are in
    let goes_on = federation_goes_on m is.members in
    let skipped : 0 + plan.skipped ≡ plan.skipped = omega arith in
    ap (λ (t : List ℕ). plan_after 0 (lines t))
    (append_assoc (replicate plan.skipped 10) (federation_line m) rest)
    ∙ plan_after-blank plan.skipped 0 (federation_line m ++ rest)
    ∙ ap (plan_after (0 + plan.skipped)) (lines-line line rest (in_line (federation_words m) are))
    ∙ ap (λ (k : ℕ). plan_after k (line ∷ lines rest)) skipped
    ∙ rw (plan_after-federation plan.skipped line (lines rest) goes_on, words)
    (rw (federation_of-printed m is.members)
    (rw (later_lines-printed (plan.skipped + 2) plan.lines is.lines)))

-- one line more is printed
pub flat_map_line-more : (front : List ℕ) (said : List (Option Command)) (i : ℕ)
    (line : Option Command) → i < length said → line ≡ get_or said i line
    → (front ++ flat_map printed_line (take i said)) ++ printed_line line
    ≡ front ++ flat_map printed_line (take (i + 1) said)
flat_map_line-more front said i line within is =
    let more : take (i + 1) said ≡ take i said ++ line ∷ [] =
    take_more said i line within ∙ ap (λ (l : Option Command). take i said ++ l ∷ []) (sym is) in
    rw more (flat_map_more printed_line front (take i said) line)
