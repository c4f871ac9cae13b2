-- The text of a run, line by line.
use Rattle.std.proofs.Common.{◌≡◌, ℕ, ◌+◌, ◌<◌, ◌≤◌, List, [], ◌++◌, length, take}
use Rattle.std.proofs.Common.{get_or, refl}
use Rattle.std.proofs.lemmas.List.{take_more, take_all, flat_map_more}
use Rattle.lines.specs.declared.line.Line.{Line}
use Rattle.lines.specs.declared.print_line.Options.{Options}
use Rattle.lines.specs.Texts.{text_of, printed_line}

pub text_of-none : (options : Options) (lines : List Line) → [] ≡ text_of options (take 0 lines)
unfolding text_of
text_of-none options lines = refl

pub text_of-more : (options : Options) (lines : List Line) (place : ℕ) (line : Line)
    → place < length lines → line ≡ get_or lines place line
    → text_of options (take place lines) ++ printed_line options line
    ≡ text_of options (take (place + 1) lines)
unfolding text_of
text_of-more options lines place line within is =
    rw (take_more lines place line within, ← is)
    (flat_map_more (printed_line options) [] (take place lines) line)

pub text_of-all : (options : Options) (lines : List Line) (place : ℕ) → length lines ≤ place
    → text_of options (take place lines) ≡ text_of options lines
text_of-all options lines place past = rw (take_all place lines past)
