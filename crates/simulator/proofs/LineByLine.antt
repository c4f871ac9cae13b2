-- A run of no lines, of one line more, and of all of them.
use Rattle.std.proofs.Common.{◌≡◌, ℕ, suc, ◌+◌, ◌<◌, ◌≤◌, List, [], ◌∷◌, ◌++◌, length, take}
use Rattle.std.proofs.Common.{get_or, Option, arith, refl}
use Rattle.std.proofs.Math.Nat.{add-zero}
use Rattle.std.proofs.lemmas.List.{take_more, take_all, length-take-le}
use Rattle.schedule.specs.declared.command.Command.{Command}
use Rattle.schedule.specs.Plans.{Plan}
use Rattle.world_law.specs.Worlds.{World, new_world, after_line, run_from, run_of}

pub run_from-none : (number : ℕ) (w : World) → run_from number w [] ≡ w
unfolding run_from
run_from-none number w = refl

-- the last line comes after all others
pub run_from-push : (number : ℕ) (w : World) (lines : List (Option Command))
    (line : Option Command)
    → after_line (run_from number w lines) (number + length lines) line
    ≡ run_from number w (lines ++ line ∷ [])
unfolding run_from
run_from-push number w [] line = rw add-zero
run_from-push number w (first ∷ lines) line =
    let same : number + suc (length lines) ≡ (number + 1) + length lines = omega arith in
    rw same (run_from-push (number + 1) (after_line w number first) lines line)

pub run_from-more : (first index : ℕ) (w : World) (lines : List (Option Command))
    (line : Option Command) → index < length lines → line ≡ get_or lines index line
    → after_line (run_from first w (take index lines)) (first + index) line
    ≡ run_from first w (take (index + 1) lines)
run_from-more first index w lines line within is =
    let most : index ≤ length lines = omega (arith, within) in
    let count : length (take index lines) ≡ index = length-take-le index lines most in
    rw (take_more lines index line within, ← is)
    (rw count at (run_from-push first w (take index lines) line))

pub run_from-all : (plan : Plan) (first index : ℕ) → first ≡ plan.skipped + 2
    → length plan.lines ≤ index
    → run_from first (new_world plan.members) (take index plan.lines) ≡ run_of plan
unfolding run_of
run_from-all plan first index is past = rw (take_all index plan.lines past, is)
