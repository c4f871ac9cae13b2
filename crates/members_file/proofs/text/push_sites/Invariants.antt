use Rattle.std.proofs.Common.{◌≡◌, ◌++◌, take, string_bytes}
use Rattle.members_file.specs.Texts.{lines_from}
use Rattle.members_file.proofs.text.push_sites.Given as goal

-- the lines so far
abbrev pub invariant-loop-place : goal.invariant-loop-place
invariant-loop-place l =
    string_bytes l.text
    ≡ string_bytes l.initial.text ++ lines_from l.weights 1 (take l.place l.sites)
