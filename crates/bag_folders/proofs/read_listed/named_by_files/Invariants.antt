use Rattle.std.proofs.Common.{◌≡◌, map, string_bytes, take}
use Rattle.bag_check.specs.Named.{named_of}
use Rattle.bag_folders.proofs.read_listed.named_by_files.Given as goal

-- those are wanted that the files so far name
abbrev pub invariant-loop-file : goal.invariant-loop-file
invariant-loop-file l =
    l.wanted ≡ named_of (map (λ file. string_bytes file.path) (take l.file-index l.files))
