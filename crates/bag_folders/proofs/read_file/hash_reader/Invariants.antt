use Rattle.std.proofs.Common.{◌≡◌}
use Rattle.bag_folders.proofs.Taken.{Taken}
use Rattle.bag_folders.proofs.read_file.hash_reader.Given as goal

-- what the reader gave so far was taken, and it fits
abbrev pub invariant-reads : goal.invariant-reads
invariant-reads g l =
    Taken l.hashing.file l.path (g.R.Read.remaining l.fn.input) (g.R.Read.remaining l.input)
    × (l.hashing.wanted ≡ l.fn.wanted)
