-- Files that are read in pieces.
use Rattle.std.specs.Prelude.{◌≡◌, ◌⊎◌, ℕ, List, ◌++◌}
use Rattle.bag_tree.specs.declared.fault.TreeFault.{TreeFault}
use Rattle.bag_tree.specs.declared.fault.TreeFault.TheVariants.{Memory, Device, TextTooLong}
use Rattle.bag_tree.specs.Tree.{File}
use Rattle.bag_tree.specs.declared.algorithms.Algorithms.{Algorithms}

-- the file with a piece more
abbrev pub with_piece : File → List ℕ → File
with_piece file piece = record { path = file.path; bytes = file.bytes ++ piece }

-- a file, its bytes that came so far, and the digests that are wanted
pub record Hashed : Type 0 where
  pub wanted : Algorithms
  pub file : File

-- the same with a piece more
abbrev pub hashed_with : Hashed → List ℕ → Hashed
hashed_with hashed piece =
    record { wanted = hashed.wanted; file = with_piece hashed.file piece }

-- A reader that hasn't ended after this many reads counts as one that failed: a call has to end
-- whatever the reader does. This is the greatest number of 32 bits, so files of 32 terabytes fit in
-- pieces of 8,192 bytes, and files of 4 gigabytes byte by byte.
abbrev pub most_reads : ℕ
most_reads = 4294967295

-- the faults of reading one file's bytes
abbrev pub IsReadFault : TreeFault → Type 0
IsReadFault fault = (fault ≡ TextTooLong) ⊎ (fault ≡ Device) ⊎ (fault ≡ Memory)
