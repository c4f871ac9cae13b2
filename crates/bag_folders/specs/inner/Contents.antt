-- What a `Hashing` keeps of a file's bytes.
use Rattle.std.specs.Prelude.{◌≡◌, ℕ, true, false, List}
use Rattle.bag_tree.specs.declared.algorithms.Algorithms.{Algorithms}
use Rattle.bag_tree.specs.Path.{is_read_text}
use Rattle.bag_folders.specs.declared.hashing.Contents.{Contents}
use Rattle.bag_folders.specs.declared.hashing.Contents.TheVariants.{Text, Hashed}

-- the bytes that came so far
abbrev pub bytes_in : Contents → List ℕ
bytes_in (Text text) = text.items
bytes_in (Hashed digester) = digester.bytes

-- they are kept of a text that is read; of any other file, at this path, they are hashed by the
-- wanted algorithms
abbrev pub AreOfFile : List ℕ → Algorithms → Contents → Type 0
AreOfFile path wanted (Text text) = is_read_text path ≡ true
AreOfFile path wanted (Hashed digester) =
    (is_read_text path ≡ false) × (digester.wanted ≡ wanted)
